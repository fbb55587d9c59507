use Rattle.std.proofs.Common.{refl, arith}
use Rattle.std.proofs.lemmas.Bool.{cond_both}
use Rattle.ra_values.specs.View.{tree}
use Rattle.ra_chan_client.specs.Held.{AreRequests}
use Rattle.ra_chan_client.proofs.Ascents.{ids_more}
use Rattle.ra_chan_client.proofs.Kept.{listen_fits, requests_push, id_back}
use Rattle.ra_chan_client.proofs.TakenBack.{fresh_is}
use Rattle.ra_chan_client.proofs.client.ChannelClient.listen.Goals as goal

pub invariant_of-self-2 : goal.invariant_of-self-2
invariant_of-self-2 c =
    let same = id_back c.cast_signed.result c.self.inside.next c.cast_signed.ensures (omega (arith, c.if-id-ge-IDS.false)) in
    record {
      most = omega (arith, c.if-id-ge-IDS.false);
      call_ids = ids_more c.self.inside.next c.self.inside.calls.keys c.self.invariant.call_ids;
      listener_ids = c.in_ok-packet.ensures.ids;
      waiting_ids = c.in_ok-packet.ensures.waiting;
      requests = rw c.in_ok-packet.ensures.kept (cond_both c.self.inside.ready _ _ AreRequests (λ _. c.self.invariant.requests)
          (λ _. requests_push c.self.inside.waiting.entries c.self.inside.next _ c.self.invariant.requests same
          (rw same (listen_fits c.self.inside.next c.args.channel c.args.event (tree c.args.arg) (omega (arith, c.if-id-ge-IDS.false)) c.is_text.ensures c.is_text-2.ensures c.requires))));
    }

pub returns-clause-fresh : goal.returns-clause-fresh
returns-clause-fresh c = rw (← c.self.view_is) (fresh_is _ c.self.inside.waiting.entries refl c.self.invariant)
