use Rattle.std.proofs.Common.{◌≡◌, ℕ, true, w32, of_z, refl, sym, ap, ◌∙◌}
use Rattle.std.proofs.lemmas.Int.{to_z-of_z}
use Rattle.ra_ipc.specs.ChannelClients.{is_in, without}
use Rattle.ra_ipc.specs.View.{id_of}
use Rattle.ra_chan_client.proofs.client.ChannelClient.settle.Goals as goal

pub invariant_of-self-2 : goal.invariant_of-self-2
invariant_of-self-2 c = record {
  most = c.self.invariant.most;
  call_ids = (c.take.ensures.left c.self.inside.next c.self.invariant.call_ids).1;
  listener_ids = c.self.invariant.listener_ids;
  waiting_ids = c.self.invariant.waiting_ids;
  requests = c.self.invariant.requests;
}

pub returns-clause-after : goal.returns-clause-after
returns-clause-after c =
    let same : c.cast_unsigned.result ≡ id_of c.args.id = c.cast_unsigned.ensures ∙ ap (of_z w32) (to_z-of_z w32 c.args.id c.ranges.id) in
    let found : is_in (id_of c.args.id) c.self.inside.calls.keys ≡ true = sym (c.if-not-take.ensures.found ∙ ap (λ (i : ℕ). is_in i c.self.inside.calls.keys) same) in
    let left : c.take.new.ids.keys ≡ without (id_of c.args.id) c.self.inside.calls.keys = (c.take.ensures.left c.self.inside.next c.self.invariant.call_ids).0 ∙ ap (λ (i : ℕ). without i c.self.inside.calls.keys) same in
    rw (← c.self.view_is, found, left) refl
