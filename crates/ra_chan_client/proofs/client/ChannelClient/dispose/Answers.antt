use Rattle.std.proofs.Common.{◌≡◌, ℕ, not, w32, of_z, refl, ap, ◌∙◌}
use Rattle.std.proofs.lemmas.Int.{to_z-of_z}
use Rattle.std.specs.List.{filter}
use Rattle.ra_ipc.specs.Messages.{opens}
use Rattle.ra_ipc.specs.ChannelClients.{Client, without, after_dispose}
use Rattle.ra_ipc.specs.View.{id_of}
use Rattle.ra_chan_client.specs.Held.{messages}
use Rattle.ra_chan_client.proofs.Kept.{requests_filter, messages_without, same_parts}
use Rattle.ra_chan_client.proofs.client.ChannelClient.dispose.Goals as goal

pub invariant_of-self-2 : goal.invariant_of-self-2
invariant_of-self-2 c =
    let gone = c.forget.ensures c.self.inside.next c.self.invariant.waiting_ids in
    record {
      most = c.self.invariant.most;
      call_ids = c.self.invariant.call_ids;
      listener_ids = (c.take.ensures.left c.self.inside.next c.self.invariant.listener_ids).1;
      waiting_ids = gone.1;
      requests = rw gone.0 (requests_filter _ c.self.inside.waiting.entries c.self.invariant.requests);
    }

pub returns-clause-after : goal.returns-clause-after
returns-clause-after c =
    let back = to_z-of_z w32 c.args.id c.ranges.id in
    let same : c.cast_unsigned.result ≡ id_of c.args.id = c.cast_unsigned.ensures ∙ ap (of_z w32) back in
    let same-2 : c.cast_unsigned-2.result ≡ id_of c.args.id = c.cast_unsigned-2.ensures ∙ ap (of_z w32) back in
    let left : c.take.new.ids.keys ≡ without (id_of c.args.id) c.self.inside.listeners.keys = (c.take.ensures.left c.self.inside.next c.self.invariant.listener_ids).0 ∙ ap (λ (i : ℕ). without i c.self.inside.listeners.keys) same in
    let kept : messages c.forget.new.waiting.entries ≡ filter (λ m. not (opens (id_of c.args.id) m)) (messages c.self.inside.waiting.entries) =
    ap messages (c.forget.ensures c.self.inside.next c.self.invariant.waiting_ids).0
    ∙ messages_without c.cast_unsigned-2.result c.self.inside.waiting.entries c.self.invariant.requests
    ∙ ap (λ (i : ℕ). filter (λ m. not (opens i m)) (messages c.self.inside.waiting.entries)) same-2 in
    same_parts c.self.inside.next c.self.inside.ready _ _ c.self.inside.calls.keys c.self.inside.calls.keys _ _ kept refl left
    ∙ ap (λ (v : Client). after_dispose v (id_of c.args.id)) c.self.view_is
