use Rattle.std.proofs.Common.{◌≡◌, ℕ, ◌+◌, ◌-◌, not, ap, subst, ◌∙◌, arith}
use Rattle.std.specs.List.{filter}
use Rattle.std.specs.Map.{keys_of}
use Rattle.ra_ipc.specs.Messages.{opens}
use Rattle.ra_ipc.specs.ChannelClients.{Client, without}
use Rattle.ra_chan_client.specs.Held.{AreIds, messages}
use Rattle.ra_chan_client.specs.TakingBack.{taken_back}
use Rattle.ra_chan_client.proofs.Kept.{requests_filter, messages_without, same_parts}
use Rattle.ra_chan_client.proofs.TakenBack.{ids_less, entries_less, call_undone, listen_undone}
use Rattle.ra_chan_client.proofs.client.ChannelClient.take_back.Goals as goal

pub invariant_of-self : goal.invariant_of-self
invariant_of-self c =
    let id : ℕ = c.self.inside.next - 1 in
    let before : c.self.inside.next ≡ c.args.self.now.next = ap (λ (x : Client). x.next) c.self.view_is in
    let next : c.self.inside.next ≡ id + 1 = omega (arith, c.requires) in
    let kept = c.self.invariant in
    let call_ids : AreIds (id + 1) c.self.inside.calls.keys = subst (λ (n : ℕ). AreIds n c.self.inside.calls.keys) next kept.call_ids in
    let listener_ids : AreIds (id + 1) c.self.inside.listeners.keys = subst (λ (n : ℕ). AreIds n c.self.inside.listeners.keys) next kept.listener_ids in
    let waiting_ids : AreIds (id + 1) (keys_of c.self.inside.waiting.entries) = subst (λ (n : ℕ). AreIds n (keys_of c.self.inside.waiting.entries)) next kept.waiting_ids in
    let gone = (c.forget.ensures c.self.inside.next kept.waiting_ids).0 in
    record {
      most = omega (arith, kept.most);
      call_ids = rw (c.take.ensures.left c.self.inside.next kept.call_ids).0 (ids_less id c.self.inside.calls.keys call_ids);
      listener_ids = rw (c.take-2.ensures.left c.self.inside.next kept.listener_ids).0 (ids_less id c.self.inside.listeners.keys listener_ids);
      waiting_ids = rw gone (entries_less id c.self.inside.waiting.entries waiting_ids);
      requests = rw gone (requests_filter _ c.self.inside.waiting.entries kept.requests);
    }

taken : goal.returns-clause-state
taken c =
    let id : ℕ = c.self.inside.next - 1 in
    let left : c.take.new.ids.keys ≡ without id c.self.inside.calls.keys = (c.take.ensures.left c.self.inside.next c.self.invariant.call_ids).0 in
    let left-2 : c.take-2.new.ids.keys ≡ without id c.self.inside.listeners.keys = (c.take-2.ensures.left c.self.inside.next c.self.invariant.listener_ids).0 in
    let kept : messages c.forget.new.waiting.entries ≡ filter (λ m. not (opens id m)) (messages c.self.inside.waiting.entries) =
    ap messages (c.forget.ensures c.self.inside.next c.self.invariant.waiting_ids).0 ∙ messages_without id c.self.inside.waiting.entries c.self.invariant.requests in
    same_parts id c.self.inside.ready _ _ _ _ _ _ kept left left-2 ∙ ap taken_back c.self.view_is

pub returns-clause-state : goal.returns-clause-state
returns-clause-state c = taken c

pub returns-clause-call : goal.returns-clause-call
returns-clause-call c = λ before channel name arg fresh is. taken c ∙ ap taken_back is ∙ call_undone before channel name arg fresh

pub returns-clause-listen : goal.returns-clause-listen
returns-clause-listen c = λ before channel event arg fresh is. taken c ∙ ap taken_back is ∙ listen_undone before channel event arg fresh
