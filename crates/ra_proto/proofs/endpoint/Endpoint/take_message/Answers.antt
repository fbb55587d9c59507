use Rattle.std.proofs.Common.{◌≡◌, drop, ap, ◌∙◌, sym, subst}
use Rattle.ra_model.specs.EndpointStates.{EndpointState, StandsFor}
use Rattle.ra_model.specs.Taking.{take_frame}
use Rattle.ra_proto.proofs.Peeking.{next_taken}
use Rattle.ra_proto.proofs.endpoint.Endpoint.take_message.Goals as goal

pub returns-clause-stands : goal.returns-clause-stands
returns-clause-stands c =
    let s : EndpointState = c.args.self.now in
    let same : c.self.inside.unread ≡ s.unread = ap (λ (x : EndpointState). x.unread) (c.self.view_is ∙ c.receive.ensures.received) in
    λ e h. rw (c.skip.ensures, same) (subst (λ (x : EndpointState). StandsFor (record x { unread = drop c.args.len s.unread }) (take_frame c.args.now e)) (sym (c.self.view_is ∙ c.receive.ensures.received))
    (next_taken c.requires.next c.args.now c.receive.ensures.consistent e h))
