use Rattle.std.proofs.Common.{◌∷◌, [], Some, sym, ◌∙◌, subst, ap}
use Rattle.ra_model.specs.Frames.{joined}
use Rattle.ra_model.specs.FrameKinds.{replay_request}
use Rattle.ra_model.specs.Endpoints.{Endpoint as AbstractEndpoint}
use Rattle.ra_model.specs.Calls.{moment}
use Rattle.ra_model.specs.HeardPlaces.{applied}
use Rattle.ra_model.specs.EndpointStates.{EndpointState, IsConsistent, StandsFor}
use Rattle.ra_proto.proofs.Applied.{applied_gap}
use Rattle.ra_proto.proofs.Passing.{with_unwritten}
use Rattle.ra_proto.proofs.endpoint.Endpoint.apply_gap.Goals as goal

pub returns-clause-stands : goal.returns-clause-stands
returns-clause-stands c =
    let s : EndpointState = c.args.self.now in
    let whole : IsConsistent s = subst (λ (x : EndpointState). IsConsistent x) c.self.view_is c.self.invariant.0 in
    let is = c.self-2.view_is ∙ c.pass.ensures.passed
    ∙ with_unwritten c.args.frame.now.ack c.args.now (λ x. joined (replay_request ∷ [])) _ s _ c.self.view_is c.in_ok-append.ensures.ok in
    subst (λ (x : EndpointState). (e : AbstractEndpoint) → StandsFor s e → StandsFor (record x { timing = record x.timing { asked = Some x.timing.latest } }) (applied (moment c.args.now e) c.args.frame.now e)) (sym is)
    (applied_gap c.args.frame.now c.args.now s c.requires.kind c.requires.gap c.requires.other whole)

pub returns-clause-unread : goal.returns-clause-unread
returns-clause-unread c = ap (λ (x : EndpointState). x.unread) (c.self-2.view_is ∙ c.pass.ensures.passed) ∙ ap (λ (x : EndpointState). x.unread) c.self.view_is

pub returns-clause-epoch : goal.returns-clause-epoch
returns-clause-epoch c = ap (λ (x : EndpointState). x.epoch) (c.self-2.view_is ∙ c.pass.ensures.passed) ∙ ap (λ (x : EndpointState). x.epoch) c.self.view_is
