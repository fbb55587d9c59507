use Rattle.std.proofs.Common.{true, sym, ◌∙◌, subst}
use Rattle.ra_model.specs.FrameKinds.FrameKind.{Pause}
use Rattle.ra_model.specs.Endpoints.{Endpoint as AbstractEndpoint}
use Rattle.ra_model.specs.Calls.{moment}
use Rattle.ra_model.specs.HeardPlaces.{applied}
use Rattle.ra_model.specs.EndpointStates.{EndpointState, StandsFor}
use Rattle.ra_proto.proofs.Applied.{applied_kind}
use Rattle.ra_proto.proofs.endpoint.Endpoint.apply_pause.Goals as goal

pub returns-clause-stands : goal.returns-clause-stands
returns-clause-stands c =
    let s : EndpointState = c.args.self.now in
    subst (λ (x : EndpointState). (e : AbstractEndpoint) → StandsFor s e → StandsFor (record x { paused = true }) (applied (moment c.args.now e) c.args.frame.now e)) (sym (c.self.view_is ∙ c.pass.ensures.passed))
    (applied_kind Pause c.args.frame.now c.args.now s c.requires.kind c.pass.ensures.consistent)
