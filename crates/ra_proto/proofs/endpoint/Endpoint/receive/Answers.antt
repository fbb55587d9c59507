use Rattle.std.proofs.Common.{◌≡◌, ◌≤◌, cond, ap, ◌∙◌, arith}
use Rattle.ra_model.specs.EndpointStates.{EndpointState}
use Rattle.ra_model.specs.Endpoints.{is_up}
use Rattle.ra_model.specs.Timing.{message_heard}
use Rattle.ra_proto.proofs.endpoint.Endpoint.receive.Goals as goal

pub invariant_of-self : goal.invariant_of-self
invariant_of-self c =
    let k = c.self.invariant.0 in
    let before : c.self.inside.received ≡ c.args.self.now.received = ap (λ (x : EndpointState). x.received) (c.self.view_is ∙ c.pass.ensures.passed) in
    let low : c.self.inside.told ≤ c.args.id = omega (arith, k.told, before, c.requires) in
    (record { all = k.all; id = k.id; fits = k.fits; told = low }, omega (arith, c.heard_where-self-inside.ensures.moments.0, c.self.invariant.1), c.heard_where-self-inside.ensures.moments.1)

pub returns-clause-received : goal.returns-clause-received
returns-clause-received c =
    rw (c.heard_where-self-inside.ensures.timing, c.is_up.ensures)
    (ap (λ (x : EndpointState). record x { received = c.args.id; timing = cond (is_up x.phase) (message_heard x.timing.latest x.timing) x.timing }) (c.self.view_is ∙ c.pass.ensures.passed))
