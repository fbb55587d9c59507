use Rattle.std.proofs.Common.{◌<◌, length, ap, arith}
use Rattle.ra_grand_runs.specs.GrandEffects.{made}
use Rattle.ra_grand_runs.specs.GrandRefusals.{if_not_dialling}
use Rattle.ra_grand.proofs.LinkingSteps.{waits, waits_not, calls_at}
use Rattle.ra_grand.proofs.WorldSteps.{no_client_for}
use Rattle.ra_grand.proofs.world.GrandWorld.linked.Goals as goal

pub returns-in-None : goal.returns-in-None
returns-in-None c =
    let none = rw c.len.ensures at c.in-None.ensures in
    λ w stands. (no_client_for (if_not_dialling c.args.client) c.args.self.now c.args.client none w stands, stands)

pub returns-then-not-is_calling : goal.returns-then-not-is_calling
returns-then-not-is_calling c =
    let less : c.in-Some.n < length c.args.self.now.clients = omega (arith, c.in-Some.ensures.1, c.len.ensures) in
    λ w stands. (waits_not c.args.self.now c.args.client c.in-Some.n c.is_calling.result c.in-Some.ensures.0 less c.is_calling.ensures c.if-not-is_calling.true w stands, stands)

pub returns-in-Ok : goal.returns-in-Ok
returns-in-Ok c =
    let less : c.in-Some.n < length c.args.self.now.clients = omega (arith, c.in-Some.ensures.1, c.len.ensures) in
    λ w stands.
    let done = c.in-Ok.ensures.linked w stands (calls_at c.args.self.now c.in-Some.n c.is_calling.result c.is_calling.ensures c.if-not-is_calling.false w stands) in (
      waits c.args.self.now c.args.client c.in-Some.n c.is_calling.result c.in-Some.ensures.0 less c.is_calling.ensures c.if-not-is_calling.false w stands,
      ap (λ n. made n) done.0,
      done.1,
    )
