use Rattle.std.proofs.Common.{◌<◌, length, arith}
use Rattle.ra_dial.specs.declared.values.DialEvent.TheVariants as events
use Rattle.ra_grand_runs.specs.GrandRefusals.{if_not_dialling}
use Rattle.ra_grand.proofs.LinkingSteps.{waits, waits_not}
use Rattle.ra_grand.proofs.WorldSteps.{dials_one, no_client_for}
use Rattle.ra_grand.proofs.world.GrandWorld.no_link.Goals as goal

pub returns-in-None : goal.returns-in-None
returns-in-None c =
    let none = rw c.len.ensures at c.in-None.ensures in
    λ w stands. (no_client_for (if_not_dialling c.args.client) c.args.self.now c.args.client none w stands, stands)

pub returns-then-not-is_calling : goal.returns-then-not-is_calling
returns-then-not-is_calling c =
    let less : c.in-Some.n < length c.args.self.now.clients = omega (arith, c.in-Some.ensures.1, c.len.ensures) in
    λ w stands. (waits_not c.args.self.now c.args.client c.in-Some.n c.is_calling.result c.in-Some.ensures.0 less c.is_calling.ensures c.if-not-is_calling.true w stands, stands)

pub returns-in-Ok : goal.returns-in-Ok
returns-in-Ok c =
    let less : c.in-Some.n < length c.args.self.now.clients = omega (arith, c.in-Some.ensures.1, c.len.ensures) in
    rw (c.new.ensures) (
    λ w stands.
    let done = dials_one c.answer_is_read.ensures.whole c.answer_is_read.ensures.front c.args.self.now c.dial.new.self c.args.client c.in-Some.n events.NoLink c.in-Ok.act (tt {0}) c.in-Some.ensures.0 less
    c.in-Ok.ensures.dials w stands in
    (waits c.args.self.now c.args.client c.in-Some.n c.is_calling.result c.in-Some.ensures.0 less c.is_calling.ensures c.if-not-is_calling.false w stands, done.1, done.2))
