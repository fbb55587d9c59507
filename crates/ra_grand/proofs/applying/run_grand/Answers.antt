use Rattle.std.proofs.Common.{arith}
use Rattle.ra_grand.proofs.RunSteps.{runs_on, refused}
use Rattle.ra_grand.proofs.applying.run_grand.Goals as goal

pub returns-in-Err-clause-refused : goal.returns-in-Err-clause-refused
returns-in-Err-clause-refused c =
    refused c.args.events.now c.loop-at.at c.index-events-at.result c.in-Err.fault c.loop-at.world c.apply.new.self (omega (arith, c.loop-at-test.true)) c.index-events-at.is
    c.loop-at.invariant c.in-Err.ensures

pub loop-at-preserved : goal.loop-at-preserved
loop-at-preserved c =
    runs_on c.args.events.now c.loop-at.at c.index-events-at.result c.in-Ok.effect c.loop-at.world c.apply.new.self (omega (arith, c.loop-at-test.true)) c.index-events-at.is
    c.loop-at.invariant c.in-Ok.ensures
