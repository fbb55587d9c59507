use Rattle.std.proofs.Common.{arith}
use Rattle.ra_grand.proofs.WorldSteps.{dials_one, stays_one, no_client}
use Rattle.ra_grand.proofs.world.GrandWorld.dial.Goals as goal

pub returns-in-None : goal.returns-in-None
returns-in-None c =
    let none = rw c.len.ensures at c.in-None.ensures in
    λ w stands. (no_client c.args.self.now c.args.client none w stands, stands)

pub returns-in-Ok : goal.returns-in-Ok
returns-in-Ok c =
    rw (c.new.ensures)
    (dials_one c.answer_is_read.ensures.whole c.answer_is_read.ensures.front c.args.self.now c.dial.new.self c.args.client c.in-Some.n c.args.event c.in-Ok.act c.requires c.in-Some.ensures.0 (omega (arith, c.in-Some.ensures.1, c.len.ensures)) c.in-Ok.ensures.dials)

pub returns-in-Err : goal.returns-in-Err
returns-in-Err c = λ w stands. (tt, stays_one c.args.self.now c.dial.new.self c.in-Err.ensures.stays w stands)
