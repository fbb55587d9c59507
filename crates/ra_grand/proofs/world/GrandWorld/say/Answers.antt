use Rattle.std.proofs.Common.{arith, refl}
use Rattle.ra_session.specs.SessionCalls as calls
use Rattle.ra_session.specs.SessionRefusals as sessions
use Rattle.ra_grand_runs.specs.GrandRefusals.{if_session}
use Rattle.ra_grand.proofs.WorldSteps.{asked_one, not_asked_one, no_client_for}
use Rattle.ra_grand.proofs.world.GrandWorld.say.Goals as goal

pub returns-in-None : goal.returns-in-None
returns-in-None c =
    let none = rw c.len.ensures at c.in-None.ensures in
    λ w stands. (no_client_for (if_session (sessions.say_refusal c.args.body)) c.args.self.now c.args.client none w stands, stands)

pub returns-in-Ok : goal.returns-in-Ok
returns-in-Ok c =
    λ w stands.
    let made = asked_one c.args.self.now c.say.new.self c.args.client c.in-Some.n (tt {0}) (calls.say_body c.args.body) (sessions.say_refusal c.args.body)
    c.in-Some.ensures.0 (omega (arith, c.in-Some.ensures.1, c.len.ensures)) c.in-Ok.ensures w stands in
    (made.0, refl, made.1)

pub returns-in-Err : goal.returns-in-Err
returns-in-Err c =
    not_asked_one (Unit {0}) c.args.self.now c.say.new.self c.args.client c.in-Some.n c.in-Err.fault (sessions.say_refusal c.args.body) (calls.say_body c.args.body c.args.self.now.moment) c.session_fault.result
    c.in-Some.ensures.0 (omega (arith, c.in-Some.ensures.1, c.len.ensures)) c.in-Err.ensures c.session_fault.ensures
