use Rattle.std.proofs.Common.{arith, refl, w32}
use Rattle.std.proofs.lemmas.Int.{to_z-of_z}
use Rattle.ra_ipc.specs.View.{id_of}
use Rattle.ra_session.specs.SessionCalls as calls
use Rattle.ra_session.specs.SessionRefusals as sessions
use Rattle.ra_grand_runs.specs.GrandRefusals.{if_session}
use Rattle.ra_grand.proofs.WorldSteps.{asked_one, not_asked_one, no_client_for}
use Rattle.ra_grand.proofs.world.GrandWorld.dispose.Goals as goal

pub returns-in-None : goal.returns-in-None
returns-in-None c =
    let none = rw c.len.ensures at c.in-None.ensures in
    λ w stands. (no_client_for (if_session (sessions.dispose_refusal (id_of c.args.id))) c.args.self.now c.args.client none w stands, stands)

pub returns-in-Ok : goal.returns-in-Ok
returns-in-Ok c =
    let same = to_z-of_z w32 c.args.id c.ranges.id in
    let asks = rw same at c.in-Ok.ensures in
    λ w stands.
    let made = asked_one c.args.self.now c.dispose.new.self c.args.client c.in-Some.n (tt {0}) (calls.dispose (id_of c.args.id)) (sessions.dispose_refusal (id_of c.args.id))
    c.in-Some.ensures.0 (omega (arith, c.in-Some.ensures.1, c.len.ensures)) asks w stands in
    (made.0, refl, made.1)

pub returns-in-Err : goal.returns-in-Err
returns-in-Err c =
    let same = to_z-of_z w32 c.args.id c.ranges.id in
    let asks = rw same at c.in-Err.ensures in
    not_asked_one (Unit {0}) c.args.self.now c.dispose.new.self c.args.client c.in-Some.n c.in-Err.fault (sessions.dispose_refusal (id_of c.args.id)) (calls.dispose (id_of c.args.id) c.args.self.now.moment) c.session_fault.result
    c.in-Some.ensures.0 (omega (arith, c.in-Some.ensures.1, c.len.ensures)) asks c.session_fault.ensures
