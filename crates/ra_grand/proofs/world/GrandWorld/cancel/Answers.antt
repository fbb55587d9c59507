use Rattle.std.proofs.Common.{arith, refl, w32}
use Rattle.std.proofs.lemmas.Int.{to_z-of_z}
use Rattle.ra_ipc.specs.View.{id_of}
use Rattle.ra_session.specs.declared.values.Outcome.{Outcome}
use Rattle.ra_session.specs.SessionCalls as calls
use Rattle.ra_session.specs.SessionRefusals as sessions
use Rattle.ra_grand_runs.specs.GrandRefusals.{if_session}
use Rattle.ra_grand.proofs.WorldSteps.{asked_one, not_asked_one, no_client_for}
use Rattle.ra_grand.proofs.world.GrandWorld.cancel.Goals as goal

pub returns-in-None : goal.returns-in-None
returns-in-None c =
    let none = rw c.len.ensures at c.in-None.ensures in
    λ w stands. (no_client_for (if_session (sessions.cancel_refusal (id_of c.args.id))) c.args.self.now c.args.client none w stands, stands)

pub returns-in-Ok : goal.returns-in-Ok
returns-in-Ok c =
    let same = to_z-of_z w32 c.args.id c.ranges.id in
    let asks = rw same at c.in-Ok.ensures.asks in
    λ w stands.
    let made = asked_one c.args.self.now c.cancel.new.self c.args.client c.in-Some.n c.in-Ok.outcome (calls.cancel (id_of c.args.id)) (sessions.cancel_refusal (id_of c.args.id))
    c.in-Some.ensures.0 (omega (arith, c.in-Some.ensures.1, c.len.ensures)) asks w stands in
    (made.0, refl, made.1)

pub returns-in-Err : goal.returns-in-Err
returns-in-Err c =
    let same = to_z-of_z w32 c.args.id c.ranges.id in
    let asks = rw same at c.in-Err.ensures.asks in
    not_asked_one (Outcome) c.args.self.now c.cancel.new.self c.args.client c.in-Some.n c.in-Err.fault (sessions.cancel_refusal (id_of c.args.id)) (calls.cancel (id_of c.args.id) c.args.self.now.moment) c.session_fault.result
    c.in-Some.ensures.0 (omega (arith, c.in-Some.ensures.1, c.len.ensures)) asks c.session_fault.ensures
