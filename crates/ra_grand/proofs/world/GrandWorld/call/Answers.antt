use Rattle.std.proofs.Common.{◌≡◌, arith, ap, ◌∙◌, rules, w32, to_z, of_z}
use Rattle.std.proofs.lemmas.Int.{to_z-of_z, ints}
use Rattle.ra_ipc.specs.View.{id_of}
use Rattle.ra_grand_runs.specs.GrandEffects.{issued}
use Rattle.std.specs.Prelude.{ℤ}
use Rattle.ra_values.specs.View.{tree}
use Rattle.ra_session.specs.SessionCalls as calls
use Rattle.ra_session.specs.SessionRefusals as sessions
use Rattle.ra_grand_runs.specs.GrandRefusals.{if_session}
use Rattle.ra_grand.proofs.WorldSteps.{asked_one, not_asked_one, no_client_for, issued_one}
use Rattle.ra_grand.proofs.world.GrandWorld.call.Goals as goal

pub returns-in-None : goal.returns-in-None
returns-in-None c =
    let none = rw c.len.ensures at c.in-None.ensures in
    λ w stands. (no_client_for (if_session (sessions.call_refusal c.args.channel c.args.name (tree c.args.arg))) c.args.self.now c.args.client none w stands, stands)

pub returns-in-Ok : goal.returns-in-Ok
returns-in-Ok c =
    let same : to_z w32 (of_z w32 c.in-Ok.id) ≡ c.in-Ok.id = search (rules, ints, to_z-of_z, c.in-Ok.is, c.call.type_inv) in
    λ w stands.
    let made = asked_one c.args.self.now c.call.new.self c.args.client c.in-Some.n c.in-Ok.id (calls.call c.args.channel c.args.name (tree c.args.arg)) (sessions.call_refusal c.args.channel c.args.name (tree c.args.arg))
    c.in-Some.ensures.0 (omega (arith, c.in-Some.ensures.1, c.len.ensures)) c.in-Ok.ensures.asks w stands in
    (made.0, ap (λ (z : ℤ). issued (id_of z)) same ∙ issued_one c.args.self.now c.args.client c.in-Some.n c.in-Ok.id c.in-Some.ensures.0 (omega (arith, c.in-Some.ensures.1, c.len.ensures)) c.in-Ok.ensures.id w stands, made.1)

pub returns-in-Err : goal.returns-in-Err
returns-in-Err c =
    not_asked_one (ℤ) c.args.self.now c.call.new.self c.args.client c.in-Some.n c.in-Err.fault (sessions.call_refusal c.args.channel c.args.name (tree c.args.arg)) (calls.call c.args.channel c.args.name (tree c.args.arg) c.args.self.now.moment) c.session_fault.result
    c.in-Some.ensures.0 (omega (arith, c.in-Some.ensures.1, c.len.ensures)) c.in-Err.ensures.asks c.session_fault.ensures
