use Rattle.std.proofs.Common.{sym, ◌∙◌, w32, map}
use Rattle.std.specs.Prelude.{option_map}
use Rattle.ra_ipc.specs.Packets.{message_bytes}
use Rattle.ra_ipc.specs.View.{id_of, reply}
use Rattle.ra_session.specs.Sessions.{is_management}
use Rattle.ra_session.specs.SessionCalls.{answer_packets}
use Rattle.ra_session.specs.View.{firing_of}
use Rattle.std.proofs.lemmas.Int.{to_z-of_z}
use Rattle.std.proofs.lemmas.Result.{err_from_is_err_and}
use Rattle.ra_session.proofs.SaySteps.{answer_ended, answer_to, answer_wrong, answer_unknown, answer_refuses, answer_admits}
use Rattle.ra_session.proofs.Carrying.{say_all_carries}
use Rattle.ra_session.proofs.session.Session.answer.Goals as goal

pub returns-in_err-running-clause-refused : goal.returns-in_err-running-clause-refused
returns-in_err-running-clause-refused c =
    let p = err_from_is_err_and c.from_residual.result c.from_residual.ensures.1 in
    rw (p.1, p.2, ← c.self.view_is) (answer_ended _ _ _ _ _ c.in_err-running.ensures.err)

pub returns-then-not-is_management-clause-refused : goal.returns-then-not-is_management-clause-refused
returns-then-not-is_management-clause-refused c =
    let going = c.in_ok-running.ensures.ok in
    rw (← c.self.view_is) (answer_wrong _ _ _ _ going (sym c.is_management.ensures ∙ c.if-not-is_management.true))

pub returns-then-not-has_call-clause-refused : goal.returns-then-not-has_call-clause-refused
returns-then-not-has_call-clause-refused c =
    let going = c.in_ok-running.ensures.ok in
    let same = to_z-of_z w32 c.args.id c.ranges.id in
    let known = rw same at c.has_call.ensures.open in
    rw (same, ← c.self.view_is)
    (answer_unknown _ _ _ _ going (sym c.is_management.ensures ∙ c.if-not-is_management.false) (sym known ∙ c.if-not-has_call.true))

pub returns-in_err-say_all-clause-refused : goal.returns-in_err-say_all-clause-refused
returns-in_err-say_all-clause-refused c =
    let p = err_from_is_err_and c.from_residual-in_err-say_all.result c.from_residual-in_err-say_all.ensures.1 in
    let going = c.in_ok-running.ensures.ok in
    let same = to_z-of_z w32 c.args.id c.ranges.id in
    let known = rw same at c.has_call.ensures.open in
    rw (p.1, p.2, ← c.self.view_is)
    (answer_refuses _ _ _ _ _ _ going (sym c.is_management.ensures ∙ c.if-not-is_management.false) (sym known ∙ c.if-not-has_call.false)
    (rw same at c.in-Ok.ensures) c.in_err-say_all.ensures.refused)

pub returns-clause-stands : goal.returns-clause-stands
returns-clause-stands c =
    let same = to_z-of_z w32 c.args.id c.ranges.id in
    rw (← c.self.view_is, c.end_call.ensures, same) (answer_to _ _ _ _ _ c.args.now _ (rw same at c.in-Ok.ensures) c.in_ok-say_all.ensures.stands)

pub returns-clause-refused : goal.returns-clause-refused
returns-clause-refused c =
    let going = c.in_ok-running.ensures.ok in
    let same = to_z-of_z w32 c.args.id c.ranges.id in
    let known = rw same at c.has_call.ensures.open in
    rw (← c.self.view_is)
    (answer_admits _ _ _ _ _ going (sym c.is_management.ensures ∙ c.if-not-is_management.false) (sym known ∙ c.if-not-has_call.false)
    (rw same at c.in-Ok.ensures) c.in_ok-say_all.ensures.refused)

pub returns-in_err-say_all-clause-carries : goal.returns-in_err-say_all-clause-carries
returns-in_err-say_all-clause-carries c =
    let p = err_from_is_err_and c.from_residual-in_err-say_all.result c.from_residual-in_err-say_all.ensures.1 in
    let same = to_z-of_z w32 c.args.id c.ranges.id in
    let refused = rw (rw same at c.in-Ok.ensures) at c.in_err-say_all.ensures.refused in
    rw (p.1, p.2, ← c.self.view_is)
    (say_all_carries (is_management c.self.inside.kind) c.self.inside.endpoint.phase c.self.inside.endpoint.sent
    (map message_bytes (answer_packets c.self.inside.server (id_of c.args.id) (reply c.args.answer) (option_map firing_of c.args.fire.now))) c.in_err-say_all.field-0.0 refused)
