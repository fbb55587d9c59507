use Rattle.std.proofs.Common.{◌≡◌, Option, Some, None, w32, sym, ◌∙◌}
use Rattle.std.proofs.lemmas.Int.{to_z-of_z}
use Rattle.std.proofs.lemmas.Result.{err_from_is_err_and}
use Rattle.ra_ipc.specs.Messages.{promise_cancel}
use Rattle.ra_ipc.specs.View.{id_of}
use Rattle.ra_session.specs.Faults.{fault_of}
use Rattle.ra_session.specs.SessionRefusals.{Refusal, IsRefusal, wrong_kind, no_such_call}
use Rattle.ra_session.proofs.SaySteps.{cancel_to, as_cancel, end_ended, end_wrong, end_unknown, end_refuses, end_admits, cancel_sayable}
use Rattle.ra_session.proofs.Soundness.{cancelled_sound}
use Rattle.ra_session.proofs.session.Session.cancel.Goals as goal

pub returns-in_err-running-clause-refused : goal.returns-in_err-running-clause-refused
returns-in_err-running-clause-refused c =
    let p = err_from_is_err_and c.from_residual.result c.from_residual.ensures.1 in
    rw (p.1, p.2, ← c.self.view_is) (as_cancel _ (id_of c.args.id) (λ (r : Option Refusal). IsRefusal c.in_err-running.field-0.0 r) (end_ended _ (id_of c.args.id) c.self.inside.client.calls (promise_cancel (id_of c.args.id)) _ c.in_err-running.ensures.err))

pub returns-then-not-is_management-clause-refused : goal.returns-then-not-is_management-clause-refused
returns-then-not-is_management-clause-refused c =
    rw (← c.self.view_is)
    (as_cancel _ (id_of c.args.id) (λ (r : Option Refusal). r ≡ Some wrong_kind)
    (end_wrong _ (id_of c.args.id) c.self.inside.client.calls (promise_cancel (id_of c.args.id)) c.in_ok-running.ensures.ok (sym c.is_management.ensures ∙ c.if-not-is_management.true)))

pub returns-then-not-has_call-clause-refused : goal.returns-then-not-has_call-clause-refused
returns-then-not-has_call-clause-refused c =
    let same = to_z-of_z w32 c.args.id c.ranges.id in
    let known = rw same at c.has_call.ensures.open in
    rw (same, ← c.self.view_is)
    (as_cancel _ (id_of c.args.id) (λ (r : Option Refusal). r ≡ Some (no_such_call (id_of c.args.id)))
    (end_unknown _ (id_of c.args.id) c.self.inside.client.calls (promise_cancel (id_of c.args.id)) c.in_ok-running.ensures.ok (sym c.is_management.ensures ∙ c.if-not-is_management.false) (sym known ∙ c.if-not-has_call.true)))

pub returns-in_err-say_when-clause-refused : goal.returns-in_err-say_when-clause-refused
returns-in_err-say_when-clause-refused c =
    let p = err_from_is_err_and c.from_residual-in_err-say_when.result c.from_residual-in_err-say_when.ensures.1 in
    let same = to_z-of_z w32 c.args.id c.ranges.id in
    let known = rw same at c.has_call.ensures.open in
    let refused = rw c.is_ready.ensures at c.in_err-say_when.ensures.refused in
    rw (p.1, p.2, ← c.self.view_is)
    (as_cancel _ (id_of c.args.id) (λ (r : Option Refusal). IsRefusal (fault_of c.in_err-say_when.field-0.0) r)
    (end_refuses _ (id_of c.args.id) c.self.inside.client.calls (promise_cancel (id_of c.args.id)) _ _ c.in_ok-running.ensures.ok (sym c.is_management.ensures ∙ c.if-not-is_management.false) (sym known ∙ c.if-not-has_call.false)
    (cancel_sayable (id_of c.args.id)) (rw same at c.in-Ok.ensures) refused))

pub returns-clause-stands : goal.returns-clause-stands
returns-clause-stands c =
    let same = to_z-of_z w32 c.args.id c.ranges.id in
    let stands = rw c.is_ready.ensures at c.in_ok-say_when.ensures.stands in
    rw (← c.self.view_is, c.cancelled.ensures, same) (cancel_to _ _ (id_of c.args.id) c.args.now _ (rw same at c.in-Ok.ensures) stands)

pub returns-clause-refused : goal.returns-clause-refused
returns-clause-refused c =
    let same = to_z-of_z w32 c.args.id c.ranges.id in
    let known = rw same at c.has_call.ensures.open in
    let refused = rw c.is_ready.ensures at c.in_ok-say_when.ensures.refused in
    rw (← c.self.view_is)
    (as_cancel _ (id_of c.args.id) (λ (r : Option Refusal). r ≡ None)
    (end_admits _ (id_of c.args.id) c.self.inside.client.calls (promise_cancel (id_of c.args.id)) _ c.in_ok-running.ensures.ok (sym c.is_management.ensures ∙ c.if-not-is_management.false) (sym known ∙ c.if-not-has_call.false)
    (cancel_sayable (id_of c.args.id)) (rw same at c.in-Ok.ensures) refused))

pub invariant_of-self-2 : goal.invariant_of-self-2
invariant_of-self-2 c = rw c.cancelled.ensures (cancelled_sound _ _ _ c.self.invariant c.in_ok-say_when.ensures.link)
