use Rattle.std.proofs.Common.{◌≡◌, Option, Some, sym, ◌∙◌}
use Rattle.std.proofs.lemmas.Result.{err_from_is_err_and}
use Rattle.ra_session.specs.SessionRefusals.{Refusal, IsRefusal, wrong_kind, ids_spent}
use Rattle.ra_session.proofs.SaySteps.{as_listen, request_ended, request_wrong, request_no_ids, request_large, id_again}
use Rattle.ra_session.proofs.session.Session.listen.Goals as goal

pub returns-in_err-running-clause-refused : goal.returns-in_err-running-clause-refused
returns-in_err-running-clause-refused c =
    let p = err_from_is_err_and c.from_residual.result c.from_residual.ensures.1 in
    rw (p.1, p.2, ← c.self.view_is) (as_listen _ _ _ _ (λ (r : Option Refusal). IsRefusal c.in_err-running.field-0.0 r) (request_ended _ _ _ c.in_err-running.ensures.err))

pub returns-then-not-is_management-clause-refused : goal.returns-then-not-is_management-clause-refused
returns-then-not-is_management-clause-refused c =
    rw (← c.self.view_is)
    (as_listen _ _ _ _ (λ (r : Option Refusal). r ≡ Some wrong_kind)
    (request_wrong _ _ c.in_ok-running.ensures.ok (sym c.is_management.ensures ∙ c.if-not-is_management.true)))

pub returns-in_default-clause-refused : goal.returns-in_default-clause-refused
returns-in_default-clause-refused c =
    rw (← c.self.view_is)
    (as_listen _ _ _ _ (λ (r : Option Refusal). r ≡ Some ids_spent)
    (request_no_ids _ _ c.in_ok-running.ensures.ok (sym c.is_management.ensures ∙ c.if-not-is_management.false) c.in_default.ensures.spent))

pub returns-in_err-body-clause-refused : goal.returns-in_err-body-clause-refused
returns-in_err-body-clause-refused c =
    let p = err_from_is_err_and c.from_residual-in_err-body.result c.from_residual-in_err-body.ensures.1 in
    let large = rw (id_again c.in-Some.id _ c.in-Some.ensures.id c.in-Some.ensures.left) at c.in_err-body.ensures.refused in
    rw (p.1, p.2, ← c.self.view_is)
    (as_listen _ _ _ _ (λ (r : Option Refusal). IsRefusal c.in_err-body.field-0.0 r)
    (request_large _ _ _ c.in_ok-running.ensures.ok (sym c.is_management.ensures ∙ c.if-not-is_management.false) c.in-Some.ensures.left large))
