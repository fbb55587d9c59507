use Rattle.std.proofs.Common.{sym, ◌∙◌}
use Rattle.std.proofs.lemmas.Result.{err_from_is_err_and}
use Rattle.ra_session.proofs.SaySteps.{say_ended, say_to, say_wrong, say_refuses, say_admits}
use Rattle.ra_session.proofs.session.Session.say.Goals as goal

pub returns-in_err-running-clause-refused : goal.returns-in_err-running-clause-refused
returns-in_err-running-clause-refused c =
    let p = err_from_is_err_and c.from_residual.result c.from_residual.ensures.1 in
    rw (p.1, p.2, ← c.self.view_is) (say_ended _ _ _ c.in_err-running.ensures.err)

pub returns-then-is_management-clause-refused : goal.returns-then-is_management-clause-refused
returns-then-is_management-clause-refused c =
    let going = c.in_ok-running.ensures.ok in
    rw (← c.self.view_is) (say_wrong _ _ going (sym c.is_management.ensures ∙ c.if-is_management.true))

pub returns-in_err-say_one-clause-refused : goal.returns-in_err-say_one-clause-refused
returns-in_err-say_one-clause-refused c =
    let p = err_from_is_err_and c.from_residual-in_err-say_one.result c.from_residual-in_err-say_one.ensures.1 in
    let going = c.in_ok-running.ensures.ok in
    rw (p.1, p.2, ← c.self.view_is)
    (say_refuses _ _ _ going (sym c.is_management.ensures ∙ c.if-is_management.false) c.in_err-say_one.ensures.refused)

pub returns-clause-stands : goal.returns-clause-stands
returns-clause-stands c = rw (← c.self.view_is) (say_to _ _ c.args.body c.args.now c.in_ok-say_one.ensures.stands)

pub returns-clause-refused : goal.returns-clause-refused
returns-clause-refused c =
    let going = c.in_ok-running.ensures.ok in
    rw (← c.self.view_is)
    (say_admits _ _ going (sym c.is_management.ensures ∙ c.if-is_management.false) c.in_ok-say_one.ensures.refused)
