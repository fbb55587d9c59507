use Rattle.std.proofs.lemmas.Result.{err_from_is_err_and}
use Rattle.ra_session.proofs.TickSteps.{leave_ended, leave_running, left}
use Rattle.ra_session.proofs.session.Session.leave.Goals as goal

pub returns-in_err-running-clause-refused : goal.returns-in_err-running-clause-refused
returns-in_err-running-clause-refused c =
    let p = err_from_is_err_and c.from_residual.result c.from_residual.ensures.1 in
    rw (p.1, p.2, ← c.self.view_is) (leave_ended _ _ c.in_err-running.ensures.err)

pub returns-clause-stands : goal.returns-clause-stands
returns-clause-stands c =
    rw (← c.self.view_is) (left _ _ c.in_ok-running.ensures.ok (λ e stands. c.take_out.ensures.stands _ (c.in_ok-disconnect.ensures.stands e stands)))

pub returns-clause-refused : goal.returns-clause-refused
returns-clause-refused c = rw (← c.self.view_is) (leave_running _ c.in_ok-running.ensures.ok)
