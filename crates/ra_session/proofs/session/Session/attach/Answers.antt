use Rattle.std.proofs.lemmas.Result.{err_from_is_err_and}
use Rattle.ra_session.proofs.Standing.{attached}
use Rattle.ra_session.proofs.Refusing.{attach_ended, attach_refuses, attach_admits}
use Rattle.ra_session.proofs.Carrying.{ended_attach, begun_attach}
use Rattle.ra_session.proofs.session.Session.attach.Goals as goal

pub returns-in_err-running-clause-refused : goal.returns-in_err-running-clause-refused
returns-in_err-running-clause-refused c =
    let p = err_from_is_err_and c.from_residual.result c.from_residual.ensures.1 in
    rw (p.1, p.2, ← c.self.view_is) (attach_ended _ _ c.args.epoch c.in_err-running.ensures.err)

pub returns-in_err-join_link-clause-refused : goal.returns-in_err-join_link-clause-refused
returns-in_err-join_link-clause-refused c =
    let p = err_from_is_err_and c.from_residual-in_err-join_link.result c.from_residual-in_err-join_link.ensures.1 in
    rw (p.1, p.2, ← c.self.view_is) (attach_refuses _ c.args.epoch _ c.in_ok-running.ensures.ok c.in_err-join_link.ensures.refused)

pub returns-clause-stands : goal.returns-clause-stands
returns-clause-stands c =
    let becomes = rw c.resumes-with_resume.ensures at c.in_ok-join_link.ensures.stands in
    rw (← c.self.view_is) (attached _ _ c.args.epoch c.args.chunk.now c.args.now becomes)

pub returns-clause-refused : goal.returns-clause-refused
returns-clause-refused c =
    rw (← c.self.view_is) (attach_admits _ c.args.epoch c.in_ok-running.ensures.ok c.in_ok-join_link.ensures.refused)

pub returns-in_err-running-clause-carries : goal.returns-in_err-running-clause-carries
returns-in_err-running-clause-carries c =
    let p = err_from_is_err_and c.from_residual.result c.from_residual.ensures.1 in
    rw (p.1, p.2) (ended_attach _ _ c.in_err-running.ensures.err)

pub returns-in_err-join_link-clause-carries : goal.returns-in_err-join_link-clause-carries
returns-in_err-join_link-clause-carries c =
    let p = err_from_is_err_and c.from_residual-in_err-join_link.result c.from_residual-in_err-join_link.ensures.1 in
    rw (p.1, p.2) (begun_attach _ _ c.args.epoch _ c.in_err-join_link.ensures.refused)
