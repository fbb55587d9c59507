use Rattle.ra_dial.proofs.EndRows.{left, not_left}
use Rattle.ra_dial.proofs.dialer.Dialer.leave.Goals as goal

pub returns-in-Ok-clause-steps : goal.returns-in-Ok-clause-steps
returns-in-Ok-clause-steps c =
    let finished = rw (c.put.ensures.bytes, c.in_ok-reserve.ensures.bytes) at c.finish.ensures.steps in
    rw (← c.self.view_is) (left _ _ c.leave.new.self _ c.in-Ok.out c.in-Ok.ensures.stands c.in-Ok.ensures.out c.in-Ok.ensures.refused finished)

pub returns-in_ok-judged-in-Err-clause-steps : goal.returns-in_ok-judged-in-Err-clause-steps
returns-in_ok-judged-in-Err-clause-steps c =
    let finished = rw c.in_ok-reserve.ensures.bytes at c.finish-in-Err.ensures.steps in
    rw (← c.self.view_is) (not_left _ _ c.leave.new.self _ c.in-Err.fault c.in-Err.ensures.same c.in_ok-judged-in-Err.ensures c.in-Err.ensures.refused finished)
