use Rattle.ra_dial.proofs.EndRows.{ticked_late, ticked_in_time, not_ticked}
use Rattle.ra_dial.proofs.dialer.Dialer.tick_session.Goals as goal

pub returns-then-ticked-clause-steps : goal.returns-then-ticked-clause-steps
returns-then-ticked-clause-steps c =
    rw (← c.self.view_is) (ticked_late _ _ c.tick.new.self _ c.in-Ok.ticked.timed_out c.args.now c.in-Ok.ensures.stands c.in-Ok.ensures.timeout c.in-Ok.ensures.refused c.if-ticked.true c.lose.ensures.steps)

pub returns-else-ticked-clause-steps : goal.returns-else-ticked-clause-steps
returns-else-ticked-clause-steps c =
    rw (← c.self.view_is, c.millis.ensures.value)
    (ticked_in_time _ c.tick.new.self c.in-Ok.ticked.timed_out c.args.now c.in-Ok.ensures.stands c.in-Ok.ensures.timeout c.in-Ok.ensures.refused c.if-ticked.false)

pub returns-in_ok-judged-in-Err-clause-steps : goal.returns-in_ok-judged-in-Err-clause-steps
returns-in_ok-judged-in-Err-clause-steps c =
    rw (← c.self.view_is) (not_ticked _ _ c.tick.new.self _ c.in-Err.fault c.args.now c.in-Err.ensures.same c.in_ok-judged-in-Err.ensures c.in-Err.ensures.refused c.finish.ensures.steps)
