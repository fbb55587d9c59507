use Rattle.std.proofs.Common.{sym, ◌∙◌}
use Rattle.ra_dial.proofs.StepRows.{late, in_time}
use Rattle.ra_dial.proofs.dialer.Dialer.on_event.Goals as goal

pub returns-then-is_late-clause-steps : goal.returns-then-is_late-clause-steps
returns-then-is_late-clause-steps g c =
    let finished = rw (c.millis-lost.ensures.value, c.millis-now.ensures.value, ← c.self.view_is) at c.finish.ensures.steps in
    rw (← c.self.view_is) (late _ _ _ _ c.args.event c.args.now (sym c.is_late.ensures ∙ c.if-is_late.true) finished)

pub returns-clause-steps : goal.returns-clause-steps
returns-clause-steps g c =
    rw (← c.self.view_is) (in_time _ _ _ c.args.event c.args.now _ (sym c.is_late.ensures ∙ c.if-is_late.false) (rw (← c.self.view_is) at c.by_event.ensures.steps))
