use Rattle.std.proofs.Common.{sym, ◌∙◌}
use Rattle.ra_dial.proofs.AttemptRows.{due, not_due}
use Rattle.ra_dial.proofs.dialer.Dialer.tick_resting.Goals as goal

pub returns-then-is_due-clause-steps : goal.returns-then-is_due-clause-steps
returns-then-is_due-clause-steps c = rw (← c.self.view_is) (due _ c.args.until c.args.now (sym c.is_due.ensures ∙ c.if-is_due.true))

pub returns-else-is_due-clause-steps : goal.returns-else-is_due-clause-steps
returns-else-is_due-clause-steps c = rw (← c.self.view_is) (not_due _ c.args.until c.args.now (sym c.is_due.ensures ∙ c.if-is_due.false))
