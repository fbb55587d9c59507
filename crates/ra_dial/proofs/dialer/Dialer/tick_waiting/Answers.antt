use Rattle.std.proofs.Common.{sym, ◌∙◌}
use Rattle.ra_dial.proofs.AttemptRows.{too_late, in_time}
use Rattle.ra_dial.proofs.dialer.Dialer.tick_waiting.Goals as goal

pub returns-then-has_passed-clause-steps : goal.returns-then-has_passed-clause-steps
returns-then-has_passed-clause-steps c = too_late _ _ _ c.args.drops c.args.called c.args.now (sym c.has_passed.ensures ∙ c.if-has_passed.true) c.fail.ensures.steps

pub returns-clause-steps : goal.returns-clause-steps
returns-clause-steps c = rw (c.millis.ensures.value) (in_time _ c.args.drops c.args.called c.args.now (sym c.has_passed.ensures ∙ c.if-has_passed.false))
