use Rattle.ra_dial.proofs.AttemptRows.{failed}
use Rattle.ra_dial.proofs.dialer.Dialer.fail.Goals as goal

pub returns-clause-steps : goal.returns-clause-steps
returns-clause-steps c =
    rw (← c.self.view_is, c.rest_or_drop.ensures.act, c.clear.ensures, c.millis.ensures.value, c.wait_before.ensures.wait, c.saturating_add-self-inside.ensures)
    (failed _ c.args.drops c.args.now)
