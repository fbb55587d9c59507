use Rattle.ra_dial.proofs.LinkRows.{lost}
use Rattle.ra_dial.proofs.dialer.Dialer.lose.Goals as goal

pub returns-clause-steps : goal.returns-clause-steps
returns-clause-steps c =
    let becomes = rw c.epoch-epoch.ensures at c.lose.ensures.stands in
    rw (← c.self.view_is, c.rest_or_drop.ensures.act, c.clear.ensures, c.millis.ensures.value, c.millis-2.ensures.value) (lost _ c.args.drops c.args.now _ becomes)
