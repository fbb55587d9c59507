use Rattle.ra_dial.proofs.HandedUpLemmas.{stepped}
use Rattle.ra_dial.proofs.laws.handed_up.Goals as goal

pub returns : goal.returns
returns c = stepped
