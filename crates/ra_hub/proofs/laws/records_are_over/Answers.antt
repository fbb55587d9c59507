use Rattle.ra_hub.proofs.OthersLemmas.{over_at_start}
use Rattle.ra_hub.proofs.laws.records_are_over.Goals as goal

pub returns : goal.returns
returns c = over_at_start
