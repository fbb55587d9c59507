use Rattle.ra_opening.proofs.LawLemmas.{start}
use Rattle.ra_opening.proofs.laws.start.Goals as goal

pub returns : goal.returns
returns c = start
