use Rattle.ra_link_laws.proofs.Folding.{keeps_new, keeps_after}
use Rattle.ra_link_laws.proofs.laws.keeps.Goals as goal

pub returns : goal.returns
returns c = record { begins = keeps_new; keeps = keeps_after }
