use Rattle.ra_registry.proofs.LawLemmas.{of_another}
use Rattle.ra_registry.proofs.RowLemmas.{shorten_again}
use Rattle.ra_registry.proofs.laws.others.Goals as goal

pub returns : goal.returns
returns c = record { entry = of_another; once = shorten_again }
