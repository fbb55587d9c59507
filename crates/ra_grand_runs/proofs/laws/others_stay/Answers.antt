use Rattle.ra_grand_runs.proofs.EventLaws.{keeps}
use Rattle.ra_grand_runs.proofs.RunLaws.{others_run}
use Rattle.ra_grand_runs.proofs.laws.others_stay.Goals as goal

pub returns : goal.returns
returns c = record { event = λ mark event w. (keeps mark event w).others; run = others_run }
