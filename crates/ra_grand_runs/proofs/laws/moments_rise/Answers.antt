use Rattle.ra_grand_runs.proofs.RunLaws.{lasts_after, lasts_run}
use Rattle.ra_grand_runs.proofs.laws.moments_rise.Goals as goal

pub returns : goal.returns
returns c = record { event = λ entry w. (lasts_after entry w).now; run = λ entries w. (lasts_run entries w).now }
