use Rattle.ra_grand_runs.proofs.RunLaws.{lasts_after, lasts_run}
use Rattle.ra_grand_runs.proofs.laws.history_grows.Goals as goal

pub returns : goal.returns
returns c = record { event = λ entry w. (lasts_after entry w).history; run = λ entries w. (lasts_run entries w).history }
