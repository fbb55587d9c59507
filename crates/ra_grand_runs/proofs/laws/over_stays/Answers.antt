use Rattle.ra_grand_runs.proofs.EndLaws.{over_after, over_run}
use Rattle.ra_grand_runs.proofs.laws.over_stays.Goals as goal

pub returns : goal.returns
returns c = record { event = over_after; run = over_run }
