use Rattle.ra_run_laws.proofs.RunKeys.{accepted_run}
use Rattle.ra_run_laws.proofs.laws.accepted.Goals as goal

pub returns : goal.returns
returns c = accepted_run
