use Rattle.ra_run_laws.proofs.RunPackets.{packets_of_run}
use Rattle.ra_run_laws.proofs.laws.answers.Goals as goal

pub returns : goal.returns
returns c = packets_of_run
