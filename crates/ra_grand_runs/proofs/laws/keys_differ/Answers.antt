use Rattle.ra_grand_runs.proofs.RunLaws.{keys_differ}
use Rattle.ra_grand_runs.proofs.laws.keys_differ.Goals as goal

pub returns : goal.returns
returns c = keys_differ
