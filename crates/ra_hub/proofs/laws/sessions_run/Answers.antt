use Rattle.ra_hub.proofs.HubLemmas.{sessions_run}
use Rattle.ra_hub.proofs.laws.sessions_run.Goals as goal

pub returns : goal.returns
returns c = sessions_run
