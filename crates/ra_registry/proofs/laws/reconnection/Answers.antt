use Rattle.ra_registry.proofs.LawLemmas.{reconnected}
use Rattle.ra_registry.proofs.laws.reconnection.Goals as goal

pub returns : goal.returns
returns c = reconnected
