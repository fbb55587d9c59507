use Rattle.ra_registry.proofs.PresentRows.{stays_there, made_there}
use Rattle.ra_registry.proofs.laws.presence.Goals as goal

pub returns : goal.returns
returns c = record { stays = stays_there; made = made_there }
