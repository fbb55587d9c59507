use Rattle.ra_registry.proofs.Epochs.{epoch_is}
use Rattle.ra_registry.proofs.laws.epochs.Goals as goal

pub returns : goal.returns
returns c = epoch_is
