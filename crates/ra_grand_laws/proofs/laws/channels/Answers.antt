use Rattle.ra_grand_laws.proofs.Reached.{channels_reached}
use Rattle.ra_grand_laws.proofs.laws.channels.Goals as goal

pub returns : goal.returns
returns c = channels_reached
