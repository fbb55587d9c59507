use Rattle.ra_channel_laws.proofs.Beginning.{channels_begin}
use Rattle.ra_channel_laws.proofs.laws.beginning.Goals as goal

pub returns : goal.returns
returns c = channels_begin
