use Rattle.ra_handshake_laws.proofs.OpenedFronts.{opens, draws}
use Rattle.ra_handshake_laws.proofs.laws.openings.Goals as goal

pub returns : goal.returns
returns c = record { opens = opens; draws = draws }
