use Rattle.ra_handshake_laws.proofs.Handshaking.{begins, feeds, looks}
use Rattle.ra_handshake_laws.proofs.laws.handshakes.Goals as goal

pub returns : goal.returns
returns c = record { begins = begins; feeds = feeds; looks = looks }
