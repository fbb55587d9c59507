use Rattle.ra_registry.proofs.PresentRows.{expired_there, expired_rows}
use Rattle.ra_registry.proofs.laws.expiries.Goals as goal

pub returns : goal.returns
returns c = record { there = expired_there; rows = expired_rows }
