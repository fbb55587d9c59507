use Rattle.ra_registry.proofs.LawLemmas.{ends_at}
use Rattle.ra_registry.proofs.SeatCounts.{spent_within, some_left}
use Rattle.ra_registry.proofs.laws.seats.Goals as goal

pub returns : goal.returns
returns c = record { all = ends_at; each = spent_within; left = some_left }
