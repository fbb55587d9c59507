-- A seat stays one of its hub.
use Rattle.std.proofs.Common.{ℕ, ◌<◌, Option, Some, None, sym, subst}
use Rattle.ra_base.specs.declared.key.Seat.{Seat}
use Rattle.ra_hub.specs.HubSeats.{Stay}
use Rattle.ra_link_core.specs.Makes.{Holds}

pub holds_stay : (seat : Option Seat) (old new : Seat → ℕ) → Stay old new → Holds old seat → Holds new seat
holds_stay None old new stay holds = tt
holds_stay (Some seat) old new stay holds = subst (λ (n : ℕ). 0 < n) (sym (stay seat)) holds
