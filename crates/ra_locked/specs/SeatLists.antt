-- Seats by their key and epoch.
use Rattle.std.specs.Prelude.{◌≡◌, ℕ, ◌+◌, Bool, ◌&&◌, ◌==◌, List, count_by, if◌then◌else◌}
use Rattle.ra_base.specs.declared.key.Seat.{Seat}
use Rattle.ra_registry.specs.Rows.{same_key}

abbrev pub same_seat : Seat → Seat → Bool
same_seat a b = same_key a.key b.key && (a.epoch == b.epoch)

abbrev pub one_if : Bool → ℕ
one_if b = if b then 1 else 0

-- how many seats of this key and epoch there are
abbrev pub seats_in : Seat → List Seat → ℕ
seats_in seat seats = count_by (λ other. same_seat seat other) seats

-- one seat less
abbrev pub TakesOne : Seat → (old new : List Seat) → Type 0
TakesOne seat old new = (other : Seat) → seats_in other new + one_if (same_seat other seat) ≡ seats_in other old
