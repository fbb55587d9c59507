-- How many seats of one key and epoch were given and not spent.
use Rattle.std.specs.Prelude.{◌≡◌, ℕ, ◌+◌, Bool, ◌&&◌, ◌==◌, if◌then◌else◌}
use Rattle.ra_base.specs.declared.key.Seat.{Seat}
use Rattle.ra_registry.specs.Rows.{same_key}

abbrev pub same_seat : Seat → Seat → Bool
same_seat a b = same_key a.key b.key && (a.epoch == b.epoch)

abbrev pub one_if : Bool → ℕ
one_if b = if b then 1 else 0

-- one seat more
abbrev pub Gives : Seat → (old new : Seat → ℕ) → Type 0
Gives seat old new = (other : Seat) → new other ≡ old other + one_if (same_seat other seat)

-- one seat less
abbrev pub Spends : Seat → (old new : Seat → ℕ) → Type 0
Spends seat old new = (other : Seat) → new other + one_if (same_seat other seat) ≡ old other

abbrev pub Stay : (old new : Seat → ℕ) → Type 0
Stay old new = (other : Seat) → new other ≡ old other
