-- The seats of one caller, and what its calls change of them.
use Rattle.std.specs.Prelude.{◌≡◌, ℕ, ◌+◌, Bool, ◌&&◌, List, count_by}
use Rattle.std.specs.List.{list_any}
use Rattle.ra_base.specs.declared.key.Seat.{Seat}
use Rattle.ra_locked.specs.SeatLists.{same_seat, one_if}
use Rattle.ra_locked.specs.declared.held.HeldSeat.{HeldSeat}

-- how many seats of this key and epoch it has
abbrev pub held_of : {X : Type 0} → Seat → List (HeldSeat X) → ℕ
held_of seat held = count_by (λ h. same_seat seat h.seat) held

-- one seat less, one more, and the same
abbrev pub Less : {X : Type 0} → Seat → (old new : List (HeldSeat X)) → Type 0
Less seat old new = (other : Seat) → held_of other new + one_if (same_seat other seat) ≡ held_of other old

abbrev pub More : {X : Type 0} → Seat → (old new : List (HeldSeat X)) → Type 0
More seat old new = (other : Seat) → held_of other new ≡ held_of other old + one_if (same_seat other seat)

-- an `attach` with this seat was Ok
abbrev pub attached_of : {X : Type 0} → Seat → List (HeldSeat X) → Bool
attached_of seat held = list_any (λ h. same_seat seat h.seat && h.attached) held
