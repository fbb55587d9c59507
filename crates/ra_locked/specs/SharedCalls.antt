-- What calls change of the registry under its lock.
use Rattle.std.specs.Prelude.{◌≡◌, ℕ, ◌+◌, ◌<◌, Bool, false, ◌&&◌, ◌==◌, length, Option, Some, None, if◌then◌else◌, MatchBool}
use Rattle.ra_base.specs.declared.handshake.Request.{Request}
use Rattle.ra_base.specs.declared.key.Seat.{Seat}
use Rattle.ra_keep.specs.Causes.{next_count}
use Rattle.ra_registry.specs.declared.past.Past.{Past}
use Rattle.ra_registry.specs.declared.row.Row.{Row}
use Rattle.ra_registry.specs.Admission.{admission_refusal, seat_for, admission_entry, refusal_entry}
use Rattle.ra_registry.specs.RegistryStates.{RegistryState, with_entry}
use Rattle.ra_registry.specs.RowChanges.{is_open_state}
use Rattle.ra_registry.specs.Seats.{unspent}
use Rattle.ra_locked.specs.LockedStates.{LockedState}
use Rattle.ra_locked.specs.declared.answer.Answer.{Answer}
use Rattle.ra_locked.specs.declared.answer.Answer.TheVariants.{Given, Refused, KeepFault, NoMemory}
use Rattle.ra_locked.specs.declared.receipt.Receipt.{Receipt}

-- with another registry
abbrev pub with_registry : LockedState → RegistryState → LockedState
with_registry locked registry = record locked { registry = registry }

-- a close with this epoch closes the row
abbrev pub closes : ℕ → Option Row → Bool
closes epoch None = false
closes epoch (Some row) = (row.epoch == epoch) && is_open_state row.state

-- the entry was added behind the others, and the receipt is of it
pub record Adds (receipt : Receipt) (entry : Past) (before after : LockedState) : Type 0 where
  pub place : receipt.place ≡ length before.registry.history
  pub past : receipt.past ≡ entry
  pub entered : after ≡ with_registry before (with_entry before.registry entry)

-- An end of a seat is entered exactly where the seat is not spent: the caller's share has one more then. Else nothing has changed, and the
-- receipt has no place in the history.
pub record Ends (seat : Seat) (entry : Past) (before : LockedState) (receipt : Receipt) (is_entered : Bool) (after : LockedState) (old new : ℕ) : Type 0 where
  pub past : receipt.past ≡ entry
  pub there : MatchBool is_entered (0 < unspent seat before.registry.history) (unspent seat before.registry.history ≡ 0)
  pub change : MatchBool is_entered (Adds receipt entry before after) (after ≡ before)
  pub counted : new ≡ (if is_entered then old + 1 else old)

-- what a request is answered, the registry after it, and the amount of the caller's share before and after it
abbrev pub AdmitsOne : {X : Type 0} → LockedState → Request → ℕ → Answer X → LockedState → ℕ → ℕ → Type 0
AdmitsOne before ask at (Given seat session receipt) after old new =
    (admission_refusal before.registry ask at ≡ None) × (seat ≡ seat_for before.registry ask)
    × Adds receipt (admission_entry before.registry ask at) before after × (new ≡ old + 1)
AdmitsOne before ask at (Refused reason receipt) after old new =
    (admission_refusal before.registry ask at ≡ Some reason) × Adds receipt (refusal_entry ask at reason) before after × (new ≡ old + 1)
AdmitsOne before ask at KeepFault after old new = (after ≡ record before { failed = next_count before.failed }) × (new ≡ old)
AdmitsOne before ask at NoMemory after old new = (after ≡ before) × (new ≡ old)
