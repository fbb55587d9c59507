-- Which histories a registry can have.
use Rattle.std.specs.Prelude.{◌≡◌, ℕ, ◌<◌, Bool, true, false, not, length, slice_index_or, Option, Some, None}
use Rattle.ra_base.specs.declared.handshake.Request.{Request}
use Rattle.ra_base.specs.declared.key.Key.{Key}
use Rattle.ra_registry.specs.declared.past.Did.{Did}
use Rattle.ra_registry.specs.declared.past.Did.TheVariants.{Admitted, Refused, Lost, Closed, Expired, Missed}
use Rattle.ra_registry.specs.declared.past.Past.{Past}
use Rattle.ra_registry.specs.declared.row.Row.{Row}
use Rattle.ra_registry.specs.declared.row.RowState.{RowState}
use Rattle.ra_registry.specs.declared.row.RowState.TheVariants as states
use Rattle.ra_registry.specs.Grace.{is_live}
use Rattle.ra_registry.specs.RegistryStates.{RegistryState, up_to}
use Rattle.ra_registry.specs.Rows.{row_of}
use Rattle.ra_registry.specs.Admission.{admission_refusal, seat_for, key_of}
use Rattle.ra_registry.specs.Seats.{IsUnspent}

abbrev pub is_over_in : ℕ → ℕ → Row → RowState → ℕ → Bool
is_over_in long short row states.Up at = false
is_over_in long short row (states.Lost lost shortened) at = not (is_live long short row at)
is_over_in long short row (states.Closed cause) at = false

abbrev pub is_over_row : ℕ → ℕ → Option Row → ℕ → Bool
is_over_row long short None at = false
is_over_row long short (Some row) at = is_over_in long short row row.state at

-- there is a row, it is lost, and its grace is over
abbrev pub is_over : RegistryState → Option Row → ℕ → Bool
is_over registry row at = is_over_row registry.long_grace registry.short_grace row at

-- the registry before it allows this entry of this session
abbrev pub Allows : RegistryState → Key → ℕ → Did → Type 0
Allows registry key at (Admitted epoch reconnection) =
    (ask : Request) × (key ≡ key_of ask) × (reconnection ≡ ask.reconnection) × (admission_refusal registry ask at ≡ None)
    × (epoch ≡ (seat_for registry ask).epoch)
Allows registry key at (Refused kind reconnection reason) =
    (ask : Request) × (key ≡ key_of ask) × (kind ≡ ask.kind) × (reconnection ≡ ask.reconnection)
    × (admission_refusal registry ask at ≡ Some reason)
Allows registry key at (Lost epoch) = IsUnspent (record { key = key; epoch = epoch }) registry.history
Allows registry key at (Closed epoch cause) = IsUnspent (record { key = key; epoch = epoch }) registry.history
Allows registry key at Expired = is_over registry (row_of registry key) at ≡ true
Allows registry key at Missed = row_of registry key ≡ None

-- the entry fits those before it
abbrev pub Fits : RegistryState → Past → Type 0
Fits registry entry = Allows registry entry.key entry.at entry.did

-- each entry fits those before it
pub record IsLegal (registry : RegistryState) : Type 0 where
  pub fits : (i : ℕ) (d : Past) → i < length registry.history → Fits (up_to i registry) (slice_index_or registry.history i d)
