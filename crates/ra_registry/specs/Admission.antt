-- Who is admitted: the reasons against a request that has passed its handshake, and what the registry is then.
use Rattle.std.specs.Prelude.{◌≡◌, ℕ, ◌+◌, Bool, false, not, ◌&&◌, List, [], ◌∷◌, Option, Some, None, Result, Ok, Err, option_map, unwrap_or}
use Rattle.std.specs.Option.{is_some, is_none}
use Rattle.std.specs.List.{list_any}
use Rattle.ra_base.specs.Outcome.{first_that}
use Rattle.ra_base.specs.declared.handshake.Reason.{Reason}
use Rattle.ra_base.specs.declared.handshake.Reason.TheVariants.{UnknownKind, NeverSeen, SeenBefore, Duplicate}
use Rattle.ra_base.specs.declared.handshake.Request.{Request}
use Rattle.ra_base.specs.declared.kind.Kind.{Kind}
use Rattle.ra_base.specs.declared.kind.Kind.TheVariants.{Management, ExtensionHost, Tunnel}
use Rattle.ra_base.specs.declared.key.Key.{Key}
use Rattle.ra_base.specs.declared.key.Seat.{Seat}
use Rattle.ra_registry.specs.declared.fault.AdmitFault.{AdmitFault}
use Rattle.ra_registry.specs.declared.fault.AdmitFault.TheVariants as faults
use Rattle.ra_registry.specs.declared.past.Did.{Did}
use Rattle.ra_registry.specs.declared.past.Did.TheVariants.{Admitted, Refused}
use Rattle.ra_registry.specs.declared.past.Past.{Past}
use Rattle.ra_registry.specs.declared.row.Row.{Row}
use Rattle.ra_registry.specs.Grace.{is_live}
use Rattle.ra_registry.specs.RowChanges.{shorten}
use Rattle.ra_registry.specs.RegistryStates.{RegistryState, with_entry}
use Rattle.ra_registry.specs.Rows.{row_of}

abbrev pub all_kinds : List Kind
all_kinds = Management ∷ ExtensionHost ∷ Tunnel ∷ []

-- the session that a request is about; a request of an unknown kind counts as one of Management
abbrev pub key_of : Request → Key
key_of ask = record { kind = unwrap_or ask.kind Management; token = ask.token }

-- a session of some kind has the token
abbrev pub is_known : (Key → Option Row) → List ℕ → Bool
is_known rows token = list_any (λ kind. is_some (rows (record { kind = kind; token = token }))) all_kinds

abbrev pub is_live_row : ℕ → ℕ → Option Row → ℕ → Bool
is_live_row long short None at = false
is_live_row long short (Some row) at = is_live long short row at

-- the row of the request's session, once all lost rows are shortened
abbrev pub asked_row : RegistryState → Request → ℕ → Option Row
asked_row registry ask at = option_map (shorten at) (row_of registry (key_of ask))

-- the session can be reconnected, once all lost rows are shortened
abbrev pub can_reconnect : RegistryState → Request → ℕ → Bool
can_reconnect registry ask at = is_live_row registry.long_grace registry.short_grace (asked_row registry ask at) at

-- The reasons against a request, in their order. They follow those of the handshake.
abbrev pub admission_reasons : RegistryState → Request → ℕ → List (Bool × Reason)
admission_reasons registry ask at =
    (is_none ask.kind, UnknownKind)
    ∷ (ask.reconnection && not (is_known (row_of registry) ask.token), NeverSeen)
    ∷ (ask.reconnection && not (can_reconnect registry ask at), SeenBefore)
    ∷ (not ask.reconnection && is_some (row_of registry (key_of ask)), Duplicate)
    ∷ []

-- the first reason that applies
unfoldable pub admission_refusal : RegistryState → Request → ℕ → Option Reason
admission_refusal registry ask at = first_that (admission_reasons registry ask at)

-- the number of a session's next link
abbrev pub next_epoch : Option Row → ℕ
next_epoch None = 1
next_epoch (Some row) = row.epoch + 1

-- the seat that a request gets where it is admitted
abbrev pub seat_for : RegistryState → Request → Seat
seat_for registry ask = record { key = key_of ask; epoch = next_epoch (row_of registry (key_of ask)) }

-- what a request adds to the history
abbrev pub entry_for : Request → ℕ → Did → Past
entry_for ask at did = record { at = at; key = key_of ask; did = did }

abbrev pub admission_entry : RegistryState → Request → ℕ → Past
admission_entry registry ask at = entry_for ask at (Admitted (seat_for registry ask).epoch ask.reconnection)

abbrev pub refusal_entry : Request → ℕ → Reason → Past
refusal_entry ask at reason = entry_for ask at (Refused ask.kind ask.reconnection reason)

-- what a request is answered, and the registry after it
abbrev pub Admits : RegistryState → Request → ℕ → Result Seat AdmitFault → RegistryState → Type 0
Admits before ask at (Ok seat) after =
    (admission_refusal before ask at ≡ None) × (seat ≡ seat_for before ask) × (after ≡ with_entry before (admission_entry before ask at))
Admits before ask at (Err (faults.Refused reason)) after =
    (admission_refusal before ask at ≡ Some reason) × (after ≡ with_entry before (refusal_entry ask at reason))
Admits before ask at (Err faults.KeepFault) after = after ≡ before
Admits before ask at (Err faults.NoMemory) after = after ≡ before

-- the answer is no refusal
abbrev pub IsNotRefused : Result Seat AdmitFault → Type 0
IsNotRefused (Ok seat) = Unit {0}
IsNotRefused (Err (faults.Refused reason)) = ⊥
IsNotRefused (Err faults.KeepFault) = Unit {0}
IsNotRefused (Err faults.NoMemory) = Unit {0}
