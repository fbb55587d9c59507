-- Receipts of the entries that calls added.
use Rattle.std.specs.Prelude.{◌≡◌, ℕ, Bool, true, false, List, [], ◌∷◌, ◌++◌, count_by, Result, Ok, Err}
use Rattle.ra_base.specs.declared.handshake.Request.{Request}
use Rattle.ra_base.specs.declared.key.Key.{Key}
use Rattle.ra_base.specs.declared.key.Seat.{Seat}
use Rattle.ra_registry.specs.Admission.{key_of, entry_for, refusal_entry}
use Rattle.ra_registry.specs.declared.fault.AdmitFault.{AdmitFault}
use Rattle.ra_registry.specs.declared.fault.AdmitFault.TheVariants as faults
use Rattle.ra_registry.specs.declared.past.Did.{Did}
use Rattle.ra_registry.specs.declared.past.Did.TheVariants.{Admitted, Refused, Lost, Closed, Expired, Missed}
use Rattle.ra_registry.specs.declared.past.Past.{Past}
use Rattle.ra_locked.specs.declared.receipt.Receipt.{Receipt}

-- an entry that a call adds by itself, which no expiry is
abbrev pub is_call : Did → Bool
is_call (Admitted epoch reconnection) = true
is_call (Refused kind reconnection reason) = true
is_call (Lost epoch) = true
is_call (Closed epoch cause) = true
is_call Expired = false
is_call Missed = true

-- how many entries calls added
abbrev pub calls : List Past → ℕ
calls history = count_by (λ entry. is_call entry.did) history

abbrev pub is_of_call : Receipt → Bool
is_of_call receipt = is_call receipt.past.did

abbrev pub entry_of : Key → ℕ → Did → Past
entry_of key at did = record { at = at; key = key; did = did }

-- a receipt more, of that entry
abbrev pub Gains : Past → (old new : List Receipt) → Type 0
Gains entry old new = (place : ℕ) × (new ≡ old ++ record { place = place; past = entry } ∷ [])

-- an answer to a request is received with its arguments
abbrev pub Received : Request → ℕ → Result Seat AdmitFault → (old new : List Receipt) → Type 0
Received ask at (Ok seat) old new = (seat.key ≡ key_of ask) × Gains (entry_for ask at (Admitted seat.epoch ask.reconnection)) old new
Received ask at (Err (faults.Refused reason)) old new = Gains (refusal_entry ask at reason) old new
Received ask at (Err faults.KeepFault) old new = new ≡ old
Received ask at (Err faults.NoMemory) old new = new ≡ old
