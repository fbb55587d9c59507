-- What a keeper holds of a registry.
use Rattle.std.specs.Prelude.{◌≡◌, ◌≤◌, ◌⊎◌, ℕ, List, [], ◌∷◌, ◌++◌, Option, Some, option_map, Result, Ok, Err}
use Rattle.std.specs.List.{flat_map}
use Rattle.ra_base.specs.declared.key.Key.{Key}
use Rattle.ra_base.specs.declared.key.Seat.{Seat}
use Rattle.ra_keep.specs.Causes.{Rose, TellsOnly, next_count}
use Rattle.ra_keep.specs.declared.record.Record.{Record}
use Rattle.ra_registry.specs.declared.fault.AdmitFault.{AdmitFault}
use Rattle.ra_registry.specs.declared.fault.AdmitFault.TheVariants.{Refused, KeepFault, NoMemory}
use Rattle.ra_registry.specs.declared.past.Did.{Did}
use Rattle.ra_registry.specs.declared.past.Did.TheVariants as dids
use Rattle.ra_registry.specs.declared.past.Past.{Past}
use Rattle.ra_registry.specs.RegistryStates.{RegistryState}

abbrev pub kept_of : Key → ℕ → Did → List Record
kept_of key at (dids.Admitted epoch reconnection) = record { key = key; epoch = epoch; at = at } ∷ []
kept_of key at (dids.Refused kind reconnection reason) = []
kept_of key at (dids.Lost epoch) = []
kept_of key at (dids.Closed epoch cause) = []
kept_of key at dids.Expired = []
kept_of key at dids.Missed = []

-- the records of the Admitted entries, in order
abbrev pub records_of : List Past → List Record
records_of history = flat_map (λ entry. kept_of entry.key entry.at entry.did) history

-- where the keeper tells, its list is the start records, and then those of the history
abbrev pub IsKept : Option (List Record) → RegistryState → Type 0
IsKept told registry = (list : List Record) → told ≡ Some list → list ≡ registry.start ++ records_of registry.history

-- the record of this seat
abbrev pub record_of : Seat → ℕ → Record
record_of seat at = record { key = seat.key; epoch = seat.epoch; at = at }

-- the keeper's list, where it still tells, has one record more where a seat was given, and else is as before
abbrev pub Keeps : Result Seat AdmitFault → ℕ → Option (List Record) → Option (List Record) → Type 0
Keeps (Ok seat) at before after = TellsOnly (option_map (λ list. list ++ record_of seat at ∷ []) before) after
Keeps (Err fault) at before after = TellsOnly before after

-- the keeper was called once where a seat was given or the keeper failed, and not at all where the request was refused
abbrev pub Calls : Result Seat AdmitFault → Option ℕ → Option ℕ → Type 0
Calls (Ok seat) before after = after ≡ option_map next_count before
Calls (Err (Refused reason)) before after = after ≡ before
Calls (Err KeepFault) before after = after ≡ option_map next_count before
Calls (Err NoMemory) before after = (after ≡ before) ⊎ (after ≡ option_map next_count before)

-- the answer is that the keeper failed
abbrev pub OnKeepFault : {T : Type 0} → Result T AdmitFault → Type 0 → Type 0
OnKeepFault (Ok x) P = Unit {0}
OnKeepFault (Err (Refused reason)) P = Unit {0}
OnKeepFault (Err KeepFault) P = P
OnKeepFault (Err NoMemory) P = Unit {0}

-- the answer is another one
abbrev pub OnOtherAnswer : {T : Type 0} → Result T AdmitFault → Type 0 → Type 0
OnOtherAnswer (Ok x) P = P
OnOtherAnswer (Err (Refused reason)) P = P
OnOtherAnswer (Err KeepFault) P = Unit {0}
OnOtherAnswer (Err NoMemory) P = P

-- the count of the keeper's faults never falls; it rises where KeepFault is answered, and else stays
pub record HasKeepCause {T : Type 0} (before after : ℕ) (result : Result T AdmitFault) : Type 0 where
  pub later : before ≤ after
  pub failed : OnKeepFault result (Rose before after)
  pub other : OnOtherAnswer result (after ≡ before)
