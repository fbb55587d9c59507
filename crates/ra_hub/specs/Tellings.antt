-- What is told to a key that has no session.
use Rattle.std.specs.Prelude.{◌≡◌, ℕ, true, Some, None}
use Rattle.std.specs.Option.{is_some}
use Rattle.ra_base.specs.declared.key.Cause.TheVariants.{Stopped}
use Rattle.ra_base.specs.declared.key.Key.{Key}
use Rattle.ra_registry.specs.declared.past.Did.TheVariants.{Missed}
use Rattle.ra_registry.specs.RegistryStates.{RegistryState, with_entry}
use Rattle.ra_registry.specs.Rows.{row_of}
use Rattle.ra_session.specs.SessionRefusals.{ended, IsRefusal}
use Rattle.ra_hub.specs.Hubs.{entry_of}
use Rattle.ra_hub.specs.declared.fault.HubFault.{HubFault}
use Rattle.ra_hub.specs.declared.fault.HubFault.TheVariants.{Refused, NoSession, Session, KeepFault, NoMemory}

-- the fault, and the registry after it
abbrev pub TellsNobody : RegistryState → RegistryState → Key → ℕ → HubFault → Type 0
TellsNobody old new key now (Session fault) = (is_some (row_of old key) ≡ true) × IsRefusal fault (Some (ended Stopped)) × (new ≡ old)
TellsNobody old new key now NoSession = (row_of old key ≡ None) × (new ≡ with_entry old (entry_of key now Missed))
TellsNobody old new key now NoMemory = new ≡ old
TellsNobody old new key now (Refused reason) = ⊥
TellsNobody old new key now KeepFault = ⊥
