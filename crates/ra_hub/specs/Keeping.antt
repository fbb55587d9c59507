-- What a hub in memory keeps, and what its keeper holds of it.
use Rattle.std.specs.Prelude.{◌≡◌, ◌≤◌, ◌⊎◌, ℕ, List, [], ◌∷◌, ◌++◌, Option, Some, option_map, Result, Ok, Err}
use Rattle.ra_base.specs.declared.key.Seat.{Seat}
use Rattle.ra_keep.specs.declared.record.Record.{Record}
use Rattle.ra_registry.specs.RegistryStates.{RegistryState}
use Rattle.ra_keep.specs.Causes.{Rose, TellsOnly, next_count}
use Rattle.ra_keep.specs.declared.keeper.Keeper.{Ghosts}
use Rattle.ra_keep.specs.declared.keeper.KeepFault.TheVariants.{Failed, NoMemory}
use Rattle.ra_registry.specs.KeptRecords.{record_of}
use Rattle.ra_registry.specs.Seats.{unspent}
use Rattle.ra_hub.specs.declared.fault.HubFault.{HubFault}
use Rattle.ra_hub.specs.declared.fault.HubFault.TheVariants as hub
use Rattle.ra_hub.specs.declared.fault.StartFault.{StartFault}
use Rattle.ra_hub.specs.Hubs.{Hub, started}
use Rattle.ra_hub.specs.Standing.{StandsForHub}
use Rattle.ra_hub.specs.declared.plain.PlainHub.{PlainHub}

-- its registry, by its history
abbrev pub registry_of : {R : Type 0} {K : Ghosts R} → PlainHub R K → RegistryState
registry_of hub = hub.registry

-- its keeper
abbrev pub keeper_of : {R : Type 0} {K : Ghosts R} → PlainHub R K → R
keeper_of hub = hub.keeper

-- the keeper's list, where it still tells, has one record more where a seat was given, and else is as before
abbrev pub Keeps : Result Seat HubFault → ℕ → Option (List Record) → Option (List Record) → Type 0
Keeps (Ok seat) at before after = TellsOnly (option_map (λ list. list ++ record_of seat at ∷ []) before) after
Keeps (Err fault) at before after = TellsOnly before after

-- the keeper was called once where a seat was given or the keeper failed, and not at all where the request was refused
abbrev pub Calls : Result Seat HubFault → Option ℕ → Option ℕ → Type 0
Calls (Ok seat) before after = after ≡ option_map next_count before
Calls (Err (hub.Refused reason)) before after = after ≡ before
Calls (Err hub.NoSession) before after = after ≡ before
Calls (Err (hub.Session fault)) before after = after ≡ before
Calls (Err hub.KeepFault) before after = after ≡ option_map next_count before
Calls (Err hub.NoMemory) before after = (after ≡ before) ⊎ (after ≡ option_map next_count before)

-- the hubs that it stands for
abbrev pub Stands : {R : Type 0} {K : Ghosts R} → PlainHub R K → Hub → Type 0
Stands hub h = StandsForHub hub.registry hub.sessions hub.keys.items h

-- how many seats of one key and epoch it gave that are not spent
abbrev pub seats_of : {R : Type 0} {K : Ghosts R} → PlainHub R K → Seat → ℕ
seats_of hub seat = unspent seat hub.registry.history

-- the hub has started from these records, which are those of the keeper where it tells
pub record Starts {R : Type 0} {K : Ghosts R} (long short : ℕ) (told : Option (List Record)) (hub : PlainHub R K) : Type 0 where
  pub records : List Record
  pub all : (list : List Record) → told ≡ Some list → records ≡ list
  pub hub_is : Stands hub (started long short records)

-- The keeper of a hub that did not start was called once, and has no other list than before. It says why: its count of faults never
-- falls, rises where it failed, and else stays.
pub record StartsNot {R : Type 0} (told : R → Option (List Record)) (calls : R → Option ℕ) (faults : R → ℕ) (before : R) (fault : StartFault R) : Type 0 where
  pub same : TellsOnly (told before) (told fault.keeper)
  pub called : calls fault.keeper ≡ option_map next_count (calls before)
  pub later : faults before ≤ faults fault.keeper
  pub failed : fault.fault ≡ Failed → Rose (faults before) (faults fault.keeper)
  pub other : fault.fault ≡ NoMemory → faults fault.keeper ≡ faults before
