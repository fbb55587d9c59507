-- The registry under its lock, and what is kept beside it.
use Rattle.std.specs.Prelude.{◌≡◌, ◌≤◌, ℕ, List, [], Option, option_map}
use Rattle.ra_base.specs.declared.key.Seat.{Seat}
use Rattle.ra_keep.specs.declared.keeper.KeepFault.TheVariants.{Failed, NoMemory}
use Rattle.ra_keep.specs.declared.record.Record.{Record}
use Rattle.ra_keep.specs.Causes.{Rose, TellsOnly, next_count}
use Rattle.ra_registry.specs.KeptRecords.{IsKept}
use Rattle.ra_registry.specs.RegistryStates.{RegistryState}
use Rattle.ra_registry.specs.Seats.{unspent}
use Rattle.ra_locked.specs.Receipts.{calls}
use Rattle.ra_locked.specs.SeatLists.{seats_in}
use Rattle.ra_locked.specs.declared.fault.StartFault.{StartFault}

-- the registry, and how often it answered that the keeper failed: a counter of 64 bits stays at its last value
pub record LockedState : Type 0 where
  pub registry : RegistryState
  pub failed : ℕ

-- a registry that starts from these records
abbrev pub started : ℕ → ℕ → List Record → LockedState
started long short records = record { registry = record { long_grace = long; short_grace = short; start = records; history = [] }; failed = 0 }

-- The ledger's total is the number of the entries that calls added. The keeper's list, where it tells, is the start records and those of
-- the history. The seats are those that are not spent. The keeper has failed as often as that was answered, or more often.
pub record IsConsistent (registry : RegistryState) (told : Option (List Record)) (faults failed total : ℕ) (seats : List Seat) : Type 0 where
  pub counted : total ≡ calls registry.history
  pub kept : IsKept told registry
  pub within : failed ≤ faults
  pub seats_are : (seat : Seat) → seats_in seat seats ≡ unspent seat registry.history

-- The registry starts from some records, and has no entry. Which they are, its keeper tells.
abbrev pub Starts : ℕ → ℕ → LockedState → Type 0
Starts long short locked = (records : List Record) × (locked ≡ started long short records)

-- The keeper of a registry that did not start was called once, and has no other list than before. It says why: its count of faults never
-- falls, rises where it failed, and else stays.
pub record StartsNot {K : Type 0} (told : K → Option (List Record)) (calls : K → Option ℕ) (faults : K → ℕ) (before : K) (fault : StartFault K) : Type 0 where
  pub same : TellsOnly (told before) (told fault.keeper)
  pub called : calls fault.keeper ≡ option_map next_count (calls before)
  pub later : faults before ≤ faults fault.keeper
  pub failed : fault.fault ≡ Failed → Rose (faults before) (faults fault.keeper)
  pub other : fault.fault ≡ NoMemory → faults fault.keeper ≡ faults before
