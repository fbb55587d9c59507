-- What a keeper over a table tells, what its calls leave, and why it is refused.
use Rattle.std.specs.Prelude.{◌≡◌, ◌≢◌, ◌⊎◌, ℕ, ◌+◌, false, ◌&&◌, List, [], ◌∷◌, ◌++◌, length, Option, Some, None, option_map, if◌then◌else◌, IsTrue, refl}
use Rattle.std.specs.Coded.{Coded, code_by, coded×, coded_ℕ}
use Rattle.ra_keep.specs.Causes.{TellsOnly}
use Rattle.ra_keep.specs.declared.record.Record.{Record}
use Rattle.ra_keep_sql.specs.declared.open_fault.OpenFault.{OpenFault}
use Rattle.ra_keep_sql.specs.declared.open_fault.OpenFault.TheVariants.{Failed, BadRow, NoMemory}
use Rattle.sqlite.specs.Effect.{Database}
use Rattle.sqlite.specs.Held.{Held, held_code}
use Rattle.sqlite.specs.Order.{Row}
use Rattle.sqlite.specs.State.{State, Shown, FailsToQuery}
use Rattle.sqlite.specs.Tree.{Trees}
use Rattle.sqlite.specs.declared.error.Error.{Error}
use Rattle.sqlite_disk.specs.Disk.{MoreFaults}
use Rattle.ra_keep_sql.specs.KeptTable.{kept_schema, no_schema, Below, select_text}
use Rattle.ra_keep_sql.specs.KeptRows.{records_of, bad_from}

-- a connection to the table, and how often its keeper failed
pub record SqlKept (S : Type 0) : Type 0 where
  pub connection : Held S
  pub faults : ℕ

abbrev pub kept_code : {S : Type 0} → Coded S → Coded (SqlKept S)
kept_code {S} store = code_by (Held S × ℕ) (coded× (held_code store) coded_ℕ) (λ k. (k.connection, k.faults)) (λ p. record { connection = p.0; faults = p.1 }) (λ _. refl)

-- the records that a database has, where its rows are records
abbrev pub list_in : Database → Option (List Record)
list_in db = records_of (db.trees 0)

-- the records that a clean and open connection has
abbrev pub told_in : State → Option (List Record)
told_in s = if s.is_clean && s.is_open then list_in s.now else None

-- the table is there alone and committed, n is above each of its rowids, and it is the number of the next record
pub record Serves (s : State) (n : ℕ) : Type 0 where
  pub schema : s.now.schema ≡ kept_schema
  pub settled : s.now ≡ s.committed
  pub autocommit : s.in_transaction ≡ false
  pub unlimited : s.step_limit ≡ None
  pub below : Below n (s.now.trees 0)
  pub numbered : (list : List Record) → list_in s.now ≡ Some list → n ≡ 1 + length list

-- the record is there behind the others
pub record Adds (old new : State) (n : ℕ) (r : Record) : Type 0 where
  pub serves : IsTrue new.is_open → Serves new (n + 1)
  pub told : TellsOnly (option_map (λ list. list ++ r ∷ []) (told_in old)) (told_in new)

-- the records are those that were there
pub record Stays (old new : State) (n : ℕ) : Type 0 where
  pub serves : IsTrue new.is_open → Serves new n
  pub told : TellsOnly (told_in old) (told_in new)

-- each database that a crash may leave has this list, or the second
abbrev pub LeavesEither : State → List Record → List Record → Type 0
LeavesEither s list more = (db : Trees) → s.may_leave db → (records_of (db 0) ≡ Some list) ⊎ (records_of (db 0) ≡ Some more)

-- each database that a crash may leave has this list
abbrev pub Leaves : State → List Record → Type 0
Leaves s list = (db : Trees) → s.may_leave db → records_of (db 0) ≡ Some list

-- the query was answered, or refused
abbrev pub Queries : State → State → Type 0
Queries old new = ((rows : List Row) × Shown select_text [] old new rows) ⊎ ((e : Error) × FailsToQuery select_text [] old new e)

-- the rows of the table, or none where it is not made yet
abbrev pub HasRows : Database → List Row → Type 0
HasRows db rows = ((db.schema ≡ kept_schema) × (rows ≡ db.trees 0)) ⊎ ((db.schema ≡ no_schema) × (rows ≡ []))

-- the connection serves a keeper with the records that its database had
abbrev pub IsServed : State → State → ℕ → Type 0
IsServed old new n = IsTrue new.is_open × Serves new n × ((rows : List Row) × HasRows old.now rows × (list_in new.now ≡ records_of rows))

-- the keeper tells the records that the database had, or none where its table was not made yet
pub record Adopts (old new : State) : Type 0 where
  pub rows : List Row
  pub there : HasRows old.now rows
  pub told : told_in new ≡ records_of rows

-- the schema has another table, index or view
pub record IsOther (db : Database) : Type 0 where
  pub not_kept : db.schema ≢ kept_schema
  pub not_blank : db.schema ≢ no_schema

-- the connection with no limit on steps
abbrev pub unlimited : State → State
unlimited s = record s { step_limit = None }

-- why no keeper is made over a connection, which is `new` afterwards
abbrev pub IsRefused : State → State → OpenFault → Type 0
IsRefused old new NoMemory = Unit {0}
IsRefused old new (BadRow row) =
    (old.now.schema ≡ kept_schema) × (list_in old.now ≡ None) × ((rows : List Row) × Shown select_text [] (unlimited old) new rows × (bad_from 1 rows ≡ Some row))
IsRefused old new Failed = IsTrue old.in_transaction ⊎ (IsOther old.now ⊎ ((old.is_open ≡ false) ⊎ MoreFaults old.faults new.faults))
