-- What reading and making the table leave of a connection.
use Rattle.std.proofs.Common.{◌≡◌, ◌≢◌, ◌⊎◌, inl, inr, ℕ, ◌+◌, List, [], length, false, Option, Some, None, Ok, Err, IsTrue, refl, sym, ap, subst, ◌∙◌, arith}
use Rattle.std.proofs.lemmas.Bool.{cases_Bool}
use Rattle.ra_keep.specs.declared.record.Record.{Record}
use Rattle.ra_keep_sql.specs.declared.open_fault.OpenFault.TheVariants.{Failed, BadRow, NoMemory}
use Rattle.ra_keep_sql.specs.declared.open_fault.OpenFault.{OpenFault}
use Rattle.ra_keep_sql.specs.KeptTable.{kept_schema, no_schema, create_text, select_text}
use Rattle.ra_keep_sql.specs.KeptRows.{records_of, records_from, bad_from}
use Rattle.ra_keep_sql.specs.Keepers.{list_in, told_in, Serves, Adopts, IsServed, IsRefused}
use Rattle.sqlite.specs.declared.error.Error.{Error}
use Rattle.sqlite.specs.declared.error.Error.TheVariants.{SqliteFailure}
use Rattle.sqlite.specs.declared.error.ErrorCode.TheVariants as code
use Rattle.sqlite.specs.Order.{Row}
use Rattle.sqlite.specs.State.{State, Executes, Fails, Shown, FailsToQuery, Opens}
use Rattle.sqlite.specs.Schema.{Schema}
use Rattle.ra_keep_sql.proofs.RowLemmas.{none_bad}
use Rattle.ra_keep_sql.proofs.KeeperLemmas.{caused}
use Rattle.ra_keep_sql.proofs.ReadLemmas.{select_serves, select_reads, select_keeps, select_fails}
use Rattle.ra_keep_sql.proofs.MadeLemmas.{create_makes, create_fails}

pub read_served : (old new : State) (rows : List Row) (list : List Record) → old.now.schema ≡ kept_schema → (IsTrue old.is_open → old.now ≡ old.committed) → old.in_transaction ≡ false → old.step_limit ≡ None → new.step_limit ≡ old.step_limit
    → Shown select_text [] old new rows → records_from 1 rows ≡ Some list → IsServed old new (length list + 1)
read_served old new rows list has settled autocommit unlimited limit h read =
    let same = select_keeps old new rows has h in
    let serves = select_serves old new rows list has (settled same.0.was_open) autocommit unlimited limit h read in
    (same.0.is_open, subst (Serves new) (omega arith) serves, (old.now.trees 0, inl (has, refl), ap list_in same.0.now_is))

-- a fault of the store, or it was shut
faulted : (old new : State) (e : Error) → Fails old new ⊥ e → e ≢ SqliteFailure code.OutOfMemory → IsRefused old new Failed
faulted old new e fails other = elim (cases_Bool old.is_open) [
  | inl up ↦ elim (caused old new e up fails) [ inl memory ↦ absurd (other memory) | inr fault ↦ inr (inr (inr fault)) ]
  | inr shut ↦ inr (inr (inl shut))
]

pub read_failed : (old new : State) (e : Error) → old.now.schema ≡ kept_schema → old.step_limit ≡ None → FailsToQuery select_text [] old new e → e ≢ SqliteFailure code.OutOfMemory → IsRefused old new Failed
read_failed old new e has unlimited h other = faulted old new e (select_fails old new e has unlimited h) other

option_cases : (o : Option (List Record)) → ((list : List Record) × (o ≡ Some list)) ⊎ (o ≡ None)
option_cases (Some list) = inl (list, refl)
option_cases None = inr refl

pub read_bad : (old new : State) (rows : List Row) (row : ℕ) → old.now.schema ≡ kept_schema → old.step_limit ≡ None → Shown select_text [] old new rows → bad_from 1 rows ≡ Some row → IsRefused old new (BadRow row)
read_bad old new rows row has free h bad = (
  has,
  elim (option_cases (list_in old.now)) [
    | inl there ↦ absurd (let none = none_bad 1 rows there.0 (select_reads old new rows there.0 has h there.1) in let both : None ≡ Some row = sym none ∙ bad in cc)
    | inr none ↦ none
  ],
  (rows, subst (λ limit. Shown select_text [] (record old { step_limit = limit }) new rows) free h, bad),
)

pub made_served : (old new : State) (count : ℕ) → old.now.schema ≡ no_schema → old.in_transaction ≡ false → old.step_limit ≡ None → new.step_limit ≡ old.step_limit → Executes create_text [] old new (Ok count) → IsServed old new 1
made_served old new count has autocommit unlimited limit h =
    let made = create_makes old new count has autocommit unlimited limit h in
    (made.1, made.2, ([], inr (has, refl), ap records_of made.3))

pub made_failed : (old new : State) (e : Error) → old.now.schema ≡ no_schema → Executes create_text [] old new (Err e) → e ≢ SqliteFailure code.OutOfMemory → IsRefused old new Failed
made_failed old new e has h other = faulted old new e (create_fails old new e has h) other

pub read_refused : (old new : State) (fault : OpenFault) → old.now.schema ≡ kept_schema → old.step_limit ≡ None
    → ((row : ℕ) → fault ≡ BadRow row → (rows : List Row) × Shown select_text [] old new rows × (bad_from 1 rows ≡ Some row))
    → (fault ≡ Failed → (e : Error) × FailsToQuery select_text [] old new e × (e ≢ SqliteFailure code.OutOfMemory)) → IsRefused old new fault
read_refused old new Failed has unlimited bad failed = let it = failed refl in read_failed old new it.0 has unlimited it.1 it.2
read_refused old new (BadRow row) has unlimited bad failed = let it = bad row refl in read_bad old new it.0 row has unlimited it.1 it.2
read_refused old new NoMemory has unlimited bad failed = tt

-- a limit on steps is no cause
pub refused_limit : (s new : State) (fault : OpenFault) → IsRefused (record s { step_limit = None }) new fault → IsRefused s new fault
refused_limit s new Failed h = h
refused_limit s new (BadRow row) h = h
refused_limit s new NoMemory h = h

both_schemas : (s : State) → s.now.schema ≡ kept_schema → ¬ (s.now.schema ≡ no_schema)
both_schemas s p q = let e : kept_schema ≡ no_schema = sym p ∙ q in let f = ap (λ (x : Schema). length x.tables) e in omega (arith, f)

pub adopts_blank : (old new : State) → Adopts old new → old.now.schema ≡ no_schema → told_in new ≡ Some []
adopts_blank old new a blank = elim a.there [ inl kept ↦ absurd (both_schemas old kept.0 blank) | inr none ↦ a.told ∙ ap records_of none.1 ]

pub memory_refused : (old new : State) (fault : OpenFault) → Opens old → old.now.schema ≡ no_schema → old.faults ≡ 0 → new.faults ≡ 0 → IsRefused old new fault → fault ≡ NoMemory
memory_refused old new Failed opens blank p q (inl h) = absurd (let e = opens.autocommit in let f = h in cc)
memory_refused old new Failed opens blank p q (inr (inl h)) = absurd (h.not_blank blank)
memory_refused old new Failed opens blank p q (inr (inr (inl h))) = absurd (let e = opens.is_open in let f = h in cc)
memory_refused old new Failed opens blank p q (inr (inr (inr h))) = absurd (omega (arith, p, q, h))
memory_refused old new (BadRow row) opens blank p q h = absurd (both_schemas old h.0 blank)
memory_refused old new NoMemory opens blank p q h = refl
