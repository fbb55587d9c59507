-- What the statement that makes the table does.
use Rattle.std.proofs.Common.{◌≡◌, inl, inr, ℕ, ◌≤◌, ◌+◌, ◌<◌, ◌*◌, ◌^◌, List, [], ◌∷◌, length, codes, Bool, true, false, Option, Some, None, Ok, Err, Result, IsTrue, refl, sym, ap, subst, ◌∙◌, arith, nat_lt}
use Rattle.std.specs.Prelude.{IsUtf8}
use Rattle.std.proofs.lemmas.Str.{IsUtf8-from_ascii}
use Rattle.std.proofs.lemmas.List.Sums.{AllPass-from_list_all}
use Rattle.std.specs.List.{list_all, AllPass}
use Rattle.ra_keep_sql.specs.KeptTable.{kept_table, kept_schema, no_schema, Below, create_text}
use Rattle.ra_keep_sql.specs.KeptRows.{records_of}
use Rattle.ra_keep_sql.specs.Keepers.{Serves}
use Rattle.sqlite.specs.declared.error.Error.{Error}
use Rattle.sqlite.specs.Change.{created, next_tree}
use lib.Ieee.{is_nan, lt}
use Rattle.sqlite_trees.specs.Sound.{fits_kind, is_free_name, same_name, begins}
use Rattle.sqlite.specs.Order.{value_cmp}
use Rattle.std.proofs.lemmas.Grind.{common_steps}
use Rattle.std.specs.Prelude.{slice_index, zero, suc, ◌==◌}
use Rattle.sqlite_catalog.specs.declared.error.Refusal.{Refusal}
use Rattle.sqlite_catalog.specs.declared.error.Refusal.TheVariants.{Invalid, NameTaken, BadName, BadKey, BadText, TooBig, Violates}
use Rattle.sqlite_catalog.specs.Calls.{RefusesTable}
use Rattle.sqlite_catalog.specs.Change.{is_used, automatics}
use Rattle.sqlite_catalog.specs.Listing.{is_formed, is_fit}
use Rattle.sqlite_rules.specs.Lists.{Has}
use Rattle.sqlite_resolve.specs.declared.error.CompileError.{CompileError}
use Rattle.sqlite_schema.specs.Rules.{table_reals}
use Rattle.sqlite.specs.declared.types.Value.TheVariants.{Text}
use Rattle.sqlite.specs.Command.TheVariants.{CreateTable}
use Rattle.sqlite.specs.Compile.{table_defined_by}
use Rattle.sqlite.specs.Does.{Tally, Does, MakesTable, lacks_sequence}
use Rattle.sqlite.specs.Effect.{Database}
use Rattle.sqlite.specs.Listing.{understood}
use Rattle.sqlite.specs.Table.{Table}
use Rattle.sqlite.specs.State.{State, mode_of, Executes, Fails, IsMisplaced, Writes}
use Rattle.sqlite.proofs.Callers.{IsPlain, command_of, statement_of, runs_as}
use Rattle.sqlite_tied.specs.Compute.{everything}
use Rattle.ra_keep_sql.proofs.StatementLemmas.{went, same_value}
use Rattle.ra_keep_sql.proofs.CallLemmas.{IsCalled, IsQuiet, only_fails}

create_is : (command_of (understood no_schema create_text) ≡ CreateTable) × (statement_of create_text (understood no_schema create_text) ≡ create_text) × (table_defined_by create_text ≡ Ok kept_table)
unfolding understood everything
create_is = (refl, refl, refl)

create_plain : IsPlain (understood no_schema create_text)
unfolding understood everything
create_plain = (refl, refl)

create_called : IsCalled 0 create_text (understood no_schema create_text)
unfolding understood everything
create_called = (omega arith, refl)

create_quiet : IsQuiet (understood no_schema create_text)
unfolding understood everything
create_quiet = refl

abbrev is_byte : ℕ → Bool
is_byte b = nat_lt b 128

small : (b : ℕ) → is_byte b ≡ true → b < 128
small b h = grind (arith, common_steps)

ascii : (t : List ℕ) → AllPass is_byte t → (i : ℕ) → slice_index t i < 128
ascii [] all i = omega arith
ascii (b ∷ t) all zero = small b (all 0 0 (omega arith))
ascii (b ∷ t) all (suc i) = ascii t (λ k d below. all (suc k) d (omega arith)) i

utf8 : (t : List ℕ) → list_all is_byte t ≡ true → IsUtf8 t
utf8 t h = IsUtf8-from_ascii t (ascii t (AllPass-from_list_all is_byte t h))

create_utf8 : IsUtf8 create_text
create_utf8 = utf8 create_text refl

-- the table that is made is the table of records, and has no row
pub makes : (db after : Database) → db.schema ≡ no_schema → MakesTable create_text db (Ok after) → (after.schema ≡ kept_schema) × (after.trees 0 ≡ [])
makes db after has made =
    let both : Ok made.table ≡ Ok kept_table = sym made.defined ∙ create_is.2 in
    let same : made.table ≡ kept_table = cc in
    (made.is ∙ (ap (λ s. created s made.table) has ∙ ap (created no_schema) same), subst (λ s. after.trees (next_tree s) ≡ []) has made.empty)

only : (table : Table) → table_defined_by create_text ≡ Ok table → kept_table ≡ table
only table is = same_value (sym create_is.2 ∙ is)

create_fit : is_fit (Text (codes "table")) (Text (codes "kept")) (Text (codes "kept")) (Text create_text) ≡ true
unfolding fits_kind is_free_name same_name begins value_cmp is_nan lt
create_fit = refl

unrefused : (why : Refusal) → ¬ RefusesTable no_schema create_text why
unrefused (Invalid e) h = let f : ◌≡◌ {A = Result Table CompileError} (Ok kept_table) (Err e) = sym create_is.2 ∙ h in cc
unrefused NameTaken (table, is, (inl h)) = let f = subst (λ t. is_used no_schema t.name ≡ true) (sym (only table is)) h in cc
unrefused NameTaken (table, is, (inr h)) = subst (λ t. Has (automatics t 0 0 t.uniques) h.0) (sym (only table is)) h.1
unrefused BadName (table, is, (inl h)) = h (subst (λ t. IsUtf8 t.name) (only table is) (utf8 (codes "kept") refl))
unrefused BadName (table, is, (inr h)) = let f = subst (λ t. (length t.uniques == 0) ≡ false) (sym (only table is)) h.1 in cc
unrefused TooBig (table, is, (inl h)) = let f = subst (λ t. 65536 ≤ next_tree no_schema + length t.uniques) (sym (only table is)) h in omega (arith, f)
unrefused TooBig (table, is, (inr (inl h))) = let f = subst (λ t. 2 ^ 64 ≤ table_reals t) (sym (only table is)) h in omega (arith, f)
unrefused TooBig (table, is, (inr (inr h))) = subst (λ t. Has t.uniques h.0) (sym (only table is)) h.1
unrefused BadKey (table, is, h) = let f = subst (λ t. is_formed t ≡ false) (sym (only table is)) h in cc
unrefused BadText (table, is, h) = let f = subst (λ t. is_fit (Text (codes "table")) (Text t.name) (Text t.name) (Text create_text) ≡ false) (sym (only table is)) h in let yes_it = create_fit in cc
unrefused (Violates rule) h = h

unmade : (db : Database) (stop : Option Error) → db.schema ≡ no_schema → ¬ MakesTable create_text db (Err stop)
unmade db None has h =
    let same : kept_table ≡ h.0 = same_value (sym create_is.2 ∙ h.1) in
    let long : 10 ^ 9 ≤ 2 * length kept_table.name + length create_text + 200 = subst (λ (t : Table). 10 ^ 9 ≤ 2 * length t.name + length create_text + 200) (sym same) h.2 in
    omega (arith, long)
unmade db (Some e) has (inl h) = h.0 create_utf8
unmade db (Some e) has (inr h) = unrefused h.0 (subst (λ schema. RefusesTable schema create_text h.0) has h.1)

-- the table is made, and a keeper begins with record 1
pub create_makes : (old new : State) (count : ℕ) → old.now.schema ≡ no_schema → old.in_transaction ≡ false → old.step_limit ≡ None → new.step_limit ≡ old.step_limit → Executes create_text [] old new (Ok count)
    → IsTrue old.is_open × IsTrue new.is_open × Serves new 1 × (new.now.trees 0 ≡ [])
create_makes old new count has settled unlimited limit h =
    let w = subst (λ t. Writes old new None CreateTable t [] count) create_is.1 (runs_as create_text [] old new no_schema has CreateTable create_is.0 create_plain count h) in
    let all = went w.changed in
    let first = went all.1 in
    let made = makes old.now first.0 has first.1 in
    let plain : lacks_sequence first.0.schema ≡ false = ap lacks_sequence made.0 in
    let now : new.now ≡ first.0 = ap (λ (p : Tally × Database). p.1) (same_value all.2) ∙ same_value (rw plain at first.2) in
    let schema : new.now.schema ≡ kept_schema = ap (λ (d : Database). d.schema) now ∙ made.0 in
    let empty : new.now.trees 0 ≡ [] = ap (λ (d : Database). d.trees 0) now ∙ made.1 in
    let committed : new.committed ≡ new.now = rw settled at w.shown.committed_is in
    let few : records_of (new.now.trees 0) ≡ Some [] = ap records_of empty in (
      w.shown.was_open,
      w.shown.is_open,
      record {
        schema = schema;
        settled = sym committed;
        autocommit = w.shown.mode ∙ settled;
        unlimited = limit ∙ unlimited;
        below = subst (Below 1) (sym empty) tt;
        numbered = λ list is. let e : Some [] ≡ Some list = sym few ∙ is in let none : [] ≡ list = cc in omega (arith, ap length none);
      },
      empty,
    )

unplaced : (s : State) (e : Error) → ¬ IsMisplaced s CreateTable e
unplaced s e (inl (a, (inl h))) = let f = h.0 in cc
unplaced s e (inl (a, (inr (inl h, x)))) = let f = h in cc
unplaced s e (inl (a, (inr (inr h, x)))) = let f = h in cc
unplaced s e (inr (a, name, (inl h), x)) = let f = h in cc
unplaced s e (inr (a, name, (inr h), x)) = let f = h in cc

never_stops : (s : State) (db : Database) (stop : Option Error) → db.schema ≡ no_schema → ¬ Does s.step_limit (mode_of s) [] db create_text None CreateTable (Err stop)
never_stops s db stop has (inl (a, (inl (b, h, same)), is)) = unmade db b has h
never_stops s db stop has (inl (a, (inr (mid, made, h)), is)) =
    let plain : lacks_sequence mid.schema ≡ false = ap lacks_sequence (makes db mid has made).0 in
    let e = rw plain at h in cc
never_stops s db stop has (inr (mid, made, h)) = let e = h in cc

-- only the store refuses to make it
pub create_fails : (old new : State) (e : Error) → old.now.schema ≡ no_schema → Executes create_text [] old new (Err e) → Fails old new ⊥ e
create_fails old new e has h =
    only_fails create_text [] old new no_schema has CreateTable create_is.0 create_plain create_called create_quiet
    (λ stop does. never_stops old old.now stop has (subst (λ t. Does old.step_limit (mode_of old) [] old.now t None CreateTable (Err stop)) create_is.1 does)) (unplaced old) e h
