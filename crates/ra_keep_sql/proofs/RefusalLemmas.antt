-- That only the store can refuse the statements, where the table is there.
use Rattle.std.proofs.Common.{◌≡◌, ◌≢◌, inl, inr, ℕ, ◌<◌, ◌^◌, zero, suc, pos, List, [], ◌∷◌, length, Bool, true, false, Option, Some, None, Err, All, refl, sym, ap, subst, ◌∙◌, arith}
use Rattle.std.proofs.lemmas.Grind.{common_steps}
use Rattle.ra_base.specs.TokenGrammar.{IsToken}
use Rattle.ra_keep.specs.declared.record.Record.{Record}
use Rattle.ra_keep_sql.specs.KeptTable.{kept_table, kept_schema, kind_number, stored, inserted, Below}
use Rattle.sqlite.specs.declared.types.Value.{Value}
use Rattle.sqlite.specs.declared.types.Value.TheVariants.{Int}
use Rattle.sqlite.specs.declared.error.Error.{Error}
use Rattle.sqlite.specs.Does.{Does, Concludes, due}
use Rattle.sqlite.specs.Rows.{Task, Then, Sourced, Inserts}
use Rattle.sqlite.specs.Source.TheVariants.{Values}
use Rattle.sqlite.specs.View.{IsStorableRow}
use Rattle.std.specs.Int.{bit_at}
use Rattle.std.proofs.lemmas.Nat.Bits.{bit_at-zero}
use Rattle.std.proofs.lemmas.List.Elements.{All-from_recursion}
use lib.Ieee.{is_nan}
use Rattle.std.specs.Float.{NotNan, float_zero}
use Rattle.sqlite_value.specs.Order.{number}
use Rattle.sqlite_schema.specs.Rules.{table_reals, Refers}
use Rattle.sqlite_schema.specs.declared.schema.Among.{Among}
use Rattle.sqlite_rules.specs.Action.{Writes, Leads}
use Rattle.std.proofs.Common.{length-append}
use Rattle.sqlite.specs.Edit.{Edit, edit_of, edited, IsRefused, is_taken}
use Rattle.sqlite.specs.Effect.{Database}
use Rattle.sqlite.specs.Ops.{fits_i64}
use Rattle.sqlite.specs.Order.{Row}
use Rattle.sqlite.specs.Rowids.TheVariants.{Chosen}
use Rattle.sqlite.specs.State.{State, mode_of}
use Rattle.sqlite.specs.Tree.{Trees}
use Rattle.sqlite_rules.specs.declared.error.Refusal.{Refusal}
use Rattle.sqlite_rules.specs.declared.error.Refusal.TheVariants.{Violates, Mismatch, NoRowid, BadReference, TooDeep}
use Rattle.sqlite_schema.specs.declared.schema.Constraint.TheVariants.{Datatype, NotNull, Check, PrimaryKey, Unique, ForeignKey}
use Rattle.ra_keep_sql.proofs.RowLemmas.{below_is}
use Rattle.ra_keep_sql.proofs.StatementLemmas.{terms, insert_command, cast_int, cast_null}

abbrev edit_for : Trees → ℕ → Record → Edit
edit_for db n r = record { table = kept_table; gone = []; news = stored n r ∷ [] }

untaken : (rows : List Row) (n : ℕ) (r : Record) → Below n rows → is_taken rows (stored n r) ≡ false
untaken [] n r below = refl
untaken (row ∷ rows) n r below = rw (below.0.1, below_is below.0.0 n below.0.2) (untaken rows n r below.1)

keeps_each : (rows : List Row) → Rattle.std.specs.List.AllByRecursion (λ row. ◌≡◌ {A = Bool} true true) rows
keeps_each [] = tt
keeps_each (row ∷ rows) = (refl, keeps_each rows)

fits_small : (n : ℕ) → n < 2 ^ 63 → fits_i64 (pos n) ≡ true
fits_small n h = grind (arith, common_steps)

unrefused : (s : State) (db : Trees) (n : ℕ) (r : Record) (why : Refusal) → Below n (db 0) → n < 2 ^ 63 → ¬ IsRefused kept_schema (mode_of s).keys db (edit_for db n r) why
unrefused s db n r (Violates Datatype) below fits h = let e = h in cc
unrefused s db n r (Violates NotNull) below fits h = let e = h in cc
unrefused s db n r (Violates Check) below fits h = let e = h in cc
unrefused s db n r (Violates PrimaryKey) below fits h = let e = rw (untaken (db 0) n r below) at h in cc
unrefused s db n r (Violates Unique) below fits h = h (keeps_each _, tt)
unrefused s db n r (Violates ForeignKey) below fits h = h
unrefused s db n r Mismatch below fits h = let e = h in cc
unrefused s db n r NoRowid below fits h = let e = rw (fits_small n fits) at h in cc
unrefused s db n r BadReference below fits h = let e = h in cc
unrefused s db n r TooDeep below fits h = h

unreal : (c : ℕ) → bit_at 0 c ≢ 1
unreal c h = let e = rw (bit_at-zero c) at h in cc

zero_is : NotNan float_zero
unfolding is_nan
zero_is = tt

whole : (n : ℕ) → NotNan (number (Int (pos n)))
unfolding is_nan
whole n = tt

storable : (n : ℕ) (r : Record) → IsToken r.key.token → IsStorableRow (table_reals kept_table) (stored n r)
storable n r token =
    let P = λ (v : Value). NotNan (number v) in
    let numbers : All P (stored n r) =
    All-from_recursion P (stored n r) (whole n, (zero_is, (whole (kind_number r.key.kind), (zero_is, (whole r.epoch, (whole r.at, tt)))))) in (
      record {
        typed = λ c real. absurd (unreal c real);
        columns = (omega arith, omega arith);
        numbers = numbers;
        short = omega (arith, token.most);
      },
      omega arith,
    )

unwritten : (s : State) (db : Trees) (n : ℕ) (r : Record) (why : Option Refusal) → Below n (db 0) → n < 2 ^ 63 → IsToken r.key.token → ¬ Writes kept_schema (mode_of s).keys db (edit_for db n r) (Err why)
unwritten s db n r why below fits token (inl h) = unrefused s db n r h.0 below fits h.1
unwritten s db n r why below fits token (inr (inl (row, (inl same), (inl big), e))) = big (subst (IsStorableRow (table_reals kept_table)) (sym same) (storable n r token))
unwritten s db n r why below fits token (inr (inl (row, (inl same), (inr big), e))) = big.1
unwritten s db n r why below fits token (inr (inl (row, (inr has), big, e))) = has
unwritten s db n r why below fits token (inr (inr went)) = never went.2.0 went.2.1
  where
    never : (k : ℕ) → ¬ Leads kept_schema (mode_of s).keys k went.0 [] (Err why)
    never zero h = let e = h.1 in cc
    never (suc k) h = absurd (omega (arith, ap length h.2, length-append h.0 (h.1 ∷ [])))

refers : (db : Trees) (among : Among) → Refers among kept_schema db
refers db among = (keeps_each (db 0), tt)

pub never_stops : (s : State) (db : Database) (text : List ℕ) (n : ℕ) (r : Record) (stop : Option Error) → db.schema ≡ kept_schema → s.step_limit ≡ None → Below n (db.trees 0) → n < 2 ^ 63 → IsToken r.key.token
    → ¬ Does s.step_limit (mode_of s) (inserted n r) db text None insert_command (Err stop)
never_stops s db text n r stop has unlimited below fits token does =
    either (subst (λ schema. Does s.step_limit (mode_of s) (inserted n r) (record db { schema = schema }) text None insert_command (Err stop)) has does)
  where
    task : Task
    task = record { limit = s.step_limit; keys = (mode_of s).keys; schema = kept_schema; table = kept_table; params = inserted n r }

    sourced : (stop : Option Error) → ¬ Sourced s.step_limit (record { schema = kept_schema; trees = db.trees }) (inserted n r) (Values terms 6) (Err stop)
    sourced None h = h
    sourced (Some e) (inl h) = let f = h.1 in cc
    sourced (Some e) (inr h) = let e = rw unlimited at h.1 in cc

    inserts : (stop : Option Error) → ¬ Inserts task (Values terms 6) db.trees (Err stop)
    inserts stop (inl h) = sourced h.0 h.1
    inserts stop (inr (rows, given, (inl h))) = let e = h.1 in cc
    inserts stop (inr (rows, given, (inr (counter, counted, (inl h))))) =
        let same : edit_of db.trees kept_table [] Chosen 0 rows ≡ edit_for db.trees n r =
        ap (edit_of db.trees kept_table [] Chosen 0) given.1 ∙ (rw (cast_int (pos n), cast_null, cast_int (pos (kind_number r.key.kind)), cast_int (pos r.epoch), cast_int (pos r.at)) refl) in
        unwritten s db.trees n r h.1.0 below fits token (subst (λ edit. Writes kept_schema (mode_of s).keys db.trees edit (Err h.1.0)) same h.1.1)
    inserts stop (inr (rows, given, (inr (counter, counted, (inr (mid, edited, (inl h))))))) = let e = h.1 in cc
    inserts stop (inr (rows, given, (inr (counter, counted, (inr (mid, edited, (inr h))))))) = let e = h.2 in cc

    either : ¬ Then (Inserts task (Values terms 6) db.trees) (Concludes task (mode_of s) None) (Err stop)
    either (inl h) = inserts h.0 h.1
    either (inr (w, done, (inl h))) = h.1.0 (refers w.trees (due (mode_of s)))
    either (inr (w, done, (inr (a, held, (inl h))))) = let e = h.1 in cc
    either (inr (w, done, (inr (a, held, (inr h))))) = let e = h.2 in cc
