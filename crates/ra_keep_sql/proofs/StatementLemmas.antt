-- What the statement that adds a record does, and that only the store can refuse it.
use Rattle.std.proofs.Common.{◌≡◌, ◌⊎◌, inl, inr, ℕ, ℤ, pos, List, [], ◌∷◌, ◌++◌, Bool, true, false, cond, None, Ok, Err, Result, refl, ap, subst, ◌∙◌}
use Rattle.ra_keep.specs.declared.record.Record.{Record}
use Rattle.ra_keep_sql.specs.KeptTable.{kept_table, kept_schema, kind_number, stored, inserted, Below, insert_text}
use Rattle.sqlite.specs.declared.types.Value.{Value}
use Rattle.sqlite.specs.declared.types.Value.TheVariants.{Null, Int}
use Rattle.sqlite.specs.Cast.{cast}
use Rattle.sqlite.specs.Command.TheVariants.{Insert}
use Rattle.sqlite.specs.Does.{Tally, Does}
use Rattle.sqlite.specs.Edit.{Edit, edit_of, edited}
use Rattle.sqlite.specs.Effect.{Database}
use Rattle.sqlite.specs.Kind.TheVariants.{Integer}
use Rattle.sqlite.specs.Listing.{understood}
use Rattle.sqlite.specs.Ops.{unary}
use Rattle.sqlite.specs.Order.{Row, value_cmp}
use Rattle.sqlite.specs.Rowids.TheVariants.{Chosen}
use Rattle.sqlite.specs.Rows.{Written}
use Rattle.sqlite.specs.Source.TheVariants.{Values}
use Rattle.sqlite.specs.State.{State, mode_of}
use Rattle.sqlite.specs.Term.{Term, lit, col}
use Rattle.sqlite.specs.Tree.{Trees, rowid, put_row}
use Rattle.sqlite.proofs.Callers.{IsPlain, command_of, one_step}
use Rattle.ra_keep_sql.proofs.RowLemmas.{below_is}
use Rattle.sqlite_tied.specs.Compute.{everything}

-- a part that gave a value did not stop on the way
pub went : {B E R : Type 0} {b : B} {Stops : E → Type 0} → ((stop : E) × Stops stop × (Ok b ≡ Err stop)) ⊎ R → R
went (inl stopped) = absurd (let e = stopped.2 in cc)
went (inr on) = on

pub same_value : {B E : Type 0} {a b : B} → ◌≡◌ {A = Result B E} (Ok a) (Ok b) → a ≡ b
same_value e = cc

-- the values of an insert: the rowid, its column, which stays empty, and the other four parameters
abbrev pub terms : List Term
terms = col 0 0 ∷ lit Null ∷ col 0 1 ∷ col 0 2 ∷ col 0 3 ∷ col 0 4 ∷ []

pub insert_is : command_of (understood kept_schema insert_text) ≡ Insert 0 (Values terms 6)
unfolding understood everything
insert_is = refl

pub insert_plain : IsPlain (understood kept_schema insert_text)
unfolding understood everything
insert_plain = (refl, refl)

either : (b : Bool) (x : Value) → cond b x x ≡ x
either true x = refl
either false x = refl

pub cast_int : (n : ℤ) → cast Integer (Int n) ≡ Int n
unfolding unary
cast_int n = either _ (Int n)

pub cast_null : cast Integer Null ≡ Null
unfolding unary
cast_null = either _ Null

put_last : (new : Row) (rows : List Row) (n : ℕ) → rowid new ≡ Int (pos n) → Below n rows → put_row new rows ≡ rows ++ new ∷ []
put_last new [] n id below = refl
put_last new (r ∷ rows) n id below = rw (id, below.0.1, below_is below.0.0 n below.0.2) (ap (λ l. r ∷ l) (put_last new rows n id below.1))

abbrev pub insert_command : Rattle.sqlite.specs.Command.Command
insert_command = Insert 0 (Values terms 6)

-- the statement adds the row behind the others
pub adds : (s : State) (db after : Database) (tally : Tally) (text : List ℕ) (n : ℕ) (r : Record) → db.schema ≡ kept_schema → Below n (db.trees 0)
    → Does s.step_limit (mode_of s) (inserted n r) db text None insert_command (Ok (tally, after))
    → (after.schema ≡ kept_schema) × (after.trees 0 ≡ db.trees 0 ++ stored n r ∷ [])
adds s db after tally text n r has below does =
    let trees = db.trees in
    let done = went (subst (λ schema. Does s.step_limit (mode_of s) (inserted n r) (record db { schema = schema }) text None insert_command (Ok (tally, after))) has does) in
    let now = ap (λ (p : Tally × Database). p.1) (same_value (went (went done.2).2).2) in
    let given = went done.1 in
    let written = went (went given.2).2 in
    let counted = went written.2 in
    let next : done.0.trees ≡ written.0 = ap (λ (it : Written). it.trees) (same_value counted.2) ∙ same_value counted.1 in
    let put = (one_step kept_schema _ trees written.0 (edit_of trees kept_table [] Chosen 0 given.0) refl written.1).rows in
    let last : put_row (stored n r) (trees 0) ≡ trees 0 ++ stored n r ∷ [] = put_last (stored n r) (trees 0) n refl below in
    let edit : edited trees (edit_of trees kept_table [] Chosen 0 given.0) ≡ trees 0 ++ stored n r ∷ [] =
    ap (λ all. edited trees (edit_of trees kept_table [] Chosen 0 all)) given.1.1 ∙ (rw (cast_int (pos n), cast_null, cast_int (pos (kind_number r.key.kind)), cast_int (pos r.epoch), cast_int (pos r.at)) last) in
    (ap (λ (d : Database). d.schema) now, ap (λ (d : Database). d.trees 0) now ∙ ap (λ (t : Trees). t 0) next ∙ put ∙ edit)
