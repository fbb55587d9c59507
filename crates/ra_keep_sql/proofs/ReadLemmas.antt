-- What the query shows of the table.
use Rattle.std.proofs.Common.{◌≡◌, ◌≢◌, inl, inr, ℕ, ◌≤◌, ◌+◌, ◌<◌, pos, negsuc, List, [], ◌∷◌, map, length, codes, false, Some, None, IsTrue, refl, sym, ap, subst, ◌∙◌, arith}
use Rattle.std.specs.declared.cmp.Ordering.TheVariants.{Less}
use Rattle.std.specs.List.{AllByRecursion}
use Rattle.std.specs.List.Sorted.{IsPermutation}
use Rattle.std.specs.Prelude.{flat_map, All}
use Rattle.std.proofs.lemmas.List.Sorted.{IsPermutation-map, IsPermutation-sym, All-permutation}
use Rattle.std.proofs.lemmas.List.Elements.{All-nil, All-cons, All-head, All-tail}
use Rattle.ra_keep.specs.declared.record.Record.{Record}
use Rattle.ra_keep_sql.specs.KeptTable.{kept_schema, Below, select_text}
use Rattle.ra_keep_sql.specs.KeptRows.{records_from, records_of, record_in, shown_row}
use Rattle.ra_keep_sql.specs.Keepers.{list_in, told_in, Serves, Stays, Queries}
use Rattle.ra_keep_sql.specs.KeptRows.{bad_from}
use Rattle.sqlite.specs.View.{doubt}
use Rattle.sqlite.specs.State.{HasCleanDisk}
use Rattle.sqlite.specs.declared.error.Error.TheVariants.{SqliteFailure}
use Rattle.sqlite.specs.declared.error.ErrorCode.TheVariants as code
use Rattle.sqlite_disk.specs.Disk.{MoreFaults}
use Rattle.ra_keep_sql.proofs.OpenLemmas.{shown_open, refused_open}
use Rattle.ra_keep_sql.proofs.KeeperLemmas.{told_means, told_where, serves_still, caused}
use Rattle.sqlite.specs.declared.types.Value.TheVariants.{Null, Int}
use Rattle.sqlite.specs.declared.error.Error.{Error}
use Rattle.sqlite.specs.Collation.TheVariants.{Binary}
use Rattle.sqlite.specs.Command.{Command}
use Rattle.sqlite.specs.Command.TheVariants.{Select}
use Rattle.sqlite.specs.Effect.{Database, RefusesToRead}
use Rattle.sqlite.specs.Listing.{understood, reads_listing}
use Rattle.sqlite.specs.Order.{Row, column}
use Rattle.sqlite.specs.Program.{overlay}
use Rattle.sqlite.specs.Query.{Query, inner, end, IsAnswer, output, page, Output, output_cmp}
use Rattle.sqlite.specs.State.{State, Shown, Fails, FailsToQuery, IsUnchanged}
use Rattle.sqlite.specs.Term.{Env, lit, col}
use Rattle.sqlite.specs.Tree.{Trees, IsAscending}
use Rattle.sqlite.proofs.Callers.{IsPlain, command_of, reads_as}
use Rattle.sqlite_keyed.proofs.SortLemmas.{sorted_unique}
use Rattle.sqlite_sql.proofs.QueryLemmas.{output_cmp_total}
use Rattle.sqlite_tied.specs.Compute.{everything}
use Rattle.ra_keep_sql.proofs.RowLemmas.{with_first_some, id_is, below_is, none_bad}
use Rattle.ra_keep_sql.proofs.CallLemmas.{IsCalled, only_fails_to_show, shown_same}

abbrev query : Query
query = record {
  from = inner 0 end;
  filter = [];
  group = None;
  project = col 1 0 ∷ col 1 2 ∷ col 1 3 ∷ col 1 4 ∷ col 1 5 ∷ [];
  distinct = false;
  collations = [];
  order = (col 1 0, record { collation = Binary; descending = false }) ∷ [];
  limit = lit (Int (negsuc 0));
  offset = lit (Int (pos 0));
}

abbrev select_command : Command
select_command = Select (record { lets = []; body = query }) (codes "n" ∷ codes "kind" ∷ codes "token" ∷ codes "epoch" ∷ codes "moment" ∷ [])

pub select_plain : IsPlain (understood kept_schema select_text)
unfolding understood everything
select_plain = (refl, refl)

select_is : (command_of (understood kept_schema select_text) ≡ select_command) × (reads_listing kept_schema select_text ≡ false)
unfolding understood everything
select_is = (refl, refl)

select_called : IsCalled 0 select_text (understood kept_schema select_text)
unfolding understood everything
select_called = (omega arith, refl)

reads_all : (old new : State) (rows : List Row) → old.now.schema ≡ kept_schema → Shown select_text [] old new rows → IsAnswer query (overlay old.now.trees []) [] rows
reads_all old new rows has h =
    let got = reads_as select_text [] old new kept_schema has _ select_is.0 select_plain select_is.1 rows h in
    got.answer Null

unrefused : (db : Database) (e : Error) → db.schema ≡ kept_schema → ¬ RefusesToRead None select_command db [] e
unrefused db e has (inl h) = let f = rw has at h.1 in cc
unrefused db e has (inr (inl (is, (inl h)))) = h
unrefused db e has (inr (inl (is, (inr h)))) = h.4
unrefused db e has (inr (inr h)) = let f = h.1 in cc

-- only the store refuses the query
pub select_fails : (old new : State) (e : Error) → old.now.schema ≡ kept_schema → old.step_limit ≡ None → FailsToQuery select_text [] old new e → Fails old new ⊥ e
select_fails old new e has unlimited h =
    only_fails_to_show select_text [] old new kept_schema has select_command select_is.0 select_plain select_called select_is.1 (λ why refused. unrefused old.now why has (rw unlimited at refused)) e h

-- ---- the whole answer

env_of : Row → Env
env_of row = [] ∷ row ∷ []

flat : (rows : List Row) → flat_map (λ r. ([] ∷ r ∷ []) ∷ []) rows ≡ map env_of rows
unfolding env_of
flat [] = refl
flat (row ∷ rows) = ap (λ l. ([] ∷ row ∷ []) ∷ l) (flat rows)

out : Row → Output
out row = (column row 0 ∷ [], shown_row row)

outs : (rows : List Row) → map (output query) (map env_of rows) ≡ map out rows
unfolding env_of out
outs [] = refl
outs (row ∷ rows) = ap (λ l. (column row 0 ∷ [], shown_row row) ∷ l) (outs rows)

rows_of : (rows : List Row) → map (λ (o : Output). o.1) (map out rows) ≡ map shown_row rows
unfolding out
rows_of [] = refl
rows_of (row ∷ rows) = ap (λ l. shown_row row ∷ l) (rows_of rows)

lower : (x y : Row) (m n : ℕ) → column x 0 ≡ Int (pos m) → column y 0 ≡ Int (pos n) → m < n → output_cmp query (out x) (out y) ≡ Less
unfolding out
lower x y m n p q below = rw (p, q, below_is m n below) refl

above : (x : Row) (m n : ℕ) (rows : List Row) (list : List Record) → column x 0 ≡ Int (pos m) → m < n → records_from n (map shown_row rows) ≡ Some list
    → AllByRecursion (λ y. output_cmp query (out x) y ≡ Less) (map out rows)
above x m n [] list p below h = tt
above x m n (row ∷ rows) list p below h =
    let s = with_first_some (record_in n (shown_row row)) (records_from (n + 1) (map shown_row rows)) list h in
    (lower x row m n p (id_is n (shown_row row) s.0 s.2) below, above x m (n + 1) rows s.1 p (omega (arith, below)) s.3)

rises : (n : ℕ) (rows : List Row) (list : List Record) → records_from n (map shown_row rows) ≡ Some list → IsAscending (λ x y. output_cmp query x y ≡ Less) (map out rows)
rises n [] list h = tt
rises n (row ∷ rows) list h =
    let s = with_first_some (record_in n (shown_row row)) (records_from (n + 1) (map shown_row rows)) list h in
    (above row n (n + 1) rows s.1 (id_is n (shown_row row) s.0 s.2) (omega arith) s.3, rises (n + 1) rows s.1 s.3)

-- where the rows of the table are records, the query shows them in their order
pub all_shown : (trees : Trees) (list : List Record) (rows : List Row) → records_of (trees 0) ≡ Some list → IsAnswer query (overlay trees []) [] rows → rows ≡ map shown_row (trees 0)
all_shown trees list rows is a =
    let staged : a.staged ≡ map env_of (trees 0) = a.grouped ∙ flat (trees 0) in
    let kept : a.kept ≡ map out (trees 0) = a.distinct ∙ (ap (map (output query)) staged ∙ outs (trees 0)) in
    let same = subst (λ l. IsPermutation l a.ordered) kept a.same in
    let ordered : a.ordered ≡ map out (trees 0) = sorted_unique (output_cmp query) (output_cmp_total query) (map out (trees 0)) a.ordered (rises 1 (trees 0) list is) same a.sorted in
    a.shown ∙ (ap (λ xs. page query [] (map (λ (o : Output). o.1) xs)) ordered ∙ rows_of (trees 0))

-- the rows that are shown are the table's, in some order
pub shown_some : (trees : Trees) (rows : List Row) → IsAnswer query (overlay trees []) [] rows → IsPermutation (map shown_row (trees 0)) rows
shown_some trees rows a =
    let staged : a.staged ≡ map env_of (trees 0) = a.grouped ∙ flat (trees 0) in
    let kept : a.kept ≡ map out (trees 0) = a.distinct ∙ (ap (map (output query)) staged ∙ outs (trees 0)) in
    let same = IsPermutation-map (λ (o : Output). o.1) (map out (trees 0)) a.ordered (subst (λ l. IsPermutation l a.ordered) kept a.same) in
    subst (λ l. IsPermutation l rows) (rows_of (trees 0)) (subst (λ l. IsPermutation (map (λ (o : Output). o.1) (map out (trees 0))) l) (sym a.shown) same)

abbrev IsBelow : ℕ → Row → Type 0
IsBelow n row = (id : ℕ) × (column row 0 ≡ Int (pos id)) × (id < n)

each_below : (n : ℕ) (rows : List Row) (list : List Record) (m : ℕ) → records_from n rows ≡ Some list → n + length list ≤ m → All (IsBelow m) rows
each_below n [] list m h most = All-nil (IsBelow m)
each_below n (row ∷ rows) list m h most =
    let s = with_first_some (record_in n row) (records_from (n + 1) rows) list h in
    let fewer : (n + 1) + length s.1 ≤ m = omega (arith, most, ap length s.4) in
    All-cons (IsBelow m) row rows (n, id_is n row s.0 s.2, omega (arith, fewer)) (each_below (n + 1) rows s.1 m s.3 fewer)

below_shown : (n : ℕ) (rows : List Row) → All (IsBelow n) (map shown_row rows) → Below n rows
below_shown n [] all = tt
below_shown n (row ∷ rows) all = (All-head (IsBelow n) (shown_row row) (map shown_row rows) all, below_shown n rows (All-tail (IsBelow n) (shown_row row) (map shown_row rows) all))

-- the rows that the query shows are records, so a keeper goes on behind them
pub select_serves : (old new : State) (rows : List Row) (list : List Record) → old.now.schema ≡ kept_schema → old.now ≡ old.committed → old.in_transaction ≡ false → old.step_limit ≡ None → new.step_limit ≡ old.step_limit
    → Shown select_text [] old new rows → records_from 1 rows ≡ Some list → Serves new (1 + length list)
select_serves old new rows list has settled autocommit unlimited limit h read =
    let same = shown_same select_text [] old new kept_schema has select_command select_is.0 select_plain select_called rows h in
    let a = reads_all old new rows has h in
    let each = All-permutation (IsBelow (1 + length list)) rows (map shown_row (old.now.trees 0)) (IsPermutation-sym (map shown_row (old.now.trees 0)) rows (shown_some old.now.trees rows a)) (each_below 1 rows list (1 + length list) read (omega arith)) in
    record {
      schema = ap (λ (d : Database). d.schema) same.0.now_is ∙ has;
      settled = same.0.now_is ∙ (settled ∙ sym same.0.committed_is);
      autocommit = same.0.mode ∙ autocommit;
      unlimited = limit ∙ unlimited;
      below = subst (λ (d : Database). Below (1 + length list) (d.trees 0)) (sym same.0.now_is) (below_shown (1 + length list) (old.now.trees 0) each);
      numbered = λ told is.
          let there : list_in old.now ≡ Some told = ap list_in (sym same.0.now_is) ∙ is in
          let both : Some list ≡ Some told = sym read ∙ (ap (records_from 1) (all_shown old.now.trees told rows there a) ∙ there) in
          let one : list ≡ told = cc in
          ap (λ l. 1 + length l) one;
    }

-- where the table's rows are records, they are what the query reads
pub select_reads : (old new : State) (rows : List Row) (list : List Record) → old.now.schema ≡ kept_schema → Shown select_text [] old new rows → list_in old.now ≡ Some list → records_from 1 rows ≡ Some list
select_reads old new rows list has h there = ap (records_from 1) (all_shown old.now.trees list rows there (reads_all old new rows has h)) ∙ there

-- the query leaves the database as it was
pub select_keeps : (old new : State) (rows : List Row) → old.now.schema ≡ kept_schema → Shown select_text [] old new rows → IsUnchanged old new
select_keeps old new rows has = shown_same select_text [] old new kept_schema has select_command select_is.0 select_plain select_called rows

-- the query leaves what a keeper serves
pub queries_stay : (old new : State) (n : ℕ) → (HasCleanDisk old → IsTrue old.is_open → Serves old n) → doubt old.is_clean ≤ doubt new.is_clean → new.step_limit ≡ old.step_limit → HasCleanDisk new → Queries old new → Stays old new n
queries_stay old new n start falls limit clean (inl (rows, h)) =
    let was : HasCleanDisk old = omega (arith, falls, clean) in
    let was_open = shown_open select_text [] old new rows h in
    let serves = start was was_open in
    let same = select_keeps old new rows serves.schema h in
    record {
      serves = λ up. record {
        schema = ap (λ (d : Database). d.schema) same.0.now_is ∙ serves.schema;
        settled = same.0.now_is ∙ (serves.settled ∙ sym same.0.committed_is);
        autocommit = same.0.mode ∙ serves.autocommit;
        unlimited = limit ∙ serves.unlimited;
        below = subst (λ (d : Database). Below n (d.trees 0)) (sym same.0.now_is) serves.below;
        numbered = λ list is. serves.numbered list (ap list_in (sym same.0.now_is) ∙ is);
      };
      told = λ list is. told_where old was was_open ∙ (ap list_in (sym same.0.now_is) ∙ (told_means new list is).2);
    }
queries_stay old new n start falls limit clean (inr (e, h)) =
    let was : HasCleanDisk old = omega (arith, falls, clean) in
    let left = λ (up : IsTrue new.is_open).
    let serves = start was (refused_open select_text [] old new e h up) in
    serves_still old new n e serves limit (select_fails old new e serves.schema serves.unlimited h) up in
    record {
      serves = λ up. (left up).0;
      told = λ list is.
          let t = told_means new list is in
          told_where old was (refused_open select_text [] old new e h t.1) ∙ (ap list_in (sym (left t.1).1) ∙ t.2);
    }

-- what is read is what is told
pub reads_told : (old new : State) (n : ℕ) (rows : List Row) (read list : List Record) → (HasCleanDisk old → IsTrue old.is_open → Serves old n) → doubt old.is_clean ≤ doubt new.is_clean → Shown select_text [] old new rows
    → records_from 1 rows ≡ Some read → told_in new ≡ Some list → read ≡ list
reads_told old new n rows read list start falls h is told =
    let t = told_means new list told in
    let was : HasCleanDisk old = omega (arith, falls, t.0) in
    let serves = start was (shown_open select_text [] old new rows h) in
    let same = select_keeps old new rows serves.schema h in
    let both : Some read ≡ Some list = sym is ∙ select_reads old new rows list serves.schema h (ap list_in (sym same.0.now_is) ∙ t.2) in
    cc

-- a query that fails where the records are told: the store failed
pub read_fault : (old new : State) (n : ℕ) (e : Error) → Serves old n → IsTrue old.is_open → FailsToQuery select_text [] old new e → e ≢ SqliteFailure code.OutOfMemory → MoreFaults old.faults new.faults
read_fault old new n e serves up h other = elim (caused old new e up (select_fails old new e serves.schema serves.unlimited h)) [ inl memory ↦ absurd (other memory) | inr fault ↦ fault ]

-- no bad row is read where the records are told
pub no_bad_read : (old new : State) (n : ℕ) (rows : List Row) (row : ℕ) (list : List Record) → Serves old n → list_in old.now ≡ Some list → Shown select_text [] old new rows → ¬ (bad_from 1 rows ≡ Some row)
no_bad_read old new n rows row list serves there h bad =
    let none = none_bad 1 rows list (select_reads old new rows list serves.schema h there) in let both : None ≡ Some row = sym none ∙ bad in cc
