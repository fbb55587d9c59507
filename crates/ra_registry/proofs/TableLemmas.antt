-- Changes of single rows, and of the rows of many entries.
use Rattle.std.proofs.Common.{◌≡◌, ℕ, ◌+◌, ◌<◌, Bool, true, false, not, cond, ◌&&◌, ◌||◌, List, length, take, get_or, Option, None, Some, option_map, ap, sym, ◌∙◌, refl}
use Rattle.std.specs.BTreeMap.{BTreeMap, get}
use Rattle.std.specs.BTreeSet.{BTreeSet, contains}
use Rattle.std.proofs.lemmas.List.Folds.{list_any_more}
use Rattle.ra_base.specs.Keys.{key_cmp}
use Rattle.ra_base.specs.declared.key.Key.{Key}
use Rattle.ra_registry.specs.declared.past.Past.{Past}
use Rattle.ra_registry.specs.declared.row.Row.{Row}
use Rattle.ra_registry.specs.Rows.{same_key}
use Rattle.ra_registry.specs.TableChanges.{has_key, SetsRow, ChangesRow, ChangesRows, SameRows, SetsKey, SameKeys}
use Rattle.ra_registry.proofs.SameKeys.{same_key_is}

-- the row that was set is the one that was there, changed
pub set_is_change : (before after : BTreeMap Key Row) (key : Key) (row : Option Row) (change : Row → Row)
    → SetsRow before after key row → option_map change (get key_cmp before key) ≡ row → ChangesRow before after key change
set_is_change before after key row change set is k =
    let here : (b : Bool) → same_key key k ≡ b
    → cond b row (get key_cmp before k) ≡ cond b (option_map change (get key_cmp before k)) (get key_cmp before k) =
    elim [
      | true ↦ λ e. sym is ∙ ap (λ q. option_map change (get key_cmp before q)) (same_key_is key k e)
      | false ↦ λ e. refl
    ] in
    set k ∙ here (same_key key k) refl

-- where there is no row, there is none to change
pub none_is_change : (before after : BTreeMap Key Row) (key : Key) (change : Row → Row) → after ≡ before → get key_cmp before key ≡ None
    → ChangesRow before after key change
none_is_change before after key change same none =
    let here : (k : Key) (b : Bool) → same_key key k ≡ b → get key_cmp before k ≡ cond b None (get key_cmp before k) =
    λ k. elim [
      | true ↦ λ e. ap (get key_cmp before) (sym (same_key_is key k e)) ∙ none
      | false ↦ λ e. refl
    ] in
    set_is_change before after key None change (λ k. ap (λ m. get key_cmp m k) same ∙ here k (same_key key k) refl) (ap (option_map change) none)

-- a change of one row more, where a change made twice is made once
pub both : (change : Row → Row) → ((row : Row) → change (change row) ≡ change row) → (b c : Bool) (row : Option Row)
    → cond c (option_map change (cond b (option_map change row) row)) (cond b (option_map change row) row) ≡ cond (b || c) (option_map change row) row
both change twice true true None = refl
both change twice true true (Some row) = ap Some (twice row)
both change twice true false row = refl
both change twice false true row = refl
both change twice false false row = refl

-- one entry more
pub one_more_change : (before between after : BTreeMap Key Row) (entries : List Past) (i : ℕ) (entry : Past) (change : Row → Row)
    → ((row : Row) → change (change row) ≡ change row) → i < length entries → entry ≡ get_or entries i entry
    → ChangesRows before between (take i entries) change → ChangesRow between after entry.key change
    → ChangesRows before after (take (i + 1) entries) change
one_more_change before between after entries i entry change twice small is so_far one k =
    let row = get key_cmp before k in
    let b = has_key (take i entries) k in
    let c = same_key entry.key k in
    let more : has_key (take (i + 1) entries) k ≡ (b || c) =
    list_any_more (λ (e : Past). same_key e.key k) entries i entry small ∙ ap (λ (e : Past). b || same_key e.key k) (sym is) in
    one k ∙ ap (λ r. cond c (option_map change r) r) (so_far k) ∙ both change twice b c row ∙ ap (λ t. cond t (option_map change row) row) (sym more)

-- a row that was added and taken out again
pub row_undone : (before between after : BTreeMap Key Row) (key : Key) (row : Option Row) → SetsRow before between key row → SetsRow between after key None
    → get key_cmp before key ≡ None → SameRows before after
row_undone before between after key row added removed none k =
    let here : (b : Bool) → same_key key k ≡ b → cond b None (cond b row (get key_cmp before k)) ≡ get key_cmp before k =
    elim [
      | true ↦ λ e. sym none ∙ ap (get key_cmp before) (same_key_is key k e)
      | false ↦ λ e. refl
    ] in
    removed k ∙ ap (cond (same_key key k) None) (added k) ∙ here (same_key key k) refl

-- a key that was added and taken out again
pub key_undone : (before between after : BTreeSet Key) (key : Key) → SetsKey before between key true → SetsKey between after key false
    → contains key_cmp before key ≡ false → SameKeys before after
key_undone before between after key added removed none k =
    let here : (b : Bool) → same_key key k ≡ b → cond b false (cond b true (contains key_cmp before k)) ≡ contains key_cmp before k =
    elim [
      | true ↦ λ e. sym none ∙ ap (contains key_cmp before) (same_key_is key k e)
      | false ↦ λ e. refl
    ] in
    removed k ∙ ap (cond (same_key key k) false) (added k) ∙ here (same_key key k) refl

pub count_added : (added there : Bool) (n m : ℕ) → added ≡ not there → there ≡ false → m ≡ n + cond added 1 0 → m ≡ n + 1
count_added true there n m is none len = len
count_added false true n m is none len = cc
count_added false false n m is none len = cc

pub count_removed : (removed : Bool) (n m : ℕ) → removed ≡ true → n + cond removed 1 0 ≡ m → n + 1 ≡ m
count_removed true n m is len = len
count_removed false n m is len = cc

-- one key more is taken out
pub key_left : (there before this : Bool) → cond this false (there && not before) ≡ (there && not (before || this))
key_left true true true = refl
key_left true true false = refl
key_left true false true = refl
key_left true false false = refl
key_left false true true = refl
key_left false true false = refl
key_left false false true = refl
key_left false false false = refl
