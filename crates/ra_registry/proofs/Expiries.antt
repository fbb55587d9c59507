-- What a registry holds stays consistent with its history when rows expire.
use Rattle.std.proofs.Common.{◌≡◌, ℕ, ◌+◌, ◌-◌, ◌<◌, ◌≤◌, Bool, true, false, not, cond, ◌&&◌, ◌||◌, List, [], ◌∷◌, ◌++◌, length, map, filter, take, drop, get_or, fold, Option, None, Some, option_map, arith, length-append, append_assoc, append-nil, refl, sym, ap, subst, ◌∙◌, add-zero}
use Rattle.std.proofs.Math.Bool.{and-true, and-false}
use Rattle.std.specs.BTreeMap.{BTreeMap, get}
use Rattle.std.specs.BTreeSet.{BTreeSet, contains, btree_set_len, IsOrdered}
use Rattle.std.specs.List.{list_any, AllByRecursion, IsDistinct}
use Rattle.std.specs.List.Sorted.{IsStrictlySortedBy}
use Rattle.std.specs.Ordering.{is_eq}
use Rattle.std.proofs.Math.ListN.{get_or-map}
use Rattle.std.proofs.lemmas.List.{length-map, get_or_default, drop-append-le, take_rest}
use Rattle.std.proofs.Math.Seq.{drop-append_seam}
use Rattle.std.proofs.lemmas.List.Folds.{list_any-append}
use Rattle.std.proofs.lemmas.List.Sums.{fold-append}
use Rattle.std.proofs.lemmas.List.Kept.{IsStrictlySortedBy-filter}
use Rattle.std.proofs.lemmas.Map.Keys.{IsDistinct-from_sorted, IsDistinct-head, IsDistinct-tail, Less-from_sorted}
use Rattle.std.proofs.lemmas.Map.Made.{is_member-filter, All-is_member}
use Rattle.ra_base.specs.Keys.{key_cmp}
use Rattle.ra_base.specs.declared.key.Key.{Key}
use Rattle.ra_registry.specs.declared.past.Past.{Past}
use Rattle.ra_registry.specs.declared.row.Row.{Row}
use Rattle.ra_registry.specs.RegistryStates.{RegistryState, with_entry, with_entries}
use Rattle.ra_registry.specs.RowChanges.{expire, is_open, is_unshortened}
use Rattle.ra_registry.specs.Rows.{same_key, change, start_row, row_of}
use Rattle.ra_registry.specs.Seats.{admissions, endings, admits, ends}
use Rattle.ra_registry.specs.Legal.{IsLegal, is_over, is_over_row}
use Rattle.ra_registry.specs.Expiry.{expiry_of}
use Rattle.ra_registry.specs.TableChanges.{has_key, ChangesRows}
use Rattle.ra_registry.specs.Consistent.{IsConsistent}
use Rattle.ra_registry.proofs.SameKeys.{same_key_is, same_keys_laws}
use Rattle.ra_registry.proofs.RowLemmas.{each_row, expire_twice, is_open-expire, is_unshortened-expire}
use Rattle.ra_registry.proofs.TableLemmas.{both}
use Rattle.ra_registry.proofs.HistoryRows.{row_of-push, change_is}
use Rattle.ra_registry.proofs.LegalHistories.{legal_push}

-- the row of a session after rows have expired
expired_fold : (at : ℕ) (k : Key) (keys : List Key) (row : Option Row)
    → fold (change k) row (map (expiry_of at) keys) ≡ cond (has_key (map (expiry_of at) keys) k) (option_map expire row) row
expired_fold at k [] row = refl
expired_fold at k (q ∷ qs) row =
    let b = has_key (map (expiry_of at) qs) k in
    let c = same_key q k in
    expired_fold at k qs (change k row (expiry_of at q)) ∙ ap (λ x. cond b (option_map expire x) x) (change_is k row (expiry_of at q))
    ∙ both expire expire_twice c b row

pub row_of-expiries : (r : RegistryState) (at : ℕ) (keys : List Key) (k : Key)
    → row_of (with_entries r (map (expiry_of at) keys)) k ≡ cond (has_key (map (expiry_of at) keys) k) (option_map expire (row_of r k)) (row_of r k)
unfolding row_of
row_of-expiries r at keys k =
    fold-append (change k) (start_row r.start k) r.history (map (expiry_of at) keys) ∙ expired_fold at k keys (fold (change k) (start_row r.start k) r.history)

-- an expiry leaves the rows of other keys
other_row : (r : RegistryState) (at : ℕ) (q k : Key) → same_key q k ≡ false → row_of (with_entry r (expiry_of at q)) k ≡ row_of r k
other_row r at q k differ =
    row_of-push r (expiry_of at q) k ∙ change_is k (row_of r k) (expiry_of at q) ∙ ap (λ b. cond b (option_map expire (row_of r k)) (row_of r k)) differ

abbrev AreOver : RegistryState → ℕ → List Key → Type 0
AreOver r at keys = AllByRecursion (λ k. is_over r (row_of r k) at ≡ true) keys

still_over : (r : RegistryState) (at : ℕ) (q : Key) (keys : List Key) → AllByRecursion (λ k. same_key q k ≡ false) keys → AreOver r at keys
    → AreOver (with_entry r (expiry_of at q)) at keys
still_over r at q [] differ over = tt
still_over r at q (k ∷ ks) differ over =
    (ap (λ row. is_over r row at) (other_row r at q k differ.0) ∙ over.0, still_over r at q ks differ.1 over.1)

-- a legal history stays legal when rows expire
expiries_legal : (r : RegistryState) (at : ℕ) (keys : List Key) → IsLegal r → IsDistinct same_key keys → AreOver r at keys
    → IsLegal (with_entries r (map (expiry_of at) keys))
expiries_legal r at [] legal distinct over = subst (λ (h : List Past). IsLegal (record r { history = h })) (sym (append-nil r.history)) legal
expiries_legal r at (q ∷ qs) legal distinct over =
    let next : RegistryState = with_entry r (expiry_of at q) in
    let rest_legal = expiries_legal next at qs (legal_push r (expiry_of at q) legal over.0) (IsDistinct-tail same_key q qs distinct)
    (still_over r at q qs (IsDistinct-head same_key q qs distinct) over.1) in
    subst (λ (h : List Past). IsLegal (record r { history = h })) (append_assoc r.history (expiry_of at q ∷ []) (map (expiry_of at) qs)) rest_legal

-- expiries neither give nor end a seat
no_admission : (at : ℕ) (keys : List Key) (n : ℕ) → fold (λ (a : ℕ) (e : Past). a + cond (admits e.did) 1 0) n (map (expiry_of at) keys) ≡ n
no_admission at [] n = refl
no_admission at (q ∷ qs) n = no_admission at qs (n + 0) ∙ add-zero n

no_ending : (at : ℕ) (keys : List Key) (n : ℕ) → fold (λ (a : ℕ) (e : Past). a + cond (ends e.did) 1 0) n (map (expiry_of at) keys) ≡ n
no_ending at [] n = refl
no_ending at (q ∷ qs) n = no_ending at qs (n + 0) ∙ add-zero n

same_admissions : (h : List Past) (at : ℕ) (keys : List Key) → admissions (h ++ map (expiry_of at) keys) ≡ admissions h
same_admissions h at keys = fold-append (λ (a : ℕ) (e : Past). a + cond (admits e.did) 1 0) 0 h (map (expiry_of at) keys) ∙ no_admission at keys (admissions h)

same_endings : (h : List Past) (at : ℕ) (keys : List Key) → endings (h ++ map (expiry_of at) keys) ≡ endings h
same_endings h at keys = fold-append (λ (a : ℕ) (e : Past). a + cond (ends e.did) 1 0) 0 h (map (expiry_of at) keys) ∙ no_ending at keys (endings h)

over_open : (long short at : ℕ) (row : Row) → (is_open (Some row) && is_over_row long short (Some row) at) ≡ is_over_row long short (Some row) at
over_open long short at = each_row (λ row. (is_open (Some row) && is_over_row long short (Some row) at) ≡ is_over_row long short (Some row) at)
    (λ e c. refl) (λ e c l. refl) (λ e c l s. refl) (λ e c k. refl)

-- a row whose grace is over is open
over_row_open : (long short at : ℕ) (row : Option Row) → (is_open row && is_over_row long short row at) ≡ is_over_row long short row at
over_row_open long short at None = refl
over_row_open long short at (Some row) = over_open long short at row

all_pass : (p q : Key → Bool) → ((k : Key) → q k ≡ p k) → (xs : List Key) → AllByRecursion (λ k. q k ≡ true) (filter p xs)
all_pass p q same [] = tt
all_pass p q same (x ∷ xs) =
    let here : (b : Bool) → p x ≡ b → AllByRecursion (λ k. q k ≡ true) (cond b (x ∷ filter p xs) (filter p xs)) =
    elim [ true ↦ λ e. (same x ∙ e, all_pass p q same xs) | false ↦ λ e. all_pass p q same xs ] in
    here (p x) refl

left_of : (a b : Bool) → (a && b) ≡ true → a ≡ true
left_of true b h = refl
left_of false b h = cc

module _ (r : RegistryState) (rows : BTreeMap Key Row) (open_keys : BTreeSet Key) (place seats room : ℕ) (is : IsConsistent r rows open_keys place seats room) (at : ℕ) (ordered : IsOrdered key_cmp open_keys) where
  -- the keys whose rows expire
  abbrev pub over_keys : List Key
  over_keys = filter (λ k. is_over_row r.long_grace r.short_grace (get key_cmp rows k) at) open_keys.keys

  abbrev pub expiries : List Past
  expiries = map (expiry_of at) over_keys

  pub over_sorted : IsStrictlySortedBy key_cmp over_keys
  over_sorted = IsStrictlySortedBy-filter key_cmp (λ k. is_over_row r.long_grace r.short_grace (get key_cmp rows k) at) open_keys.keys ordered

  member : (key : Key) → list_any (same_key key) over_keys
      ≡ (contains key_cmp open_keys key && is_over_row r.long_grace r.short_grace (get key_cmp rows key) at)
  member key =
      is_member-filter same_keys_laws (λ k. is_over_row r.long_grace r.short_grace (get key_cmp rows k) at) key
      (λ x e. ap (λ (k : Key). is_over_row r.long_grace r.short_grace (get key_cmp rows k) at) (same_key_is key x e)) open_keys.keys

  -- they are those whose grace is over
  pub each_over : (key : Key) → list_any (same_key key) over_keys ≡ is_over r (row_of r key) at
  each_over key =
      member key ∙ ap (λ b. b && is_over_row r.long_grace r.short_grace (get key_cmp rows key) at) (is.open_are key)
      ∙ ap (λ row. is_open (row_of r key) && is_over_row r.long_grace r.short_grace row at) (is.rows_are key)
      ∙ over_row_open r.long_grace r.short_grace at (row_of r key)

  expiry_at : (i : ℕ) (d : Past) → i < length expiries → get_or expiries i d ≡ expiry_of at (get_or over_keys i d.key)
  expiry_at i d small = get_or_default expiries i d (expiry_of at d.key) small ∙ get_or-map (expiry_of at) over_keys i d.key

  pub over_there : (i : ℕ) (d : Past) → i < length expiries → contains key_cmp open_keys (get_or expiries i d).key ≡ true
  over_there i d small =
      let key = get_or over_keys i d.key in
      let within : i < length over_keys = omega (arith, length-map over_keys (expiry_of at), small) in
      let in_list : list_any (same_key key) over_keys ≡ true = All-is_member same_keys_laws over_keys i d.key within in
      ap (λ (e : Past). contains key_cmp open_keys e.key) (expiry_at i d small)
      ∙ left_of (contains key_cmp open_keys key) (is_over_row r.long_grace r.short_grace (get key_cmp rows key) at) (sym (member key) ∙ in_list)

  pub over_apart : (i j : ℕ) (d : Past) → i < j → j < length expiries → same_key (get_or expiries i d).key (get_or expiries j d).key ≡ false
  over_apart i j d before small =
      let within : j < length over_keys = omega (arith, length-map over_keys (expiry_of at), small) in
      let less = Less-from_sorted key_cmp over_keys i j d.key over_sorted before within in
      ap (λ (e : Past). same_key e.key (get_or expiries j d).key) (expiry_at i d (omega arith))
      ∙ ap (λ (e : Past). same_key (get_or over_keys i d.key) e.key) (expiry_at j d small)
      ∙ ap is_eq less

  pub expired_consistent : (after : BTreeMap Key Row) (left_open : BTreeSet Key) (larger : ℕ) → ChangesRows rows after expiries expire
      → ((k : Key) → contains key_cmp left_open k ≡ (contains key_cmp open_keys k && not (has_key expiries k)))
      → btree_set_len left_open + length expiries ≡ btree_set_len open_keys → room ≤ larger
      → IsConsistent (with_entries r expiries) after left_open place seats larger
  expired_consistent after left_open larger changes keys count enough =
      let row_is : (k : Key) → row_of (with_entries r expiries) k ≡ cond (has_key expiries k) (option_map expire (row_of r k)) (row_of r k) =
      λ k. row_of-expiries r at over_keys k in
      let opens : (k : Key) (b : Bool) → (is_open (row_of r k) && not b) ≡ is_open (cond b (option_map expire (row_of r k)) (row_of r k)) =
      λ k. elim [
        | true ↦ and-false (is_open (row_of r k)) ∙ sym (is_open-expire (row_of r k))
        | false ↦ and-true (is_open (row_of r k))
      ] in
      let earlier : (k : Key) (b : Bool) → is_unshortened (cond b (option_map expire (row_of r k)) (row_of r k)) ≡ true → has_key (drop place r.history) k ≡ true =
      λ k. elim [
        | true ↦ λ e. let never = is_unshortened-expire (row_of r k) in cc
        | false ↦ λ e. is.unshortened k e
      ] in
      let behind : (k : Key) → has_key (drop place (r.history ++ expiries)) k ≡ (has_key (drop place r.history) k || has_key expiries k) =
      λ k. ap (λ es. has_key es k) (drop-append-le place r.history expiries is.within) ∙ list_any-append (λ (e : Past). same_key e.key k) (drop place r.history) expiries in
      let len = length-append r.history expiries in
      let all_over : AreOver r at over_keys =
      all_pass (λ k. is_over_row r.long_grace r.short_grace (get key_cmp rows k) at) (λ k. is_over r (row_of r k) at)
      (λ k. ap (λ row. is_over r row at) (sym (is.rows_are k))) open_keys.keys in
      record {
        legal = expiries_legal r at over_keys is.legal (IsDistinct-from_sorted key_cmp over_keys over_sorted) all_over;
        rows_are = λ k. changes k ∙ ap (λ x. cond (has_key expiries k) (option_map expire x) x) (is.rows_are k) ∙ sym (row_is k);
        open_are = λ k. keys k ∙ ap (λ b. b && not (has_key expiries k)) (is.open_are k) ∙ opens k (has_key expiries k) ∙ ap is_open (sym (row_is k));
        within = omega (arith, len, is.within);
        unshortened = λ k e. behind k ∙ ap (λ b. b || has_key expiries k) (earlier k (has_key expiries k) (ap is_unshortened (sym (row_is k)) ∙ e));
        seats_are = rw (same_admissions r.history at over_keys, same_endings r.history at over_keys) is.seats_are;
        has_room = omega (arith, len, is.has_room, count, enough);
      }

-- the entries that were added
pub entries_behind : (h entries : List Past) (n : ℕ) → n ≡ length h → take (length (h ++ entries) - n) (drop n (h ++ entries)) ≡ entries
entries_behind h entries n is =
    take_rest (h ++ entries) n ∙ ap (λ k. drop k (h ++ entries)) is ∙ drop-append_seam h entries
