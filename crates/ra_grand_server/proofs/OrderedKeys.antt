-- Keys in order, each once: two such lists with the same members are one.
use Rattle.std.proofs.Common.{◌≡◌, Bool, true, false, ◌||◌, List, [], ◌∷◌, true≢false, refl, ap, sym, ◌∙◌, subst}
use Rattle.std.specs.Ordering.{is_eq, ordering_reverse, match_ordering}
use Rattle.std.specs.declared.cmp.Ordering.{Ordering}
use Rattle.std.specs.declared.cmp.Ordering.TheVariants.{Less, Equal, Greater}
use Rattle.std.specs.BTreeSet.{insert_key}
use Rattle.std.specs.List.{list_any, AllByRecursion}
use Rattle.std.specs.List.Sorted.{IsStrictlySortedBy}
use Rattle.ra_base.specs.Keys.{key_cmp}
use Rattle.ra_base.specs.declared.key.Key.{Key}
use Rattle.ra_base.proofs.KeyLemmas.{exact_keys, keys_total}
use Rattle.ra_registry.specs.Rows.{same_key}
use Rattle.ra_registry.proofs.SameKeys.{same_key_is}
use Rattle.ra_grand_runs.specs.GrandSweeps.{in_order}

abbrev Sorted : List Key → Type 0
Sorted ks = IsStrictlySortedBy key_cmp ks

abbrev AllAbove : Key → List Key → Type 0
AllAbove z ks = AllByRecursion (λ y. key_cmp z y ≡ Less) ks

abbrev has : List Key → Key → Bool
has ks q = list_any (same_key q) ks

-- ---- a key more

above_less : (z k : Key) (ks : List Key) → key_cmp z k ≡ Less → AllAbove k ks → AllAbove z ks
above_less z k [] less all = tt
above_less z k (x ∷ xs) less all = (keys_total.trans z k x less all.0, above_less z k xs less all.1)

above_by : (z k x : Key) (xs rest : List Key) (o : Ordering) → key_cmp z k ≡ Less → AllAbove z (x ∷ xs) → AllAbove z rest
    → AllAbove z (match_ordering o (k ∷ x ∷ xs) (x ∷ xs) (x ∷ rest))
above_by z k x xs rest Less less all more = (less, all)
above_by z k x xs rest Equal less all more = all
above_by z k x xs rest Greater less all more = (all.0, more)

above_more : (z k : Key) (ks : List Key) → key_cmp z k ≡ Less → AllAbove z ks → AllAbove z (insert_key key_cmp ks k)
above_more z k [] less all = (less, tt)
above_more z k (x ∷ xs) less all = above_by z k x xs (insert_key key_cmp xs k) (key_cmp k x) less all (above_more z k xs less all.1)

turned : (k x : Key) → key_cmp k x ≡ Greater → key_cmp x k ≡ Less
turned k x e = keys_total.antisymm x k ∙ ap ordering_reverse e

sorted_by : (k x : Key) (xs rest : List Key) (o : Ordering) → key_cmp k x ≡ o → Sorted (x ∷ xs) → (key_cmp x k ≡ Less → AllAbove x rest) → Sorted rest
    → Sorted (match_ordering o (k ∷ x ∷ xs) (x ∷ xs) (x ∷ rest))
unfolding IsStrictlySortedBy
sorted_by k x xs rest Less e all above more = ((e, above_less k x xs e all.0), all)
sorted_by k x xs rest Equal e all above more = all
sorted_by k x xs rest Greater e all above more = (above (turned k x e), more)

sorted_more : (k : Key) (ks : List Key) → Sorted ks → Sorted (insert_key key_cmp ks k)
unfolding IsStrictlySortedBy
sorted_more k [] all = (tt, tt)
sorted_more k (x ∷ xs) all =
    sorted_by k x xs (insert_key key_cmp xs k) (key_cmp k x) refl all (λ less. above_more x k xs less all.0) (sorted_more k xs all.1)

has_by : (q k x : Key) (xs rest : List Key) (o : Ordering) → key_cmp k x ≡ o → has rest q ≡ (same_key q k || has xs q)
    → has (match_ordering o (k ∷ x ∷ xs) (x ∷ xs) (x ∷ rest)) q ≡ (same_key q k || (same_key q x || has xs q))
has_by q k x xs rest Less e more = refl
has_by q k x xs rest Equal e more =
    twice (same_key q x) (has xs q) ∙ ap (λ (y : Key). same_key q y || (same_key q x || has xs q)) (sym (exact_keys k x e))
  where
    twice : (a b : Bool) → (a || b) ≡ (a || (a || b))
    twice true b = refl
    twice false b = refl
has_by q k x xs rest Greater e more = ap (λ b. same_key q x || b) more ∙ swapped (same_key q x) (same_key q k) (has xs q)
  where
    swapped : (a b c : Bool) → (a || (b || c)) ≡ (b || (a || c))
    swapped true true c = refl
    swapped true false c = refl
    swapped false true c = refl
    swapped false false c = refl

has_more : (q k : Key) (ks : List Key) → has (insert_key key_cmp ks k) q ≡ (same_key q k || has ks q)
has_more q k [] = refl
has_more q k (x ∷ xs) = has_by q k x xs (insert_key key_cmp xs k) (key_cmp k x) refl (has_more q k xs)

pub sorted_in_order : (ks : List Key) → Sorted (in_order ks)
unfolding IsStrictlySortedBy
sorted_in_order [] = tt
sorted_in_order (k ∷ ks) = sorted_more k (in_order ks) (sorted_in_order ks)

pub has_in_order : (q : Key) (ks : List Key) → has (in_order ks) q ≡ has ks q
has_in_order q [] = refl
has_in_order q (k ∷ ks) = has_more q k (in_order ks) ∙ ap (λ b. same_key q k || b) (has_in_order q ks)

-- ---- the same members

itself : (k : Key) → same_key k k ≡ true
itself k = ap is_eq (by (key_cmp k k) (keys_total.antisymm k k))
  where
    by : (o : Ordering) → o ≡ ordering_reverse o → o ≡ Equal
    by Less e = absurd cc
    by Equal e = refl
    by Greater e = absurd cc

not_itself : (z : Key) (ks : List Key) → AllAbove z ks → has ks z ≡ false
not_itself z [] all = refl
not_itself z (x ∷ xs) all = ap (λ o. is_eq o || has xs z) all.0 ∙ not_itself z xs all.1

not_above : (q z : Key) (ks : List Key) → key_cmp q z ≡ Less → AllAbove z ks → has (z ∷ ks) q ≡ false
not_above q z ks less all = ap (λ o. is_eq o || has ks q) less ∙ not_itself q ks (above_less q z ks less all)

rest_by : (x q : Key) (xs ys : List Key) (b : Bool) → same_key q x ≡ b → AllAbove x xs → AllAbove x ys → (b || has xs q) ≡ (b || has ys q) → has xs q ≡ has ys q
rest_by x q xs ys true e one other same =
    let is = same_key_is q x e in
    ap (λ (k : Key). has xs k) is ∙ not_itself x xs one ∙ sym (not_itself x ys other) ∙ ap (λ (k : Key). has ys k) (sym is)
rest_by x q xs ys false e one other same = same

heads_by : (x y : Key) (xs ys : List Key) (o : Ordering) → key_cmp x y ≡ o → AllAbove x xs → AllAbove y ys → ((q : Key) → has (x ∷ xs) q ≡ has (y ∷ ys) q) → x ≡ y
heads_by x y xs ys Less e one other same =
    absurd (true≢false (sym (ap (λ b. b || has xs x) (itself x)) ∙ same x ∙ not_above x y ys e other))
heads_by x y xs ys Equal e one other same = exact_keys x y e
heads_by x y xs ys Greater e one other same =
    absurd (true≢false (sym (ap (λ b. b || has ys y) (itself y)) ∙ sym (same y) ∙ not_above y x xs (turned x y e) one))

pub same_lists : (xs ys : List Key) → Sorted xs → Sorted ys → ((q : Key) → has xs q ≡ has ys q) → xs ≡ ys
unfolding IsStrictlySortedBy
same_lists [] [] one other same = refl
same_lists [] (y ∷ ys) one other same = absurd (true≢false (sym (ap (λ b. b || has ys y) (itself y)) ∙ sym (same y)))
same_lists (x ∷ xs) [] one other same = absurd (true≢false (sym (ap (λ b. b || has xs x) (itself x)) ∙ same x))
same_lists (x ∷ xs) (y ∷ ys) one other same =
    let is = heads_by x y xs ys (key_cmp x y) refl one.0 other.0 same in
    let above : AllAbove x ys = subst (λ (k : Key). AllAbove k ys) (sym is) other.0 in
    let rest = same_lists xs ys one.1 other.1
    (λ q. rest_by x q xs ys (same_key q x) refl one.0 above (same q ∙ ap (λ (k : Key). same_key q k || has ys q) (sym is))) in
    ap (λ (k : Key). k ∷ xs) is ∙ ap (λ ks. y ∷ ks) rest
