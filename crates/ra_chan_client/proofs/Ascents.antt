-- Ids in order: one more at the end, and one out of them.
use Rattle.std.proofs.Common.{◌≡◌, ℕ, ◌+◌, ◌<◌, List, [], ◌∷◌, ◌++◌, Bool, true, false, not, refl, sym, ap, subst, arith, inl, inr}
use Rattle.std.proofs.lemmas.Bool.{cases_Bool, cases_order, cond_both, eqb-true, eq-eqb, ne_eqb}
use Rattle.std.specs.Prelude.{◌==◌}
use Rattle.std.specs.List.{AllByRecursion, filter, list_any}
use Rattle.std.specs.Ordering.{nat_cmp}
use Rattle.std.specs.Cmp.{nat_cmp_is}
use Rattle.std.specs.declared.cmp.Ordering.TheVariants.{Less, Equal, Greater}
use Rattle.std.specs.BTreeMap.{is_at, insert_entry}
use Rattle.std.specs.BTreeSet.{insert_key}
use Rattle.std.specs.Map.{keys_of, remove_entry}
use Rattle.std.specs.Set.{remove_key}
use Rattle.ra_ipc.specs.ChannelClients.{is_in, without}
use Rattle.ra_chan_client.specs.Held.{Ascending, AreIds}

-- ---- all of a list

pub all_push : {X : Type 0} (P : X → Type 0) (xs : List X) (x : X) → AllByRecursion P xs → P x → AllByRecursion P (xs ++ x ∷ [])
all_push P [] x h p = (p, tt)
all_push P (y ∷ ys) x h p = (h.0, all_push P ys x h.1 p)

pub all_filter : {X : Type 0} (P : X → Type 0) (p : X → Bool) (xs : List X) → AllByRecursion P xs → AllByRecursion P (filter p xs)
all_filter P p [] h = tt
all_filter P p (x ∷ xs) h = cond_both (p x) (x ∷ filter p xs) (filter p xs) (AllByRecursion P) (λ _. (h.0, all_filter P p xs h.1)) (λ _. all_filter P p xs h.1)

pub all_more : {X : Type 0} (P Q : X → Type 0) (xs : List X) → ((x : X) → P x → Q x) → AllByRecursion P xs → AllByRecursion Q xs
all_more P Q [] f h = tt
all_more P Q (x ∷ xs) f h = (f x h.0, all_more P Q xs f h.1)

-- ---- ids

ascending_push : (ks : List ℕ) (n : ℕ) → Ascending ks → AllByRecursion (λ id. id < n) ks → Ascending (ks ++ n ∷ [])
ascending_push [] n a b = (tt, tt)
ascending_push (k ∷ ks) n a b = (all_push (λ y. k < y) ks n a.0 b.0, ascending_push ks n a.1 b.1)

ascending_filter : (p : ℕ → Bool) (ks : List ℕ) → Ascending ks → Ascending (filter p ks)
ascending_filter p [] a = tt
ascending_filter p (k ∷ ks) a = cond_both (p k) (k ∷ filter p ks) (filter p ks) Ascending (λ _. (all_filter (λ y. k < y) p ks a.0, ascending_filter p ks a.1)) (λ _. ascending_filter p ks a.1)

pub ids_push : (n : ℕ) (ks : List ℕ) → AreIds n ks → AreIds (n + 1) (ks ++ n ∷ [])
ids_push n ks h = record {
  ascending = ascending_push ks n h.ascending h.below;
  below = all_push (λ y. y < n + 1) ks n (all_more (λ y. y < n) (λ y. y < n + 1) ks (λ y lt. omega arith) h.below) (omega arith);
}

pub ids_more : (n : ℕ) (ks : List ℕ) → AreIds n ks → AreIds (n + 1) ks
ids_more n ks h = record { ascending = h.ascending; below = all_more (λ y. y < n) (λ y. y < n + 1) ks (λ y lt. omega arith) h.below }

pub ids_filter : (n : ℕ) (p : ℕ → Bool) (ks : List ℕ) → AreIds n ks → AreIds n (filter p ks)
ids_filter n p ks h = record { ascending = ascending_filter p ks h.ascending; below = all_filter (λ y. y < n) p ks h.below }

-- ---- the words of the collections

at_is : (i x : ℕ) → is_at (nat_cmp i) x ≡ (x == i)
at_is i x = elim (cases_order i x) [
  | inl e ↦ let c : nat_cmp i x ≡ Equal = sym (nat_cmp_is i x Equal e) in rw (c, eq-eqb x i (sym e)) refl
  | inr ne ↦ elim ne [
    | inl lt ↦ let c : nat_cmp i x ≡ Less = sym (nat_cmp_is i x Less lt) in rw (c, ne_eqb x i (omega arith)) refl
    | inr gt ↦ let c : nat_cmp i x ≡ Greater = sym (nat_cmp_is i x Greater gt) in rw (c, ne_eqb x i (omega arith)) refl
  ]
]

above : (n k : ℕ) → k < n → nat_cmp n k ≡ Greater
above n k lt = sym (nat_cmp_is n k Greater lt)

pub key_push : (ks : List ℕ) (n : ℕ) → AllByRecursion (λ id. id < n) ks → insert_key nat_cmp ks n ≡ ks ++ n ∷ []
key_push [] n h = refl
key_push (k ∷ ks) n h = rw (above n k h.0) (ap (λ (w : List ℕ). k ∷ w) (key_push ks n h.1))

pub entry_push : {X : Type 0} (es : List (ℕ × X)) (n : ℕ) (x : X) → AllByRecursion (λ id. id < n) (keys_of es) → insert_entry nat_cmp es n x ≡ es ++ (n, x) ∷ []
entry_push [] n x h = refl
entry_push (e ∷ es) n x h = rw (above n e.0 h.0) (ap (λ (w : List (ℕ × _)). e ∷ w) (entry_push es n x h.1))

pub found_is : (i : ℕ) (ks : List ℕ) → list_any (is_at (nat_cmp i)) ks ≡ is_in i ks
found_is i [] = refl
found_is i (k ∷ ks) = rw (at_is i k, found_is i ks) refl

all_stay : (k i : ℕ) (ks : List ℕ) → k ≡ i → AllByRecursion (λ y. k < y) ks → without i ks ≡ ks
all_stay k i [] e h = refl
all_stay k i (x ∷ xs) e h = let ne : (x == i) ≡ false = ne_eqb x i (omega (arith, h.0)) in rw (ne, all_stay k i xs e h.1) refl

pub key_goes : (i : ℕ) (ks : List ℕ) → Ascending ks → remove_key (is_at (nat_cmp i)) ks ≡ without i ks
key_goes i [] a = refl
key_goes i (k ∷ ks) a = elim (cases_Bool (k == i)) [
  | inl t ↦ rw (at_is i k, t) (sym (all_stay k i ks (eqb-true k i t) a.0))
  | inr f ↦ rw (at_is i k, f) (ap (λ (w : List ℕ). k ∷ w) (key_goes i ks a.1))
]

entries_stay : {X : Type 0} (k i : ℕ) (es : List (ℕ × X)) → k ≡ i → AllByRecursion (λ y. k < y) (keys_of es) → filter (λ e. not (e.0 == i)) es ≡ es
entries_stay k i [] e h = refl
entries_stay k i (x ∷ xs) e h = let ne : (x.0 == i) ≡ false = ne_eqb x.0 i (omega (arith, h.0)) in rw (ne, entries_stay k i xs e h.1) refl

pub entry_goes : {X : Type 0} (i : ℕ) (es : List (ℕ × X)) → Ascending (keys_of es) → remove_entry (is_at (nat_cmp i)) es ≡ filter (λ e. not (e.0 == i)) es
entry_goes i [] a = refl
entry_goes i (e ∷ es) a = elim (cases_Bool (e.0 == i)) [
  | inl t ↦ rw (at_is i e.0, t) (sym (entries_stay e.0 i es (eqb-true e.0 i t) a.0))
  | inr f ↦ rw (at_is i e.0, f) (ap (λ (w : List (ℕ × _)). e ∷ w) (entry_goes i es a.1))
]

pub keys_push : {X : Type 0} (es : List (ℕ × X)) (n : ℕ) (x : X) → keys_of (es ++ (n, x) ∷ []) ≡ keys_of es ++ n ∷ []
keys_push [] n x = refl
keys_push (e ∷ es) n x = ap (λ (w : List ℕ). e.0 ∷ w) (keys_push es n x)

pub keys_without : {X : Type 0} (i : ℕ) (es : List (ℕ × X)) → keys_of (filter (λ e. not (e.0 == i)) es) ≡ without i (keys_of es)
keys_without i [] = refl
keys_without i (e ∷ es) = elim (cases_Bool (e.0 == i)) [
  | inl t ↦ rw t (keys_without i es)
  | inr f ↦ rw f (ap (λ (w : List ℕ). e.0 ∷ w) (keys_without i es))
]

-- an id that was added last and is taken out again
pub last_goes : (n : ℕ) (ks : List ℕ) → AllByRecursion (λ id. id < n) ks → without n (ks ++ n ∷ []) ≡ ks
last_goes n [] h = rw (eq-eqb n n refl) refl
last_goes n (k ∷ ks) h = let ne : (k == n) ≡ false = ne_eqb k n (omega (arith, h.0)) in rw ne (ap (λ (w : List ℕ). k ∷ w) (last_goes n ks h.1))

-- the ids before another
all_front : {X : Type 0} (P : ℕ → Type 0) (xs : List (ℕ × X)) (e : ℕ × X) (ys : List (ℕ × X)) → AllByRecursion P (keys_of (xs ++ e ∷ ys)) → AllByRecursion P (keys_of xs) × P e.0
all_front P [] e ys h = (tt, h.0)
all_front P (x ∷ xs) e ys h = let rest = all_front P xs e ys h.1 in ((h.0, rest.0), rest.1)

ids_front : {X : Type 0} (xs : List (ℕ × X)) (e : ℕ × X) (ys : List (ℕ × X)) → Ascending (keys_of (xs ++ e ∷ ys)) → AreIds e.0 (keys_of xs)
ids_front [] e ys h = record { ascending = tt; below = tt }
ids_front (x ∷ xs) e ys h =
    let first = all_front (λ other. x.0 < other) xs e ys h.0 in
    let rest = ids_front xs e ys h.1 in
    record { ascending = (first.0, rest.ascending); below = (first.1, rest.below) }

pub ids_before : {X : Type 0} (xs : List (ℕ × X)) (e : ℕ × X) (ys all : List (ℕ × X)) → xs ++ e ∷ ys ≡ all → Ascending (keys_of all) → AreIds e.0 (keys_of xs)
ids_before xs e ys all same h = ids_front xs e ys (subst (λ w. Ascending (keys_of w)) (sym same) h)

-- an id that is among them is below what all are below
pub in_below : (n i : ℕ) (ks : List ℕ) → AllByRecursion (λ id. id < n) ks → is_in i ks ≡ true → i < n
in_below n i [] h is = cc
in_below n i (k ∷ ks) h is = elim (cases_Bool (k == i)) [
  | inl t ↦ let same : k ≡ i = eqb-true k i t in omega (arith, h.0)
  | inr f ↦ in_below n i ks h.1 (rw f at is)
]
