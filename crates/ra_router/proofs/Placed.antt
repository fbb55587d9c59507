-- Steps with their places, and how the lists of them grow.
use Rattle.std.proofs.Common.{◌≡◌, ◌⊎◌, ℕ, ◌+◌, ◌-◌, ◌<◌, ◌≤◌, Bool, true, false, cond, zero, suc, List, [], ◌∷◌, ◌++◌, length, take, refl, sym, ap, subst, ◌∙◌, inl, inr, arith}
use Rattle.std.specs.Prelude.{filter, slice_get, Option, Some}
use Rattle.std.proofs.lemmas.List.Elements.{filter-append}
use Rattle.ra_router.specs.declared.ask.Step.{Step}
use Rattle.ra_router.specs.Hops.{Placed, placed, placed_from, hops, hop_limit, is_to}

-- ---- lists

pub get_inside : {A : Type 0} (xs : List A) (n : ℕ) (x : A) → slice_get xs n ≡ Some x → n < length xs
get_inside [] n x e = absurd cc
get_inside (y ∷ ys) zero x e = omega arith
get_inside (y ∷ ys) (suc n) x e = let h = get_inside ys n x e in omega arith

pub same_some : {A : Type 0} (x y : A) → ◌≡◌ {A = Option A} (Some x) (Some y) → x ≡ y
same_some x y e = cc

pub get_left : {A : Type 0} (xs ys : List A) (n : ℕ) (x : A) → slice_get xs n ≡ Some x → slice_get (xs ++ ys) n ≡ Some x
get_left [] ys n x e = absurd cc
get_left (z ∷ zs) ys zero x e = e
get_left (z ∷ zs) ys (suc n) x e = get_left zs ys n x e

pub get_middle : {A : Type 0} (xs ys : List A) (x : A) → slice_get (xs ++ x ∷ ys) (length xs) ≡ Some x
get_middle [] ys x = refl
get_middle (z ∷ zs) ys x = get_middle zs ys x

pub record InRight {A : Type 0} (xs ys : List A) (n : ℕ) (x : A) : Type 0 where
  pub at : ℕ
  pub there : slice_get ys at ≡ Some x
  pub sum : length xs + at ≡ n

pub get_cases : {A : Type 0} (xs ys : List A) (n : ℕ) (x : A) → slice_get (xs ++ ys) n ≡ Some x → (slice_get xs n ≡ Some x) ⊎ InRight xs ys n x
get_cases [] ys n x e = inr (record { at = n; there = e; sum = omega arith })
get_cases (z ∷ zs) ys zero x e = inl e
get_cases (z ∷ zs) ys (suc n) x e = elim (get_cases zs ys n x e) [
  | inl h ↦ inl h
  | inr r ↦ inr (record { at = r.at; there = r.there; sum = let q = r.sum in omega arith })
]

pub get_take : {A : Type 0} (m : ℕ) (xs : List A) (n : ℕ) (x : A) → slice_get (take m xs) n ≡ Some x → slice_get xs n ≡ Some x
get_take zero xs n x e = absurd cc
get_take (suc m) [] n x e = absurd cc
get_take (suc m) (y ∷ ys) zero x e = e
get_take (suc m) (y ∷ ys) (suc n) x e = get_take m ys n x e

pub take_append : {A : Type 0} (n : ℕ) (xs ys : List A) → take n (xs ++ ys) ≡ take n xs ++ take (n - length xs) ys
take_append zero xs ys = let z : 0 ≡ 0 - length xs = omega arith in ap (λ n. take n ys) z
take_append (suc n) [] ys = let z : suc n ≡ suc n - 0 = omega arith in ap (λ k. take k ys) z
take_append (suc n) (x ∷ xs) ys =
    let z : n - length xs ≡ suc n - suc (length xs) = omega arith in
    ap (λ l. x ∷ l) (take_append n xs ys ∙ ap (λ k. take n xs ++ take k ys) z)

pub record FromFilter {A : Type 0} (p : A → Bool) (xs : List A) (x : A) : Type 0 where
  pub at : ℕ
  pub there : slice_get xs at ≡ Some x
  pub passes : p x ≡ true

get_filter_on : {A : Type 0} (p : A → Bool) (y : A) (ys : List A) (n : ℕ) (x : A) (b : Bool) → p y ≡ b
    → ((k : ℕ) → slice_get (filter p ys) k ≡ Some x → FromFilter p ys x) → slice_get (cond b (y ∷ filter p ys) (filter p ys)) n ≡ Some x → FromFilter p (y ∷ ys) x
get_filter_on p y ys zero x true is more e = record { at = 0; there = e; passes = subst (λ z. p z ≡ true) (same_some y x e) is }
get_filter_on p y ys (suc n) x true is more e = let f = more n e in record { at = suc f.at; there = f.there; passes = f.passes }
get_filter_on p y ys n x false is more e = let f = more n e in record { at = suc f.at; there = f.there; passes = f.passes }

pub get_filter : {A : Type 0} (p : A → Bool) (xs : List A) (n : ℕ) (x : A) → slice_get (filter p xs) n ≡ Some x → FromFilter p xs x
get_filter p [] n x e = absurd cc
get_filter p (y ∷ ys) n x e = get_filter_on p y ys n x (p y) refl (λ k h. get_filter p ys k x h) e

-- ---- placed steps

pub placed_append : (at : ℕ) (xs ys : List Step) → placed_from at (xs ++ ys) ≡ placed_from at xs ++ placed_from (at + length xs) ys
placed_append at [] ys = ap (λ n. placed_from n ys) (omega arith)
placed_append at (x ∷ xs) ys = ap (λ l. record { place = at; step = x } ∷ l) (placed_append (suc at) xs ys ∙ ap (λ n. placed_from (suc at) xs ++ placed_from n ys) (omega arith))

pub placed_at : (at : ℕ) (xs : List Step) (n : ℕ) (s : Placed) → slice_get (placed_from at xs) n ≡ Some s → (s.place ≡ at + n) × (slice_get xs n ≡ Some s.step)
placed_at at [] n s e = absurd cc
placed_at at (x ∷ xs) zero s e =
    let q = same_some (record { place = at; step = x }) s e in
    (ap (λ (t : Placed). t.place) (sym q) ∙ omega arith, ap (λ (t : Placed). Some t.step) q)
placed_at at (x ∷ xs) (suc n) s e = let r = placed_at (suc at) xs n s e in let p = r.0 in (omega arith, r.1)

-- ---- growth

-- a list goes on as another, whose further steps stand at this place or later
pub record Grows (at : ℕ) (l m : List Placed) : Type 0 where
  pub more : List Placed
  pub is : m ≡ l ++ more
  pub late : (n : ℕ) (s : Placed) → slice_get more n ≡ Some s → at ≤ s.place

pub grows_placed : (xs ys : List Step) → Grows (length xs) (placed xs) (placed (xs ++ ys))
grows_placed xs ys = record {
  more = placed_from (0 + length xs) ys;
  is = placed_append 0 xs ys;
  late = λ n s e. let r = placed_at (0 + length xs) ys n s e in let p = r.0 in omega arith;
}

pub grows_filter : (p : Placed → Bool) (at : ℕ) (l m : List Placed) → Grows at l m → Grows at (filter p l) (filter p m)
grows_filter p at l m g = record {
  more = filter p g.more;
  is = ap (filter p) g.is ∙ filter-append p l g.more;
  late = λ n s e. let f = get_filter p g.more n s e in g.late f.at s f.there;
}

pub grows_take : (k at : ℕ) (l m : List Placed) → Grows at l m → Grows at (take k l) (take k m)
grows_take k at l m g = record {
  more = take (k - length l) g.more;
  is = ap (take k) g.is ∙ take_append k l g.more;
  late = λ n s e. g.late n s (get_take (k - length l) g.more n s e);
}

pub stays : (at : ℕ) (l m : List Placed) → Grows at l m → (n : ℕ) (s : Placed) → slice_get l n ≡ Some s → slice_get m n ≡ Some s
stays at l m g n s e = ap (λ k. slice_get k n) g.is ∙ get_left l g.more n s e

pub back : (at : ℕ) (l m : List Placed) → Grows at l m → (n : ℕ) (s : Placed) → slice_get m n ≡ Some s → s.place < at → slice_get l n ≡ Some s
back at l m g n s e early = elim (get_cases l g.more n s (ap (λ k. slice_get k n) (sym g.is) ∙ e)) [
  | inl h ↦ h
  | inr r ↦ let late = g.late r.at s r.there in absurd (omega arith)
]

pub grows_hops : (xs ys : List Step) → Grows (length xs) (hops xs) (hops (xs ++ ys))
grows_hops xs ys = grows_take hop_limit (length xs) _ _ (grows_filter (λ s. is_to s.step.ask) (length xs) _ _ (grows_placed xs ys))
