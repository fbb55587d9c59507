-- Lists of placed steps rise, and an element is found by how many stand before it.
use Rattle.std.proofs.Common.{◌≡◌, ℕ, ◌+◌, ◌<◌, ◌≤◌, ◌&&◌, Bool, true, false, true≢false, cond, zero, suc, List, [], ◌∷◌, ◌++◌, length, take, refl, sym, ap, subst, ◌∙◌, inl, inr, arith}
use Rattle.std.specs.Prelude.{bytes_eq}
use Rattle.std.specs.Prelude.{filter, slice_get, Some}
use Rattle.ra_router.specs.declared.ask.Step.{Step}
use Rattle.ra_router.specs.Hops.{Placed, placed_from, hops, nexts_of, hop_limit, is_to, is_next}
use Rattle.ra_router.proofs.Placed.{same_some, get_cases, Grows}

-- the places rise, from this one on
pub Rises : ℕ → List Placed → Type 0
Rises at [] = Unit {0}
Rises at (x ∷ xs) = (at ≤ x.place) × Rises (suc x.place) xs

pub rises_lower : (at low : ℕ) (l : List Placed) → low ≤ at → Rises at l → Rises low l
unfolding Rises
rises_lower at low [] le r = tt
rises_lower at low (x ∷ xs) le r = let h = r.0 in (omega arith, r.1)

pub rises_placed : (at : ℕ) (xs : List Step) → Rises at (placed_from at xs)
unfolding Rises
rises_placed at [] = tt
rises_placed at (x ∷ xs) = (omega arith, rises_placed (suc at) xs)

rises_on : (at : ℕ) (x : Placed) (l : List Placed) (b : Bool) → at ≤ x.place → Rises (suc x.place) l → Rises at (cond b (x ∷ l) l)
unfolding Rises
rises_on at x l true le r = (le, r)
rises_on at x l false le r = rises_lower (suc x.place) at l (omega arith) r

pub rises_filter : (p : Placed → Bool) (at : ℕ) (l : List Placed) → Rises at l → Rises at (filter p l)
unfolding Rises
rises_filter p at [] r = tt
rises_filter p at (x ∷ xs) r = rises_on at x (filter p xs) (p x) r.0 (rises_filter p (suc x.place) xs r.1)

pub rises_take : (n at : ℕ) (l : List Placed) → Rises at l → Rises at (take n l)
unfolding Rises
rises_take zero at l r = tt
rises_take (suc n) at [] r = tt
rises_take (suc n) at (x ∷ xs) r = (r.0, rises_take n (suc x.place) xs r.1)

pub rises_get : (at : ℕ) (l : List Placed) → Rises at l → (n : ℕ) (s : Placed) → slice_get l n ≡ Some s → at ≤ s.place
unfolding Rises
rises_get at [] r n s e = absurd cc
rises_get at (x ∷ xs) r zero s e = subst (λ (y : Placed). at ≤ y.place) (same_some x s e) r.0
rises_get at (x ∷ xs) r (suc n) s e = let h = rises_get (suc x.place) xs r.1 n s e in let k = r.0 in omega arith

pub rises_less : (at : ℕ) (l : List Placed) → Rises at l → (i j : ℕ) (s t : Placed) → i < j → slice_get l i ≡ Some s → slice_get l j ≡ Some t → s.place < t.place
unfolding Rises
rises_less at [] r i j s t lt e f = absurd cc
rises_less at (x ∷ xs) r i zero s t lt e f = absurd (omega arith)
rises_less at (x ∷ xs) r zero (suc j) s t lt e f =
    let h = rises_get (suc x.place) xs r.1 j t f in subst (λ (y : Placed). y.place < t.place) (same_some x s e) (omega arith)
rises_less at (x ∷ xs) r (suc i) (suc j) s t lt e f = rises_less (suc x.place) xs r.1 i j s t (omega arith) e f

pub rises_same : (at : ℕ) (l : List Placed) → Rises at l → (i j : ℕ) (s t : Placed) → slice_get l i ≡ Some s → slice_get l j ≡ Some t → s.place ≡ t.place → i ≡ j
unfolding Rises
rises_same at [] r i j s t e f same = absurd cc
rises_same at (x ∷ xs) r zero zero s t e f same = refl
rises_same at (x ∷ xs) r zero (suc j) s t e f same = let h = rises_less at (x ∷ xs) r 0 (suc j) s t (omega arith) e f in absurd (omega arith)
rises_same at (x ∷ xs) r (suc i) zero s t e f same = let h = rises_less at (x ∷ xs) r 0 (suc i) t s (omega arith) f e in absurd (omega arith)
rises_same at (x ∷ xs) r (suc i) (suc j) s t e f same = ap suc (rises_same (suc x.place) xs r.1 i j s t e f same)

pub rises_hops : (xs : List Step) → Rises 0 (hops xs)
rises_hops xs = rises_take hop_limit 0 _ (rises_filter (λ s. is_to s.step.ask) 0 _ (rises_placed 0 xs))

pub rises_nexts : (w : List ℕ) (xs : List Step) → Rises 0 (nexts_of w xs)
rises_nexts w xs = rises_filter (λ s. is_next s.step.ask && (bytes_eq s.step.from w)) 0 _ (rises_placed 0 xs)

first_there : (l : List Placed) (n : ℕ) (s : Placed) → slice_get l n ≡ Some s → (t : Placed) × (slice_get l 0 ≡ Some t)
first_there [] n s e = absurd cc
first_there (x ∷ xs) n s e = (x, refl)

get_right : (l m : List Placed) (n : ℕ) → slice_get (l ++ m) (length l + n) ≡ slice_get m n
get_right [] m n = let z : 0 + n ≡ n = omega arith in ap (slice_get m) z
get_right (x ∷ xs) m n = let z : suc (length xs) + n ≡ suc (length xs + n) = omega arith in ap (slice_get (x ∷ xs ++ m)) z ∙ get_right xs m n

rank_on : (n : ℕ) (l m : List Placed) → Rises 0 m → (g : Grows n l m) (i : ℕ) (s : Placed) → slice_get m i ≡ Some s → s.place ≡ n
    → (at : ℕ) → slice_get g.more at ≡ Some s → length l + at ≡ i → i ≡ length l
rank_on n l m rises g i s e here zero there sum = omega arith
rank_on n l m rises g i s e here (suc at) there sum =
    let f = first_there g.more (suc at) s there in
    let late = g.late 0 f.0 f.1 in
    let before = rises_less 0 m rises (length l + 0) i f.0 s (omega arith) (ap (λ k. slice_get k (length l + 0)) g.is ∙ get_right l g.more 0 ∙ f.1) e in
    absurd (omega arith)

-- the element at the place where the list grew stands just after the list
pub rank_is : (n : ℕ) (l m : List Placed) → Rises 0 m → Grows n l m → ((i : ℕ) (s : Placed) → slice_get l i ≡ Some s → s.place < n)
    → (i : ℕ) (s : Placed) → slice_get m i ≡ Some s → s.place ≡ n → i ≡ length l
rank_is n l m rises g early i s e here = elim (get_cases l g.more i s (ap (λ k. slice_get k i) (sym g.is) ∙ e)) [
  | inl h ↦ let b = early i s h in absurd (omega arith)
  | inr r ↦ rank_on n l m rises g i s e here r.at r.there r.sum
]

-- ---- the rank of an element among those that pass

filter_rank_on : (p : Placed → Bool) (x : Placed) (xs : List Placed) (h : ℕ) (c : Placed) (b : Bool)
    → slice_get (filter p xs) (length (filter p (take h xs))) ≡ Some c
    → slice_get (cond b (x ∷ filter p xs) (filter p xs)) (length (cond b (x ∷ filter p (take h xs)) (filter p (take h xs)))) ≡ Some c
filter_rank_on p x xs h c true e = e
filter_rank_on p x xs h c false e = e

filter_first : (x : Placed) (l : List Placed) (b : Bool) → b ≡ true → slice_get (cond b (x ∷ l) l) 0 ≡ Some x
filter_first x l true e = refl
filter_first x l false e = absurd (true≢false (sym e))

pub filter_rank : (p : Placed → Bool) (l : List Placed) (h : ℕ) (c : Placed) → slice_get l h ≡ Some c → p c ≡ true
    → slice_get (filter p l) (length (filter p (take h l))) ≡ Some c
filter_rank p [] h c e passes = absurd cc
filter_rank p (x ∷ xs) zero c e passes =
    let q = same_some x c e in filter_first x (filter p xs) (p x) (ap p q ∙ passes) ∙ ap Some q
filter_rank p (x ∷ xs) (suc h) c e passes = filter_rank_on p x xs h c (p x) (filter_rank p xs h c e passes)

pub record Ranked (p : Placed → Bool) (l : List Placed) (j : ℕ) (c : Placed) : Type 0 where
  pub at : ℕ
  pub there : slice_get l at ≡ Some c
  pub rank : length (filter p (take at l)) ≡ j

filter_unrank_on : (p : Placed → Bool) (x : Placed) (xs : List Placed) (j : ℕ) (c : Placed) (b : Bool) → p x ≡ b
    → ((k : ℕ) → slice_get (filter p xs) k ≡ Some c → Ranked p xs k c)
    → slice_get (cond b (x ∷ filter p xs) (filter p xs)) j ≡ Some c → Ranked p (x ∷ xs) j c
filter_unrank_on p x xs zero c true is more e = record { at = 0; there = e; rank = refl }
filter_unrank_on p x xs (suc j) c true is more e =
    let r = more j e in record { at = suc r.at; there = r.there; rank = ap (λ b. length (cond b (x ∷ filter p (take r.at xs)) (filter p (take r.at xs)))) is ∙ ap suc r.rank }
filter_unrank_on p x xs j c false is more e =
    let r = more j e in record { at = suc r.at; there = r.there; rank = ap (λ b. length (cond b (x ∷ filter p (take r.at xs)) (filter p (take r.at xs)))) is ∙ r.rank }

pub filter_unrank : (p : Placed → Bool) (l : List Placed) (j : ℕ) (c : Placed) → slice_get (filter p l) j ≡ Some c → Ranked p l j c
filter_unrank p [] j c e = absurd cc
filter_unrank p (x ∷ xs) j c e = filter_unrank_on p x xs j c (p x) refl (λ k h. filter_unrank p xs k c h) e

rank_zero : (x : Placed) (l : List Placed) (b : Bool) → b ≡ true → 0 < length (cond b (x ∷ l) l)
rank_zero x l true e = omega arith
rank_zero x l false e = absurd (true≢false (sym e))

rank_suc : (x : Placed) (l m : List Placed) (b : Bool) → length l < length m → length (cond b (x ∷ l) l) < length (cond b (x ∷ m) m)
rank_suc x l m true lt = omega arith
rank_suc x l m false lt = lt

pub rank_less : (p : Placed → Bool) (l : List Placed) (m n : ℕ) (c : Placed) → m < n → slice_get l m ≡ Some c → p c ≡ true
    → length (filter p (take m l)) < length (filter p (take n l))
rank_less p [] m n c lt e passes = absurd cc
rank_less p (x ∷ xs) m zero c lt e passes = absurd (omega arith)
rank_less p (x ∷ xs) zero (suc n) c lt e passes = rank_zero x (filter p (take n xs)) (p x) (ap p (same_some x c e) ∙ passes)
rank_less p (x ∷ xs) (suc m) (suc n) c lt e passes = rank_suc x (filter p (take m xs)) (filter p (take n xs)) (p x) (rank_less p xs m n c (omega arith) e passes)
