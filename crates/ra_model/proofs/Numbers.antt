-- The n-th of a list, counted from 1.
use Rattle.std.proofs.Common.{◌≡◌, ℕ, zero, suc, ◌<◌, ◌≤◌, ◌⊎◌, inl, inr, Some, List, [], ◌∷◌, ◌++◌, length, set, refl, ap, arith, ⊎_elim}
use Rattle.std.proofs.lemmas.List.{length-set}
use Rattle.std.specs.Prelude.{slice_get}
use Rattle.ra_model.specs.Links.{at_number, put_number}

get_push : {X : Type 0} → (xs : List X) (x : X) (n : ℕ) (y : X) → slice_get (xs ++ x ∷ []) n ≡ Some y → (slice_get xs n ≡ Some y) ⊎ (x ≡ y)
get_push [] x zero y h = inr cc
get_push [] x (suc n) y h = inl h
get_push (z ∷ xs) x zero y h = inl h
get_push (z ∷ xs) x (suc n) y h = get_push xs x n y h

-- an element of a list with one more is an old one or that one
pub at_number_push : {X : Type 0} → (xs : List X) (x : X) (n : ℕ) (y : X) → at_number (xs ++ x ∷ []) n ≡ Some y → (at_number xs n ≡ Some y) ⊎ (x ≡ y)
at_number_push xs x zero y h = inl h
at_number_push xs x (suc n) y h = get_push xs x n y h

get_old : {X : Type 0} → (xs ys : List X) (n : ℕ) (y : X) → n < length xs → slice_get (xs ++ ys) n ≡ Some y → slice_get xs n ≡ Some y
get_old [] ys n y l h = absurd (omega arith)
get_old (x ∷ xs) ys zero y l h = h
get_old (x ∷ xs) ys (suc n) y l h = get_old xs ys n y (omega arith) h

-- a number that was there names what it named
pub at_number_old : {X : Type 0} → (xs ys : List X) (n : ℕ) (y : X) → n ≤ length xs → at_number (xs ++ ys) n ≡ Some y → at_number xs n ≡ Some y
at_number_old xs ys zero y l h = h
at_number_old xs ys (suc n) y l h = get_old xs ys n y (omega arith) h

get_set : {X : Type 0} → (xs : List X) (n m : ℕ) (x z : X) → slice_get (set xs n x) m ≡ Some z → ((m ≡ n) × (x ≡ z)) ⊎ ((m ≡ n → ⊥) × (slice_get xs m ≡ Some z))
get_set [] n m x z h = cc
get_set (y ∷ xs) zero zero x z h = inl (refl, cc)
get_set (y ∷ xs) zero (suc m) x z h = inr (λ e. omega arith, h)
get_set (y ∷ xs) (suc n) zero x z h = inr (λ e. omega arith, h)
get_set (y ∷ xs) (suc n) (suc m) x z h = ⊎_elim (λ p. inl (ap suc p.0, p.1)) (λ p. inr (λ e. p.0 (omega arith), p.1)) (get_set xs n m x z h)

-- an element of a list where one was replaced
pub put_cases : {X : Type 0} → (xs : List X) (n m : ℕ) (x z : X) → at_number (put_number xs n x) m ≡ Some z → ((m ≡ n) × (x ≡ z)) ⊎ ((m ≡ n → ⊥) × (at_number xs m ≡ Some z))
put_cases xs zero zero x z h = cc
put_cases xs zero (suc m) x z h = inr (λ e. omega arith, h)
put_cases xs (suc n) zero x z h = cc
put_cases xs (suc n) (suc m) x z h = ⊎_elim (λ p. inl (ap suc p.0, p.1)) (λ p. inr (λ e. p.0 (omega arith), p.1)) (get_set xs n m x z h)

pub length-put_number : {X : Type 0} → (xs : List X) (n : ℕ) (x : X) → length (put_number xs n x) ≡ length xs
length-put_number xs zero x = refl
length-put_number xs (suc n) x = length-set xs n x

pub get_within : {X : Type 0} → (xs : List X) (n : ℕ) (x : X) → slice_get xs n ≡ Some x → n < length xs
get_within [] n x h = cc
get_within (y ∷ xs) zero x h = omega arith
get_within (y ∷ xs) (suc n) x h = let below : n < length xs = get_within xs n x h in omega arith

pub at_number_within : {X : Type 0} → (xs : List X) (n : ℕ) (x : X) → at_number xs n ≡ Some x → n ≤ length xs
at_number_within xs zero x h = cc
at_number_within xs (suc n) x h = let below : n < length xs = get_within xs n x h in omega arith

get_put_same : {X : Type 0} → (xs : List X) (n : ℕ) (x y : X) → slice_get xs n ≡ Some x → slice_get (set xs n y) n ≡ Some y
get_put_same [] n x y h = cc
get_put_same (z ∷ xs) zero x y h = refl
get_put_same (z ∷ xs) (suc n) x y h = get_put_same xs n x y h

pub put_same : {X : Type 0} → (xs : List X) (n : ℕ) (x y : X) → at_number xs n ≡ Some x → at_number (put_number xs n y) n ≡ Some y
put_same xs zero x y h = cc
put_same xs (suc n) x y h = get_put_same xs n x y h

get_put_other : {X : Type 0} → (xs : List X) (n m : ℕ) (y z : X) → (m ≡ n → ⊥) → slice_get xs m ≡ Some z → slice_get (set xs n y) m ≡ Some z
get_put_other [] n m y z e h = h
get_put_other (x ∷ xs) zero zero y z e h = absurd (e refl)
get_put_other (x ∷ xs) zero (suc m) y z e h = h
get_put_other (x ∷ xs) (suc n) zero y z e h = h
get_put_other (x ∷ xs) (suc n) (suc m) y z e h = get_put_other xs n m y z (λ p. e (ap suc p)) h

pub put_other : {X : Type 0} → (xs : List X) (n m : ℕ) (y z : X) → (m ≡ n → ⊥) → at_number xs m ≡ Some z → at_number (put_number xs n y) m ≡ Some z
put_other xs zero m y z e h = h
put_other xs (suc n) zero y z e h = h
put_other xs (suc n) (suc m) y z e h = get_put_other xs n m y z (λ p. e (ap suc p)) h

pub at_number-nil : {X : Type 0} → (n : ℕ) (x : X) → at_number [] n ≡ Some x → ⊥
at_number-nil zero x h = cc
at_number-nil (suc n) x h = cc
