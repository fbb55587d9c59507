-- Lists by places and by numbers, and a proof by what a Bool is.
use Rattle.std.proofs.Common.{◌≡◌, inl, inr, ℕ, zero, suc, Bool, true, false, Option, Some, None, List, [], ◌∷◌, ◌++◌, refl, ap, arith}
use Rattle.std.specs.Prelude.{◌⊎◌, slice_get, slice_set}
use Rattle.ra_model.specs.Links.{at_number, put_number}

pub by_bool : {P : Type 0} → (b : Bool) → (b ≡ true → P) → (b ≡ false → P) → P
by_bool true so other = so refl
by_bool false so other = other refl

pub none_there : {X : Type 0} → {Y : Type 0} → {x : X} → ◌≡◌ {A = Option X} None (Some x) → Y
none_there e = absurd cc

pub there_is : {X : Type 0} → {x y : X} → ◌≡◌ {A = Option X} (Some x) (Some y) → x ≡ y
there_is e = cc

pub same_or_not : (a b : ℕ) → (a ≡ b) ⊎ (a ≡ b → ⊥)
same_or_not zero zero = inl refl
same_or_not zero (suc b) = inr (λ e. omega (arith, e))
same_or_not (suc a) zero = inr (λ e. omega (arith, e))
same_or_not (suc a) (suc b) = more (same_or_not a b)
  where
    more : {a b : ℕ} → (a ≡ b) ⊎ (a ≡ b → ⊥) → (suc a ≡ suc b) ⊎ (suc a ≡ suc b → ⊥)
    more (inl e) = inl (ap (λ n. suc n) e)
    more (inr ne) = inr (λ e. ne (omega (arith, e)))

pub get_other : {X : Type 0} → (xs : List X) (n m : ℕ) (x : X) → (n ≡ m → ⊥) → slice_get (slice_set xs n x) m ≡ slice_get xs m
get_other [] n m x ne = refl
get_other (y ∷ ys) zero zero x ne = absurd (ne refl)
get_other (y ∷ ys) zero (suc m) x ne = refl
get_other (y ∷ ys) (suc n) zero x ne = refl
get_other (y ∷ ys) (suc n) (suc m) x ne = get_other ys n m x (λ e. ne (ap (λ k. suc k) e))

pub put_other : {X : Type 0} → (xs : List X) (n m : ℕ) (x : X) → (n ≡ m → ⊥) → at_number (put_number xs n x) m ≡ at_number xs m
put_other xs zero m x ne = refl
put_other xs (suc n) zero x ne = refl
put_other xs (suc n) (suc m) x ne = get_other xs n m x (λ e. ne (ap (λ k. suc k) e))

pub get_same : {X : Type 0} → (xs : List X) (n : ℕ) (x y : X) → slice_get xs n ≡ Some y → slice_get (slice_set xs n x) n ≡ Some x
get_same [] n x y is = none_there is
get_same (z ∷ zs) zero x y is = refl
get_same (z ∷ zs) (suc n) x y is = get_same zs n x y is

pub number_same : {X : Type 0} → (xs : List X) (n : ℕ) (x y : X) → at_number xs n ≡ Some y → at_number (put_number xs n x) n ≡ Some x
number_same xs zero x y is = none_there is
number_same xs (suc n) x y is = get_same xs n x y is

pub get_front : {X : Type 0} → (xs ys : List X) (n : ℕ) (x : X) → slice_get xs n ≡ Some x → slice_get (xs ++ ys) n ≡ Some x
get_front [] ys n x is = none_there is
get_front (z ∷ xs) ys zero x is = is
get_front (z ∷ xs) ys (suc n) x is = get_front xs ys n x is

pub number_front : {X : Type 0} → (xs ys : List X) (n : ℕ) (x : X) → at_number xs n ≡ Some x → at_number (xs ++ ys) n ≡ Some x
number_front xs ys zero x is = is
number_front xs ys (suc n) x is = get_front xs ys n x is
