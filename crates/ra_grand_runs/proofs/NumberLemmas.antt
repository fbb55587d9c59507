-- One of a list that another takes the place of, by its place and by its number.
use Rattle.std.proofs.Common.{◌≡◌, inl, inr, ℕ, zero, suc, Some, List, [], ◌∷◌, map, refl, ap, arith}
use Rattle.std.specs.Prelude.{◌⊎◌, slice_get, slice_set}
use Rattle.ra_model.specs.Links.{at_number, put_number}
use Rattle.ra_grand_runs.proofs.KeptClients.{none_there, there_is}

pub same_or_not : (a b : ℕ) → (a ≡ b) ⊎ (a ≡ b → ⊥)
same_or_not zero zero = inl refl
same_or_not zero (suc b) = inr (λ e. omega (arith, e))
same_or_not (suc a) zero = inr (λ e. omega (arith, e))
same_or_not (suc a) (suc b) = more (same_or_not a b)
  where
    more : {a b : ℕ} → (a ≡ b) ⊎ (a ≡ b → ⊥) → (suc a ≡ suc b) ⊎ (suc a ≡ suc b → ⊥)
    more (inl e) = inl (ap (λ n. suc n) e)
    more (inr ne) = inr (λ e. ne (omega (arith, e)))

pub get_same : {X : Type 0} → (xs : List X) (n : ℕ) (x y : X) → slice_get xs n ≡ Some y → slice_get (slice_set xs n x) n ≡ Some x
get_same [] n x y is = none_there is
get_same (z ∷ zs) zero x y is = refl
get_same (z ∷ zs) (suc n) x y is = get_same zs n x y is

pub get_map : {X Y : Type 0} → (f : X → Y) (xs : List X) (n : ℕ) (x : X) → slice_get xs n ≡ Some x → slice_get (map f xs) n ≡ Some (f x)
get_map f [] n x is = none_there is
get_map f (z ∷ zs) zero x is = ap (λ y. Some (f y)) (there_is is)
get_map f (z ∷ zs) (suc n) x is = get_map f zs n x is

pub set_map : {X Y : Type 0} → (f : X → Y) (xs : List X) (n : ℕ) (x : X) → map f (slice_set xs n x) ≡ slice_set (map f xs) n (f x)
set_map f [] n x = refl
set_map f (z ∷ zs) zero x = refl
set_map f (z ∷ zs) (suc n) x = ap (λ ys. f z ∷ ys) (set_map f zs n x)

pub number_same : {X : Type 0} → (xs : List X) (n : ℕ) (x y : X) → at_number xs n ≡ Some y → at_number (put_number xs n x) n ≡ Some x
number_same xs zero x y is = none_there is
number_same xs (suc n) x y is = get_same xs n x y is

pub number_map : {X Y : Type 0} → (f : X → Y) (xs : List X) (n : ℕ) (x : X) → at_number xs n ≡ Some x → at_number (map f xs) n ≡ Some (f x)
number_map f xs zero x is = none_there is
number_map f xs (suc n) x is = get_map f xs n x is

pub put_map : {X Y : Type 0} → (f : X → Y) (xs : List X) (n : ℕ) (x : X) → map f (put_number xs n x) ≡ put_number (map f xs) n (f x)
put_map f xs zero x = refl
put_map f xs (suc n) x = set_map f xs n x
