-- A comparison of all places, one after another, is that of the lists.
use Rattle.std.proofs.Common.{◌≡◌, ℕ, suc, zero, ◌<◌, Bool, true, false, ◌&&◌, ◌==◌, List, [], ◌∷◌, length, take, get_or, refl, ap, ◌∙◌, arith}
use Rattle.std.specs.Prelude.{bytes_eq}

and_true : (b : Bool) → b ≡ b && true
and_true true = refl
and_true false = refl

and_assoc : (a b c : Bool) → (a && b) && c ≡ a && (b && c)
and_assoc true b c = refl
and_assoc false b c = refl

-- the fronts that are longer by one place
pub one_more : (xs ys : List ℕ) (n : ℕ) → n < length xs → n < length ys
    → bytes_eq (take n xs) (take n ys) && (get_or xs n 0 == get_or ys n 0) ≡ bytes_eq (take (suc n) xs) (take (suc n) ys)
one_more [] ys n h g = absurd (omega arith)
one_more (x ∷ xs) [] n h g = absurd (omega arith)
one_more (x ∷ xs) (y ∷ ys) zero h g = and_true (x == y)
one_more (x ∷ xs) (y ∷ ys) (suc n) h g =
    and_assoc (x == y) (bytes_eq (take n xs) (take n ys)) _ ∙ ap (λ b. (x == y) && b) (one_more xs ys n (omega arith) (omega arith))
