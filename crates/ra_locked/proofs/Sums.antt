-- A sum that stays at the end of its type.
use Rattle.std.proofs.Common.{◌≡◌, ℕ, ◌+◌, ◌-◌, ◌^◌, ◌<◌, ◌≤◌, List, [], ◌∷◌, drop, map, sum, min, length, zero, suc, refl, sym, ap, ◌∙◌, arith}

all_gone : {X : Type 0} (xs : List X) (at : ℕ) → length xs ≤ at → drop at xs ≡ []
all_gone [] zero past = refl
all_gone [] (suc at) past = refl
all_gone (x ∷ xs) zero past = absurd (omega arith)
all_gone (x ∷ xs) (suc at) past = all_gone xs at (omega arith)

pub saturated : {X : Type 0} (f : X → ℕ) (xs : List X) (at done : ℕ) → length xs ≤ at → done < 2 ^ 64
    → min (done + sum (map f (drop at xs))) (2 ^ 64 - 1) ≡ min (sum (map f xs)) (2 ^ 64 - 1) → done ≡ min (sum (map f xs)) (2 ^ 64 - 1)
saturated f xs at done past fits rest =
    let none = ap (λ ys. min (done + sum (map f ys)) (2 ^ 64 - 1)) (all_gone xs at past) in
    let whole : done ≡ min (done + 0) (2 ^ 64 - 1) = grind arith in
    whole ∙ (sym none ∙ rest)
