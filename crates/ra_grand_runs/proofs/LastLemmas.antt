-- The last of a list that becomes another.
use Rattle.std.proofs.Common.{◌≡◌, suc, List, [], ◌∷◌, length, map, refl, ap, ◌∙◌}
use Rattle.std.specs.Prelude.{slice_set, slice_index_or}
use Rattle.ra_grand_runs.specs.Lasts.{with_last_of, with_last}

-- a change that changes nothing
stays_of : {X : Type 0} → (f : X → X) → ((x : X) → f x ≡ x) → (x : X) (xs : List X) → with_last_of f x xs ≡ x ∷ xs
stays_of f same x [] = ap (λ y. y ∷ []) (same x)
stays_of f same x (y ∷ ys) = ap (λ zs. x ∷ zs) (stays_of f same y ys)

pub stays : {X : Type 0} → (f : X → X) → ((x : X) → f x ≡ x) → (xs : List X) → with_last f xs ≡ xs
stays f same [] = refl
stays f same (x ∷ xs) = stays_of f same x xs

-- one change after the other
behind : {X : Type 0} → (f g : X → X) (x y : X) (ys : List X) → with_last g (x ∷ with_last_of f y ys) ≡ x ∷ with_last g (with_last_of f y ys)
behind f g x y [] = refl
behind f g x y (z ∷ zs) = refl

twice_of : {X : Type 0} → (f g h : X → X) → ((x : X) → g (f x) ≡ h x) → (x : X) (xs : List X) → with_last g (with_last_of f x xs) ≡ with_last_of h x xs
twice_of f g h both x [] = ap (λ y. y ∷ []) (both x)
twice_of f g h both x (y ∷ ys) = behind f g x y ys ∙ ap (λ zs. x ∷ zs) (twice_of f g h both y ys)

pub twice : {X : Type 0} → (f g h : X → X) → ((x : X) → g (f x) ≡ h x) → (xs : List X) → with_last g (with_last f xs) ≡ with_last h xs
twice f g h both [] = refl
twice f g h both (x ∷ xs) = twice_of f g h both x xs

-- seen from outside
seen_of : {X Y : Type 0} → (v : X → Y) (f : X → X) (g : Y → Y) → ((x : X) → v (f x) ≡ g (v x)) → (x : X) (xs : List X) → map v (with_last_of f x xs) ≡ with_last_of g (v x) (map v xs)
seen_of v f g same x [] = ap (λ y. y ∷ []) (same x)
seen_of v f g same x (y ∷ ys) = ap (λ zs. v x ∷ zs) (seen_of v f g same y ys)

pub seen : {X Y : Type 0} → (v : X → Y) (f : X → X) (g : Y → Y) → ((x : X) → v (f x) ≡ g (v x)) → (xs : List X) → map v (with_last f xs) ≡ with_last g (map v xs)
seen v f g same [] = refl
seen v f g same (x ∷ xs) = seen_of v f g same x xs

-- it stands at the end
pub at_end_of : {X : Type 0} → (f : X → X) (x d : X) (xs : List X) → slice_set (x ∷ xs) (length xs) (f (slice_index_or (x ∷ xs) (length xs) d)) ≡ with_last_of f x xs
at_end_of f x d [] = refl
at_end_of f x d (y ∷ ys) = ap (λ zs. x ∷ zs) (at_end_of f y d ys)

length_of : {X : Type 0} → (f : X → X) (x : X) (xs : List X) → length (with_last_of f x xs) ≡ length (x ∷ xs)
length_of f x [] = refl
length_of f x (y ∷ ys) = ap (λ n. suc n) (length_of f y ys)

pub length_last : {X : Type 0} → (f : X → X) (xs : List X) → length (with_last f xs) ≡ length xs
length_last f [] = refl
length_last f (x ∷ xs) = length_of f x xs
