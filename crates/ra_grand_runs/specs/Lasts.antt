-- The last of a list.
use Rattle.std.specs.Prelude.{List, [], ◌∷◌, ⊤}

abbrev pub with_last_of : {X : Type 0} → (X → X) → X → List X → List X
with_last_of f x [] = f x ∷ []
with_last_of f x (y ∷ ys) = x ∷ with_last_of f y ys

-- what holds of the last, which is there
abbrev pub OnLastOf : {X : Type 0} → (X → Type 0) → X → List X → Type 0
OnLastOf P x [] = P x
OnLastOf P x (y ∷ ys) = OnLastOf P y ys

abbrev pub OnLast : {X : Type 0} → (X → Type 0) → List X → Type 0
OnLast P [] = ⊥
OnLast P (x ∷ xs) = OnLastOf P x xs

-- what holds of the last, where there is one
abbrev pub OnLastIfAny : {X : Type 0} → (X → Type 0) → List X → Type 0
OnLastIfAny P [] = ⊤
OnLastIfAny P (x ∷ xs) = OnLastOf P x xs

-- the last of them becomes another, where there is one
abbrev pub with_last : {X : Type 0} → (X → X) → List X → List X
with_last f [] = []
with_last f (x ∷ xs) = with_last_of f x xs
