-- Facts on all elements of a list, and at its places.
use Rattle.std.proofs.Common.{◌≡◌, ℕ, zero, suc, Bool, Option, Some, None, List, [], ◌∷◌, ◌++◌, length, map, refl}
use Rattle.std.proofs.lemmas.Bool.{cond_both}
use Rattle.std.specs.Prelude.{slice_get}
use Rattle.std.specs.List.{AllByRecursion, filter, filter_map, cons_option}

pub all_both : {X : Type 0} (P : X → Type 0) (xs ys : List X) → AllByRecursion P xs → AllByRecursion P ys → AllByRecursion P (xs ++ ys)
all_both P [] ys a b = b
all_both P (x ∷ xs) ys a b = (a.0, all_both P xs ys a.1 b)

pub all_back : {X : Type 0} (P : X → Type 0) (xs ys : List X) → AllByRecursion P (xs ++ ys) → AllByRecursion P ys
all_back P [] ys a = a
all_back P (x ∷ xs) ys a = all_back P xs ys a.1

pub all_kept : {X : Type 0} (P : X → Type 0) (test : X → Bool) (xs : List X) → AllByRecursion P xs → AllByRecursion P (filter test xs)
all_kept P test [] h = tt
all_kept P test (x ∷ xs) h =
    cond_both (test x) (x ∷ filter test xs) (filter test xs) (AllByRecursion P) (λ _. (h.0, all_kept P test xs h.1)) (λ _. all_kept P test xs h.1)

pub all_mapped : {X Y : Type 0} (P : X → Type 0) (Q : Y → Type 0) (f : X → Y) → ((x : X) → P x → Q (f x)) → (xs : List X) → AllByRecursion P xs
    → AllByRecursion Q (map f xs)
all_mapped P Q f gives [] h = tt
all_mapped P Q f gives (x ∷ xs) h = (gives x h.0, all_mapped P Q f gives xs h.1)

-- what holds of a thing, if there is one
abbrev pub OfSome : {Y : Type 0} → (Y → Type 0) → Option Y → Type 0
OfSome Q None = Unit {0}
OfSome Q (Some y) = Q y

all_next : {Y : Type 0} (Q : Y → Type 0) (o : Option Y) (ys : List Y) → OfSome Q o → AllByRecursion Q ys → AllByRecursion Q (cons_option o ys)
all_next Q None ys one rest = rest
all_next Q (Some y) ys one rest = (one, rest)

pub all_found : {X Y : Type 0} (P : X → Type 0) (Q : Y → Type 0) (f : X → Option Y) → ((x : X) → P x → OfSome Q (f x)) → (xs : List X)
    → AllByRecursion P xs → AllByRecursion Q (filter_map f xs)
all_found P Q f gives [] h = tt
all_found P Q f gives (x ∷ xs) h = all_next Q (f x) (filter_map f xs) (gives x h.0) (all_found P Q f gives xs h.1)

pub all_any : {X : Type 0} (P : X → Type 0) → ((x : X) → P x) → (xs : List X) → AllByRecursion P xs
all_any P each [] = tt
all_any P each (x ∷ xs) = (each x, all_any P each xs)

-- what stands behind a front
pub at_place : {X Y : Type 0} (f : X → Y) (front rest : List X) (n : ℕ) (y : Y) → length front ≡ n → slice_get (map f (front ++ rest)) n ≡ Some y
    → (x : X) × (others : List X) × (rest ≡ x ∷ others) × (y ≡ f x)
at_place f [] [] zero y size at = cc
at_place f [] (x ∷ rest) zero y size at = (x, rest, refl, cc)
at_place f [] rest (suc n) y size at = cc
at_place f (x ∷ front) rest zero y size at = cc
at_place f (x ∷ front) rest (suc n) y size at = at_place f front rest n y (cc) at
