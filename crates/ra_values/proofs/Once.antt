-- A value has one spelling, and no spelling begins another.
use Rattle.std.proofs.Common.{◌≡◌, ℕ, zero, suc, ◌+◌, ◌%◌, ◌/◌, ◌<◌, ◌^◌, List, [], ◌∷◌, ◌++◌, length, Ok, refl, sym, ap, ap₂, subst, ◌∙◌, inl, inr, arith}
use Rattle.std.proofs.lemmas.Bool.{cases_lt}
use Rattle.ra_values.specs.Number.{IsGroups, SpellsNumber}
use Rattle.ra_values.specs.Tree.{Tree, undefined, text, buffer, vs_buffer, array, object, int, Trees, none, more, count}
use Rattle.ra_values.specs.Spelling.{SpellsPrefixed, Spells, SpellsAll, Fits, AllFit}
use Rattle.ra_values.specs.Reading.{Read}
use Rattle.ra_values.specs.ReadValue.{value_at}
use Rattle.ra_values.proofs.Numbers.{groups_once, groups_on}
use Rattle.ra_values.proofs.Again.{value_again}

prefixed_once : (tag : ℕ) (content a b : List ℕ) → SpellsPrefixed tag content a → SpellsPrefixed tag content b → a ≡ b
prefixed_once tag content a b p q = p.2 ∙ ap (λ (l : List ℕ). tag ∷ (l ++ content)) (groups_once p.0 q.0 (length content) p.1.1 q.1.1) ∙ sym q.2

mutual
  pub spelled_once : (left : ℕ) (t : Tree) (a b : List ℕ) → Spells left t a → Spells left t b → a ≡ b
  spelled_once zero t a b p q = absurd p
  spelled_once (suc left) undefined a b p q = p ∙ sym q
  spelled_once (suc left) (text t) a b p q = prefixed_once 1 t a b p.1 q.1
  spelled_once (suc left) (buffer t) a b p q = prefixed_once 2 t a b p q
  spelled_once (suc left) (vs_buffer t) a b p q = prefixed_once 3 t a b p q
  spelled_once (suc left) (array ts) a b p q = p.4 ∙ ap₂ (λ (l r : List ℕ). 4 ∷ (l ++ r)) (groups_once p.0 q.0 _ p.2.1 q.2.1) (all_spelled_once left ts p.1 q.1 p.3 q.3) ∙ sym q.4
  spelled_once (suc left) (object t) a b p q = prefixed_once 5 t a b p.1 q.1
  spelled_once (suc left) (int n) a b p q = p.2 ∙ ap (λ (l : List ℕ). 6 ∷ l) (groups_once p.0 q.0 n p.1.1 q.1.1) ∙ sym q.2

  pub all_spelled_once : (left : ℕ) (ts : Trees) (a b : List ℕ) → SpellsAll left ts a → SpellsAll left ts b → a ≡ b
  all_spelled_once left none a b p q = p ∙ sym q
  all_spelled_once left (more t ts) a b p q = p.4 ∙ ap₂ (λ (l r : List ℕ). l ++ r) (spelled_once left t p.0 q.0 p.2 q.2) (all_spelled_once left ts p.1 q.1 p.3 q.3) ∙ sym q.4

read_once : (x y : Tree × List ℕ) (r : Read Tree) → r ≡ Ok x → r ≡ Ok y → (x.0 ≡ y.0) × (x.1 ≡ y.1)
read_once x y r p q = let e : x ≡ y = cc in (ap (λ (z : Tree × List ℕ). z.0) e, ap (λ (z : Tree × List ℕ). z.1) e)

pub begins_none : (left : ℕ) (t u : Tree) (a b x y : List ℕ) → Spells left t a → Spells left u b → a ++ x ≡ b ++ y → (t ≡ u) × (a ≡ b)
begins_none left t u a b x y p q e =
    let same = read_once (t, x) (u, y) (value_at left (b ++ y)) (ap (value_at left) (sym e) ∙ value_again left t a x p) (value_again left u b y q) in
    (same.0, spelled_once left t a b p (subst (λ (v : Tree). Spells left v b) (sym same.0) q))

-- ---- each value that fits has a spelling

groups : (fuel n : ℕ) → n < fuel → (bytes : List ℕ) × IsGroups bytes n
groups zero n h = absurd (omega arith)
groups (suc fuel) n h = elim (cases_lt n 128) [
  | inl lt ↦ (n ∷ [], (lt, refl))
  | inr le ↦ let high = groups fuel (n / 128) (omega arith) in ((n % 128 + 128) ∷ high.0, groups_on n high.0 le high.1)
]

number_spelled : (n : ℕ) → n < 2 ^ 32 → (bytes : List ℕ) × SpellsNumber n bytes
number_spelled n h = let g = groups (n + 1) n (omega arith) in (g.0, (h, g.1))

prefixed_spelled : (tag : ℕ) (content : List ℕ) → length content < 2 ^ 32 → (bytes : List ℕ) × SpellsPrefixed tag content bytes
prefixed_spelled tag content h = let n = number_spelled (length content) h in (tag ∷ (n.0 ++ content), (n.0, n.1, refl))

mutual
  pub is_spelled : (left : ℕ) (t : Tree) → Fits left t → (bytes : List ℕ) × Spells left t bytes
  is_spelled zero t h = absurd h
  is_spelled (suc left) undefined h = (0 ∷ [], refl)
  is_spelled (suc left) (text t) h = let r = prefixed_spelled 1 t h.1 in (r.0, (h.0, r.1))
  is_spelled (suc left) (buffer t) h = prefixed_spelled 2 t h
  is_spelled (suc left) (vs_buffer t) h = prefixed_spelled 3 t h
  is_spelled (suc left) (array ts) h =
      let n = number_spelled (count ts) h.0 in
      let r = are_spelled left ts h.1 in
      (4 ∷ (n.0 ++ r.0), (n.0, r.0, n.1, r.1, refl))
  is_spelled (suc left) (object t) h = let r = prefixed_spelled 5 t h.1 in (r.0, (h.0, r.1))
  is_spelled (suc left) (int n) h = let p = number_spelled n h in (6 ∷ p.0, (p.0, p.1, refl))

  pub are_spelled : (left : ℕ) (ts : Trees) → AllFit left ts → (bytes : List ℕ) × SpellsAll left ts bytes
  are_spelled left none h = ([], refl)
  are_spelled left (more t ts) h =
      let a = is_spelled left t h.0 in
      let b = are_spelled left ts h.1 in
      (a.0 ++ b.0, (a.0, b.0, a.1, b.1, refl))

mutual
  pub spelled_fits : (left : ℕ) (t : Tree) (bytes : List ℕ) → Spells left t bytes → Fits left t
  spelled_fits zero t bytes s = s
  spelled_fits (suc left) undefined bytes s = tt
  spelled_fits (suc left) (text t) bytes s = (s.0, s.1.1.0)
  spelled_fits (suc left) (buffer t) bytes s = s.1.0
  spelled_fits (suc left) (vs_buffer t) bytes s = s.1.0
  spelled_fits (suc left) (array ts) bytes s = (s.2.0, all_spelled_fit left ts s.1 s.3)
  spelled_fits (suc left) (object t) bytes s = (s.0, s.1.1.0)
  spelled_fits (suc left) (int n) bytes s = s.1.0

  pub all_spelled_fit : (left : ℕ) (ts : Trees) (bytes : List ℕ) → SpellsAll left ts bytes → AllFit left ts
  all_spelled_fit left none bytes s = tt
  all_spelled_fit left (more t ts) bytes s = (spelled_fits left t s.0 s.2, all_spelled_fit left ts s.1 s.3)
