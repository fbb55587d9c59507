-- What is read of a number is its spelling, and its spelling is read, whatever follows.
use Rattle.std.proofs.Common.{◌≡◌, ℕ, zero, suc, ◌*◌, ◌+◌, ◌-◌, ◌%◌, ◌/◌, ◌<◌, ◌≤◌, Bool, true, false, cond, eqb, ltb, List, [], ◌∷◌, ◌++◌, get_or, Result, Ok, Err, refl, sym, ap, subst, arith, inl, inr, ◌⊎◌}
use Rattle.std.proofs.lemmas.Bool.{ltb-false, ltb-true, le-ltb, lt-ltb, eqb-false, ne_eqb}
use Rattle.ra_values.specs.declared.fault.Wrong.TheVariants.{BadNumber}
use Rattle.ra_values.specs.Reading.{Fault, Read, wrong, ◌>>=◌}
use Rattle.ra_values.proofs.Limits.{limit_least}
use Rattle.ra_values.specs.Number.{IsGroups, SpellsNumber, last_at, later_at, number_at, later_limit}

-- the value of a step that did not fail
pub bind_ok : {A B : Type 0} (r : Result A Fault) (f : A → Result B Fault) (y : B) → (r >>= f) ≡ Ok y → (x : A) × (r ≡ Ok x) × (f x ≡ Ok y)
bind_ok (Ok x) f y e = (x, refl, e)
bind_ok (Err d) f y e = absurd cc

abbrev done : {A : Type 0} → A → Result A Fault
done x = Ok x

pub ok_is : {A : Type 0} (x y : A) → done x ≡ done y → x ≡ y
ok_is x y e = cc

pub chosen : {A : Type 0} (b : Bool) (x y z : A) → cond b x y ≡ z → ((b ≡ true) × (x ≡ z)) ⊎ ((b ≡ false) × (y ≡ z))
chosen true x y z e = inl (refl, e)
chosen false x y z e = inr (refl, e)

first_byte : (b : ℕ) (bs : List ℕ) (n : ℕ) → IsGroups (b ∷ bs) n → 0 < n → 0 < b
first_byte b [] n s p = omega (arith, s.0, s.1)
first_byte b (c ∷ bs) n s p = omega (arith, s.0)

-- groups after the first, whatever follows them
pub later_again : (more : ℕ) (front rest : List ℕ) (n : ℕ) → IsGroups front n → 0 < n → n < later_limit more → later_at more (front ++ rest) ≡ Ok (n, rest)
unfolding later_at
later_again more [] rest n s p lt = absurd s
later_again zero (b ∷ []) rest n s p lt =
    let z : eqb b 0 ≡ false = ne_eqb b 0 (omega (arith, s.1)) in
    let t : ltb 15 b ≡ false = le-ltb 15 b (omega (arith, s.1)) in
    rw (z, t, s.1) refl
later_again (suc more) (b ∷ []) rest n s p lt =
    let z : eqb b 0 ≡ false = ne_eqb b 0 (omega (arith, s.1)) in
    let t : ltb b 128 ≡ true = lt-ltb b 128 s.0 in
    rw (z, t, s.1) refl
later_again zero (b ∷ c ∷ bs) rest n s p lt = absurd (omega (arith, s.0, s.3, s.4))
later_again (suc more) (b ∷ c ∷ bs) rest n s p lt =
    let z : eqb b 0 ≡ false = ne_eqb b 0 (omega (arith, s.0)) in
    let t : ltb b 128 ≡ false = le-ltb b 128 s.0 in
    let h : later_at more (c ∷ (bs ++ rest)) ≡ Ok (s.2, rest) = later_again more (c ∷ bs) rest s.2 s.5 s.3 (omega (arith, s.0, s.4)) in
    let e : b - 128 + 128 * s.2 ≡ n = omega (arith, s.0, s.4) in
    rw (z, t, h, e) refl

pub number_again : (n : ℕ) (front rest : List ℕ) → SpellsNumber n front → number_at (front ++ rest) ≡ Ok (n, rest)
unfolding number_at
number_again n [] rest s = absurd s.1
number_again n (b ∷ []) rest s =
    let t : ltb b 128 ≡ true = lt-ltb b 128 s.1.0 in
    rw (t, s.1.1) refl
number_again n (b ∷ c ∷ bs) rest s =
    let t : ltb b 128 ≡ false = le-ltb b 128 s.1.0 in
    let h : later_at 3 (c ∷ (bs ++ rest)) ≡ Ok (s.1.2, rest) = later_again 3 (c ∷ bs) rest s.1.2 s.1.5 s.1.3 (omega (arith, s.0, s.1.0, s.1.1, s.1.4)) in
    let e : b - 128 + 128 * s.1.2 ≡ n = omega (arith, s.1.0, s.1.4) in
    rw (t, h, e) refl

abbrev pub IsBytes : List ℕ → Type 0
IsBytes bytes = (i : ℕ) → get_or bytes i 0 < 256

pub IsBytes-rest : (b : ℕ) (bytes : List ℕ) → IsBytes (b ∷ bytes) → IsBytes bytes
IsBytes-rest b bytes h i = h (suc i)

pub IsBytes-back : (front rest : List ℕ) → IsBytes (front ++ rest) → IsBytes rest
IsBytes-back [] rest h = h
IsBytes-back (b ∷ front) rest h = IsBytes-back front rest (λ i. h (suc i))

groups_more : (b high : ℕ) (front : List ℕ) → 128 ≤ b → b < 256 → 0 < high → IsGroups front high → IsGroups (b ∷ front) (b - 128 + 128 * high)
groups_more b high [] p q r s = absurd s
groups_more b high (c ∷ bs) p q r s = (p, q, high, r, omega arith, s)

pub later_takes : (more : ℕ) (bytes : List ℕ) (x : ℕ × List ℕ) → IsBytes bytes → later_at more bytes ≡ Ok x
    → (front : List ℕ) × (bytes ≡ front ++ x.1) × IsGroups front x.0 × (0 < x.0) × (x.0 < later_limit more)
unfolding later_at
later_takes more [] x fits e = absurd cc
later_takes zero (b ∷ bytes) x fits e =
    elim (chosen (eqb b 0) (wrong BadNumber (b ∷ bytes)) (last_at b (b ∷ bytes) bytes) (Ok x) e) [
      | inl h ↦ absurd (cc h.1)
      | inr h ↦ elim (chosen (ltb 15 b) (wrong BadNumber (b ∷ bytes)) (Ok (b, bytes)) (Ok x) h.1) [
        | inl g ↦ absurd (cc g.1)
        | inr g ↦
            let nz : b ≡ 0 → ⊥ = eqb-false b 0 h.0 in
            let small : b ≤ 15 = ltb-false 15 b g.0 in
            subst (λ (y : ℕ × List ℕ). (front : List ℕ) × (b ∷ bytes ≡ front ++ y.1) × IsGroups front y.0 × (0 < y.0) × (y.0 < later_limit 0)) (ok_is (b, bytes) x g.1) (b ∷ [], refl, (omega arith, refl), omega arith, omega arith)
      ]
    ]
later_takes (suc more) (b ∷ bytes) x fits e =
    let next : Read ℕ = later_at more bytes >>= λ high. Ok (b - 128 + 128 * high.0, high.1) in
    elim (chosen (eqb b 0) (wrong BadNumber (b ∷ bytes)) (cond (ltb b 128) (Ok (b, bytes)) next) (Ok x) e) [
      | inl h ↦ absurd (cc h.1)
      | inr h ↦ elim (chosen (ltb b 128) (Ok (b, bytes)) next (Ok x) h.1) [
        | inl g ↦
            let nz : b ≡ 0 → ⊥ = eqb-false b 0 h.0 in
            let small : b < 128 = ltb-true b 128 g.0 in
            let wide : 16 ≤ later_limit more = limit_least more in
            subst (λ (y : ℕ × List ℕ). (front : List ℕ) × (b ∷ bytes ≡ front ++ y.1) × IsGroups front y.0 × (0 < y.0) × (y.0 < later_limit (suc more))) (ok_is (b, bytes) x g.1) (b ∷ [], refl, (small, refl), omega arith, omega arith)
        | inr g ↦
            let a = bind_ok (later_at more bytes) (λ high. Ok (b - 128 + 128 * high.0, high.1)) x g.1 in
            let t = later_takes more bytes a.0 (IsBytes-rest b bytes fits) a.1 in
            let large : 128 ≤ b = ltb-false b 128 g.0 in
            let byte : b < 256 = fits 0 in
            subst (λ (y : ℕ × List ℕ). (front : List ℕ) × (b ∷ bytes ≡ front ++ y.1) × IsGroups front y.0 × (0 < y.0) × (y.0 < later_limit (suc more))) (ok_is (b - 128 + 128 * a.0.0, a.0.1) x a.2)
            (b ∷ t.0, ap (λ (w : List ℕ). b ∷ w) t.1, groups_more b a.0.0 t.0 large byte t.3 t.2, omega (arith, t.3), omega (arith, t.4))
      ]
    ]

pub number_takes : (bytes : List ℕ) (x : ℕ × List ℕ) → IsBytes bytes → number_at bytes ≡ Ok x → (front : List ℕ) × (bytes ≡ front ++ x.1) × SpellsNumber x.0 front
unfolding number_at
number_takes [] x fits e = absurd cc
number_takes (b ∷ bytes) x fits e =
    let next : Read ℕ = later_at 3 bytes >>= λ high. Ok (b - 128 + 128 * high.0, high.1) in
    elim (chosen (ltb b 128) (Ok (b, bytes)) next (Ok x) e) [
      | inl g ↦
          let small : b < 128 = ltb-true b 128 g.0 in
          subst (λ (y : ℕ × List ℕ). (front : List ℕ) × (b ∷ bytes ≡ front ++ y.1) × SpellsNumber y.0 front) (ok_is (b, bytes) x g.1) (b ∷ [], refl, (omega arith, (small, refl)))
      | inr g ↦
          let a = bind_ok (later_at 3 bytes) (λ high. Ok (b - 128 + 128 * high.0, high.1)) x g.1 in
          let t = later_takes 3 bytes a.0 (IsBytes-rest b bytes fits) a.1 in
          let large : 128 ≤ b = ltb-false b 128 g.0 in
          let byte : b < 256 = fits 0 in
          subst (λ (y : ℕ × List ℕ). (front : List ℕ) × (b ∷ bytes ≡ front ++ y.1) × SpellsNumber y.0 front) (ok_is (b - 128 + 128 * a.0.0, a.0.1) x a.2)
          (b ∷ t.0, ap (λ (w : List ℕ). b ∷ w) t.1, (omega (arith, t.4), groups_more b a.0.0 t.0 large byte t.3 t.2))
    ]

-- a number has one spelling
pub groups_once : (a b : List ℕ) (n : ℕ) → IsGroups a n → IsGroups b n → a ≡ b
groups_once [] b n p q = absurd p
groups_once a [] n p q = absurd q
groups_once (x ∷ []) (y ∷ []) n p q = let e : x ≡ y = omega (arith, p.1, q.1) in cc
groups_once (x ∷ []) (y ∷ d ∷ ds) n p q = absurd (omega (arith, p.0, p.1, q.0, q.3, q.4))
groups_once (x ∷ c ∷ cs) (y ∷ []) n p q = absurd (omega (arith, q.0, q.1, p.0, p.3, p.4))
groups_once (x ∷ c ∷ cs) (y ∷ d ∷ ds) n p q =
    let e : x ≡ y = omega (arith, p.0, p.1, p.4, q.0, q.1, q.4) in
    let h : p.2 ≡ q.2 = omega (arith, p.0, p.1, p.4, q.0, q.1, q.4) in
    let t = groups_once (c ∷ cs) (d ∷ ds) p.2 p.5 (subst (λ (k : ℕ). IsGroups (d ∷ ds) k) (sym h) q.5) in
    cc

pub groups_on : (n : ℕ) (tail : List ℕ) → 128 ≤ n → IsGroups tail (n / 128) → IsGroups ((n % 128 + 128) ∷ tail) n
groups_on n [] h s = absurd s
groups_on n (c ∷ bs) h s = (omega arith, omega arith, n / 128, omega arith, omega arith, s)
