-- A wrong place lies within the bytes.
use Rattle.std.proofs.Common.{ℕ, zero, suc, ◌+◌, ◌-◌, ◌*◌, ◌≤◌, Bool, true, false, cond, eqb, ltb, List, [], ◌∷◌, length, take, drop, Ok, Err, arith}
use Rattle.std.proofs.lemmas.List.{length-drop}
use Rattle.std.specs.Str.{is_utf8}
use Rattle.ra_values.specs.declared.fault.Wrong.TheVariants.{Short, BadNumber, BadText}
use Rattle.ra_values.specs.Reading.{Read, wrong, ◌>>=◌}
use Rattle.ra_values.specs.Number.{last_at, later_at, number_at}
use Rattle.ra_values.specs.Tree.{Tree, text, buffer, vs_buffer, array, object, int, more}
use Rattle.ra_values.specs.ReadValue.{prefixed_at, text_at, items_at, content_at, value_at}

-- What is left is no longer than what was there, at a value and at a fault.
abbrev pub Within : {A : Type 0} → ℕ → Read A → Type 0
Within n (Ok x) = length x.1 ≤ n
Within n (Err f) = f.left ≤ n

wider : {A : Type 0} (m n : ℕ) (r : Read A) → m ≤ n → Within m r → Within n r
wider m n (Ok x) le h = omega arith
wider m n (Err f) le h = omega arith

then : {A B : Type 0} (n : ℕ) (r : Read A) (f : A × List ℕ → Read B) → Within n r → ((x : A × List ℕ) → length x.1 ≤ n → Within n (f x)) → Within n (r >>= f)
then n (Ok x) f h g = g x h
then n (Err e) f h g = h

both : {A : Type 0} (n : ℕ) (b : Bool) (x y : Read A) → Within n x → Within n y → Within n (cond b x y)
both n true x y p q = p
both n false x y p q = q

later_within : (m : ℕ) (bytes : List ℕ) → Within (length bytes) (later_at m bytes)
unfolding later_at
later_within m [] = omega arith
later_within zero (b ∷ bytes) = both (suc (length bytes)) (eqb b 0) (wrong BadNumber (b ∷ bytes)) (last_at b (b ∷ bytes) bytes) (omega arith) (both (suc (length bytes)) (ltb 15 b) (wrong BadNumber (b ∷ bytes)) (Ok (b, bytes)) (omega arith) (omega arith))
later_within (suc m) (b ∷ bytes) =
    let next : Read ℕ = later_at m bytes >>= λ high. Ok (b - 128 + 128 * high.0, high.1) in
    both (suc (length bytes)) (eqb b 0) (wrong BadNumber (b ∷ bytes)) (cond (ltb b 128) (Ok (b, bytes)) next) (omega arith)
    (both (suc (length bytes)) (ltb b 128) (Ok (b, bytes)) next (omega arith)
    (then (suc (length bytes)) (later_at m bytes) (λ high. Ok (b - 128 + 128 * high.0, high.1)) (wider (length bytes) (suc (length bytes)) (later_at m bytes) (omega arith) (later_within m bytes)) (λ x h. h)))

number_within : (bytes : List ℕ) → Within (length bytes) (number_at bytes)
unfolding number_at
number_within [] = omega arith
number_within (b ∷ bytes) =
    let next : Read ℕ = later_at 3 bytes >>= λ high. Ok (b - 128 + 128 * high.0, high.1) in
    both (suc (length bytes)) (ltb b 128) (Ok (b, bytes)) next (omega arith)
    (then (suc (length bytes)) (later_at 3 bytes) (λ high. Ok (b - 128 + 128 * high.0, high.1)) (wider (length bytes) (suc (length bytes)) (later_at 3 bytes) (omega arith) (later_within 3 bytes)) (λ x h. h))

prefixed_within : (bytes : List ℕ) → Within (length bytes) (prefixed_at bytes)
unfolding prefixed_at
prefixed_within bytes = then (length bytes) (number_at bytes) (λ n. cond (ltb (length n.1) n.0) (wrong Short []) (Ok (take n.0 n.1, drop n.0 n.1))) (number_within bytes)
    (λ n h. both (length bytes) (ltb (length n.1) n.0) (wrong Short []) (Ok (take n.0 n.1, drop n.0 n.1)) (omega arith) (omega (arith, length-drop n.0 n.1)))

text_within : (bytes : List ℕ) → Within (length bytes) (text_at bytes)
unfolding text_at
text_within bytes = then (length bytes) (number_at bytes) (λ n. cond (ltb (length n.1) n.0) (wrong Short []) (cond (is_utf8 (take n.0 n.1)) (Ok (take n.0 n.1, drop n.0 n.1)) (wrong BadText n.1))) (number_within bytes)
    (λ n h. both (length bytes) (ltb (length n.1) n.0) (wrong Short []) (cond (is_utf8 (take n.0 n.1)) (Ok (take n.0 n.1, drop n.0 n.1)) (wrong BadText n.1)) (omega arith)
    (both (length bytes) (is_utf8 (take n.0 n.1)) (Ok (take n.0 n.1, drop n.0 n.1)) (wrong BadText n.1) (omega (arith, length-drop n.0 n.1)) h))

items_within : (one : List ℕ → Read Tree) → ((b : List ℕ) → Within (length b) (one b)) → (n : ℕ) (bytes : List ℕ) → Within (length bytes) (items_at one n bytes)
unfolding items_at
items_within one h zero bytes = omega arith
items_within one h (suc n) bytes = then (length bytes) (one bytes) (λ first. items_at one n first.1 >>= λ others. Ok (more first.0 others.0, others.1)) (h bytes)
    (λ first le. then (length bytes) (items_at one n first.1) (λ others. Ok (more first.0 others.0, others.1)) (wider (length first.1) (length bytes) (items_at one n first.1) le (items_within one h n first.1)) (λ x k. k))

up : {A B : Type 0} (bytes : List ℕ) (r : Read A) (f : A × List ℕ → Read B) → Within (length bytes) r → ((x : A × List ℕ) → length x.1 ≤ suc (length bytes) → Within (suc (length bytes)) (f x)) → Within (suc (length bytes)) (r >>= f)
up bytes r f h g = then (suc (length bytes)) r f (wider (length bytes) (suc (length bytes)) r (omega arith) h) g

pub value_within : (left : ℕ) (bytes : List ℕ) → Within (length bytes) (value_at left bytes)
unfolding value_at content_at
value_within left [] = omega arith
value_within zero (tag ∷ bytes) = omega arith
value_within (suc left) (zero ∷ bytes) = omega arith
value_within (suc left) (suc zero ∷ bytes) = up bytes (text_at bytes) (λ x. Ok (text x.0, x.1)) (text_within bytes) (λ x h. h)
value_within (suc left) (suc (suc zero) ∷ bytes) = up bytes (prefixed_at bytes) (λ x. Ok (buffer x.0, x.1)) (prefixed_within bytes) (λ x h. h)
value_within (suc left) (suc (suc (suc zero)) ∷ bytes) = up bytes (prefixed_at bytes) (λ x. Ok (vs_buffer x.0, x.1)) (prefixed_within bytes) (λ x h. h)
value_within (suc left) (suc (suc (suc (suc zero))) ∷ bytes) = up bytes (number_at bytes) (λ n. items_at (value_at left) n.0 n.1 >>= λ x. Ok (array x.0, x.1)) (number_within bytes)
    (λ n h. then (suc (length bytes)) (items_at (value_at left) n.0 n.1) (λ x. Ok (array x.0, x.1)) (wider (length n.1) (suc (length bytes)) (items_at (value_at left) n.0 n.1) h (items_within (value_at left) (value_within left) n.0 n.1)) (λ x k. k))
value_within (suc left) (suc (suc (suc (suc (suc zero)))) ∷ bytes) = up bytes (text_at bytes) (λ x. Ok (object x.0, x.1)) (text_within bytes) (λ x h. h)
value_within (suc left) (suc (suc (suc (suc (suc (suc zero))))) ∷ bytes) = up bytes (number_at bytes) (λ n. Ok (int n.0, n.1)) (number_within bytes) (λ x h. h)
value_within (suc left) (suc (suc (suc (suc (suc (suc (suc tag)))))) ∷ bytes) = omega arith
