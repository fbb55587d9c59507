-- What is read is spelled so.
use Rattle.std.proofs.Common.{◌≡◌, ℕ, zero, suc, ◌≤◌, cond, ltb, List, [], ◌∷◌, ◌++◌, length, take, drop, Ok, IsUtf8, refl, sym, ap, subst, ◌∙◌, append_assoc, arith, inl, inr}
use Rattle.std.proofs.lemmas.Bool.{ltb-false}
use Rattle.std.proofs.lemmas.List.{take-append-drop, length-take}
use Rattle.std.specs.Str.{is_utf8}
use Rattle.ra_values.specs.declared.fault.Wrong.TheVariants.{Short, BadText}
use Rattle.ra_values.specs.Reading.{Read, wrong, ◌>>=◌}
use Rattle.ra_values.specs.Number.{SpellsNumber, number_at}
use Rattle.ra_values.specs.Tree.{Tree, undefined, text, buffer, vs_buffer, array, object, int, Trees, none, more, count}
use Rattle.ra_values.specs.Spelling.{SpellsPrefixed, Spells, SpellsAll}
use Rattle.ra_values.specs.ReadValue.{prefixed_at, text_at, items_at, content_at, value_at}
use Rattle.ra_values.proofs.Numbers.{bind_ok, ok_is, chosen, IsBytes, IsBytes-rest, IsBytes-back, number_takes}
use Rattle.ra_values.proofs.Utf8.{is_text}

-- a length and that many bytes were taken off the front
abbrev TakesPrefixed : List ℕ → List ℕ × List ℕ → Type 0
TakesPrefixed bytes x = (len : List ℕ) × (bytes ≡ (len ++ x.0) ++ x.1) × SpellsNumber (length x.0) len

prefixed_cut : (bytes : List ℕ) (n : ℕ × List ℕ) → IsBytes bytes → number_at bytes ≡ Ok n → n.0 ≤ length n.1 → TakesPrefixed bytes (take n.0 n.1, drop n.0 n.1)
prefixed_cut bytes n fits e long =
    let t = number_takes bytes n fits e in
    let len : length (take n.0 n.1) ≡ n.0 = omega (arith, length-take n.0 n.1) in
    (t.0, t.1 ∙ ap (λ (w : List ℕ). t.0 ++ w) (sym (take-append-drop n.0 n.1)) ∙ sym (append_assoc t.0 (take n.0 n.1) (drop n.0 n.1)), subst (λ (k : ℕ). SpellsNumber k t.0) (sym len) t.2)

prefixed_takes : (bytes : List ℕ) (x : List ℕ × List ℕ) → IsBytes bytes → prefixed_at bytes ≡ Ok x → TakesPrefixed bytes x
unfolding prefixed_at
prefixed_takes bytes x fits e =
    let a = bind_ok (number_at bytes) (λ n. cond (ltb (length n.1) n.0) (wrong Short []) (Ok (take n.0 n.1, drop n.0 n.1))) x e in
    let n = a.0 in
    elim (chosen (ltb (length n.1) n.0) (wrong Short []) (Ok (take n.0 n.1, drop n.0 n.1)) (Ok x) a.2) [
      | inl h ↦ absurd (cc h.1)
      | inr h ↦ subst (TakesPrefixed bytes) (ok_is (take n.0 n.1, drop n.0 n.1) x h.1) (prefixed_cut bytes n fits a.1 (ltb-false _ _ h.0))
    ]

text_takes : (bytes : List ℕ) (x : List ℕ × List ℕ) → IsBytes bytes → text_at bytes ≡ Ok x → TakesPrefixed bytes x × IsUtf8 x.0
unfolding text_at
text_takes bytes x fits e =
    let a = bind_ok (number_at bytes) (λ n. cond (ltb (length n.1) n.0) (wrong Short []) (cond (is_utf8 (take n.0 n.1)) (Ok (take n.0 n.1, drop n.0 n.1)) (wrong BadText n.1))) x e in
    let n = a.0 in
    let done : Read (List ℕ) = Ok (take n.0 n.1, drop n.0 n.1) in
    elim (chosen (ltb (length n.1) n.0) (wrong Short []) (cond (is_utf8 (take n.0 n.1)) done (wrong BadText n.1)) (Ok x) a.2) [
      | inl h ↦ absurd (cc h.1)
      | inr h ↦ elim (chosen (is_utf8 (take n.0 n.1)) done (wrong BadText n.1) (Ok x) h.1) [
        | inl g ↦ subst (λ (y : List ℕ × List ℕ). TakesPrefixed bytes y × IsUtf8 y.0) (ok_is (take n.0 n.1, drop n.0 n.1) x g.1) (prefixed_cut bytes n fits a.1 (ltb-false _ _ h.0), is_text _ g.0)
        | inr g ↦ absurd (cc g.1)
      ]
    ]

-- a value was taken off the front
abbrev pub Takes : ℕ → List ℕ → Tree × List ℕ → Type 0
Takes left bytes x = (front : List ℕ) × (bytes ≡ front ++ x.1) × Spells left x.0 front

items_takes : (left n : ℕ) (bytes : List ℕ) (x : Trees × List ℕ) → ((b : List ℕ) (y : Tree × List ℕ) → IsBytes b → value_at left b ≡ Ok y → Takes left b y) → IsBytes bytes
    → items_at (value_at left) n bytes ≡ Ok x → (front : List ℕ) × (bytes ≡ front ++ x.1) × SpellsAll left x.0 front × (count x.0 ≡ n)
unfolding items_at
items_takes left zero bytes x one fits e =
    subst (λ (y : Trees × List ℕ). (front : List ℕ) × (bytes ≡ front ++ y.1) × SpellsAll left y.0 front × (count y.0 ≡ 0)) (ok_is (none, bytes) x e) ([], refl, refl, refl)
items_takes left (suc n) bytes x one fits e =
    let a = bind_ok (value_at left bytes) (λ first. items_at (value_at left) n first.1 >>= λ others. Ok (more first.0 others.0, others.1)) x e in
    let b = bind_ok (items_at (value_at left) n a.0.1) (λ others. Ok (more a.0.0 others.0, others.1)) x a.2 in
    let t = one bytes a.0 fits a.1 in
    let u = items_takes left n a.0.1 b.0 one (IsBytes-back t.0 a.0.1 (subst IsBytes t.1 fits)) b.1 in
    let made : Trees × List ℕ = (more a.0.0 b.0.0, b.0.1) in
    subst (λ (y : Trees × List ℕ). (front : List ℕ) × (bytes ≡ front ++ y.1) × SpellsAll left y.0 front × (count y.0 ≡ suc n)) (ok_is made x b.2)
    (t.0 ++ u.0, t.1 ∙ ap (λ (w : List ℕ). t.0 ++ w) u.1 ∙ sym (append_assoc t.0 u.0 b.0.1), (t.0, u.0, t.2, u.2, refl), ap suc u.3)

prefixed_value : (left tag : ℕ) (make : List ℕ → Tree) (bytes : List ℕ) (y : List ℕ × List ℕ) (x : Tree × List ℕ) → (make y.0, y.1) ≡ x → TakesPrefixed bytes y
    → ((b : List ℕ) → SpellsPrefixed tag y.0 b → Spells left (make y.0) b) → Takes left (tag ∷ bytes) x
prefixed_value left tag make bytes y x e t up =
    subst (λ (z : Tree × List ℕ). Takes left (tag ∷ bytes) z) e (tag ∷ (t.0 ++ y.0), ap (λ (w : List ℕ). tag ∷ w) t.1, up (tag ∷ (t.0 ++ y.0)) (t.0, t.2, refl))

pub value_takes : (left : ℕ) (bytes : List ℕ) (x : Tree × List ℕ) → IsBytes bytes → value_at left bytes ≡ Ok x → Takes left bytes x
unfolding value_at content_at
value_takes zero [] x fits e = absurd cc
value_takes zero (tag ∷ bytes) x fits e = absurd cc
value_takes (suc left) [] x fits e = absurd cc
value_takes (suc left) (zero ∷ bytes) x fits e = subst (λ (z : Tree × List ℕ). Takes (suc left) (0 ∷ bytes) z) (ok_is (undefined, bytes) x e) (0 ∷ [], refl, refl)
value_takes (suc left) (suc zero ∷ bytes) x fits e =
    let a = bind_ok (text_at bytes) (λ y. Ok (text y.0, y.1)) x e in
    let t = text_takes bytes a.0 (IsBytes-rest 1 bytes fits) a.1 in
    prefixed_value (suc left) 1 text bytes a.0 x (ok_is (text a.0.0, a.0.1) x a.2) t.0 (λ b s. (t.1, s))
value_takes (suc left) (suc (suc zero) ∷ bytes) x fits e =
    let a = bind_ok (prefixed_at bytes) (λ y. Ok (buffer y.0, y.1)) x e in
    prefixed_value (suc left) 2 buffer bytes a.0 x (ok_is (buffer a.0.0, a.0.1) x a.2) (prefixed_takes bytes a.0 (IsBytes-rest 2 bytes fits) a.1) (λ b s. s)
value_takes (suc left) (suc (suc (suc zero)) ∷ bytes) x fits e =
    let a = bind_ok (prefixed_at bytes) (λ y. Ok (vs_buffer y.0, y.1)) x e in
    prefixed_value (suc left) 3 vs_buffer bytes a.0 x (ok_is (vs_buffer a.0.0, a.0.1) x a.2) (prefixed_takes bytes a.0 (IsBytes-rest 3 bytes fits) a.1) (λ b s. s)
value_takes (suc left) (suc (suc (suc (suc zero))) ∷ bytes) x fits e =
    let a = bind_ok (number_at bytes) (λ n. items_at (value_at left) n.0 n.1 >>= λ y. Ok (array y.0, y.1)) x e in
    let b = bind_ok (items_at (value_at left) a.0.0 a.0.1) (λ y. Ok (array y.0, y.1)) x a.2 in
    let t = number_takes bytes a.0 (IsBytes-rest 4 bytes fits) a.1 in
    let u = items_takes left a.0.0 a.0.1 b.0 (value_takes left) (IsBytes-back t.0 a.0.1 (subst IsBytes t.1 (IsBytes-rest 4 bytes fits))) b.1 in
    subst (λ (z : Tree × List ℕ). Takes (suc left) (4 ∷ bytes) z) (ok_is (array b.0.0, b.0.1) x b.2)
    (4 ∷ (t.0 ++ u.0), ap (λ (w : List ℕ). 4 ∷ w) (t.1 ∙ ap (λ (w : List ℕ). t.0 ++ w) u.1 ∙ sym (append_assoc t.0 u.0 b.0.1)), (t.0, u.0, subst (λ (k : ℕ). SpellsNumber k t.0) (sym u.3) t.2, u.2, refl))
value_takes (suc left) (suc (suc (suc (suc (suc zero)))) ∷ bytes) x fits e =
    let a = bind_ok (text_at bytes) (λ y. Ok (object y.0, y.1)) x e in
    let t = text_takes bytes a.0 (IsBytes-rest 5 bytes fits) a.1 in
    prefixed_value (suc left) 5 object bytes a.0 x (ok_is (object a.0.0, a.0.1) x a.2) t.0 (λ b s. (t.1, s))
value_takes (suc left) (suc (suc (suc (suc (suc (suc zero))))) ∷ bytes) x fits e =
    let a = bind_ok (number_at bytes) (λ n. Ok (int n.0, n.1)) x e in
    let t = number_takes bytes a.0 (IsBytes-rest 6 bytes fits) a.1 in
    subst (λ (z : Tree × List ℕ). Takes (suc left) (6 ∷ bytes) z) (ok_is (int a.0.0, a.0.1) x a.2) (6 ∷ t.0, ap (λ (w : List ℕ). 6 ∷ w) t.1, (t.0, t.2, refl))
value_takes (suc left) (suc (suc (suc (suc (suc (suc (suc tag)))))) ∷ bytes) x fits e = absurd cc
