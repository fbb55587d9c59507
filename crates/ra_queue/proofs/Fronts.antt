-- The front of a queue, and its parts.
use Rattle.std.proofs.Common.{◌≡◌, ℕ, ◌+◌, ◌-◌, ◌<◌, min, true, false, List, [], ◌∷◌, ◌++◌, length, take, drop, refl, ap, sym, ◌∙◌, arith, inl, inr}
use Rattle.std.proofs.lemmas.Bool.{cond-true, cond-false, cases_lt}
use Rattle.std.proofs.lemmas.List.{drop-append-le, take_rest}
use Rattle.std.proofs.Math.Seq.{drop-length, drop-append-add}
use Rattle.ra_model.specs.declared.session.Entry.{Entry}
use Rattle.ra_model.specs.EndpointStates.{behind}
use Rattle.ra_queue.specs.Queues.{leads}

-- the first message is acknowledged
pub behind_rest : (upto : ℕ) (entries rest : List Entry) → leads upto entries ≡ true → rest ≡ drop 1 entries → behind upto rest ≡ behind upto entries
behind_rest upto [] rest front is = cc
behind_rest upto (entry ∷ entries) rest front is = ap (λ (es : List Entry). behind upto es) is ∙ sym (cond-true _ _ _ front)

-- the first message is not acknowledged
pub behind_none : (upto : ℕ) (entries : List Entry) → leads upto entries ≡ false → entries ≡ behind upto entries
behind_none upto [] front = refl
behind_none upto (entry ∷ entries) front = sym (cond-false _ _ _ front)

pub leads_some : (upto : ℕ) (entries : List Entry) → leads upto entries ≡ true → 0 < length entries
leads_some upto [] front = cc
leads_some upto (entry ∷ entries) front = omega arith

-- a list of two parts, from a place on
parts : (n k j : ℕ) (xs ys : List Entry) → k ≡ min n (length xs) → j ≡ n - k → drop k xs ++ drop j ys ≡ drop n (xs ++ ys)
parts n k j xs ys is_k is_j =
    elim (cases_lt (length xs) n) [
      | inl more ↦
          let all : k ≡ length xs = omega arith in
          let sum : length xs + j ≡ n = omega arith in
          ap (λ (i : ℕ). drop i xs ++ drop j ys) all ∙ ap (λ (front : List Entry). front ++ drop j ys) (drop-length xs)
          ∙ sym (drop-append-add xs ys j) ∙ ap (λ (i : ℕ). drop i (xs ++ ys)) sum
      | inr less ↦
          let all : k ≡ n = omega arith in
          let none : j ≡ 0 = omega arith in
          ap (λ (i : ℕ). drop i xs ++ drop j ys) all ∙ ap (λ (i : ℕ). drop n xs ++ drop i ys) none ∙ sym (drop-append-le n xs ys less)
    ]

pub parts_from : (n k : ℕ) (xs ys zs : List Entry) → k ≡ min n (length xs) → xs ++ ys ≡ zs
    → take (length xs - k) (drop k xs) ++ take (length ys - (n - k)) (drop (n - k) ys) ≡ drop n zs
parts_from n k xs ys zs is both =
    ap (λ (front : List Entry). front ++ take (length ys - (n - k)) (drop (n - k) ys)) (take_rest xs k)
    ∙ ap (λ (back : List Entry). drop k xs ++ back) (take_rest ys (n - k))
    ∙ parts n k (n - k) xs ys is refl
    ∙ ap (λ (es : List Entry). drop n es) both
