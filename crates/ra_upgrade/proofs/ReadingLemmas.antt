-- Of the three rules of a reading just one applies, and with one answer; more bytes do not change an answer that is not open.
use Rattle.std.proofs.Common.{◌≡◌, ℕ, ◌+◌, ◌<◌, ◌≤◌, ◌⊎◌, inl, inr, List, ◌++◌, length, take, Option, None, Result, Ok, Err, cond, nat_lt, arith, sym, ap, subst, ◌∙◌, length-append}
use Rattle.std.proofs.lemmas.Bool.{cases_lt, cond-true, cond-false, lt-ltb, le-ltb}
use Rattle.std.proofs.lemmas.List.{get_or_append_left, take-append-le}
use Rattle.memchr.specs.Find.{OccursAt}
use Rattle.ra_upgrade.specs.Ends.{max_head, empty_line, EndsAt, NeverEnds}
use Rattle.ra_upgrade.specs.Reading.{IsOpen, IsBad, IsRead}

pub one_end : (bytes : List ℕ) (n m : ℕ) → EndsAt bytes n → EndsAt bytes m → n ≡ m
one_end bytes n m x y =
    let low : ¬ (x.place < y.place) = λ lt. y.first.0.before x.place (omega arith) lt x.first.1 in
    let high : ¬ (y.place < x.place) = λ lt. x.first.0.before y.place (omega arith) lt y.first.1 in
    omega (arith, low, high, x.n_is, y.n_is)

pub open_ends : (bytes : List ℕ) (n : ℕ) → NeverEnds bytes → EndsAt bytes n → ⊥
open_ends bytes n never x = never x.place (omega (arith, x.n_is, x.most)) x.first.1

-- one rule, and one answer by it
pub one_reading : {H A E : Type 0} (form : List ℕ → H → Type 0) (says : ℕ → H → Result (Option A) E) (too_long bad : E)
    → ((text : List ℕ) (h k : H) → form text h → form text k → h ≡ k)
    → (bytes : List ℕ) (r q : Result (Option A) E)
    → IsOpen too_long bytes r ⊎ (IsBad form bad bytes r ⊎ IsRead form says bytes r)
    → IsOpen too_long bytes q ⊎ (IsBad form bad bytes q ⊎ IsRead form says bytes q)
    → r ≡ q
one_reading form says too_long bad one bytes r q (inl a) (inl b) = a.is ∙ sym b.is
one_reading form says too_long bad one bytes r q (inl a) (inr (inl b)) = absurd (open_ends bytes b.n a.never b.ends)
one_reading form says too_long bad one bytes r q (inl a) (inr (inr b)) = absurd (open_ends bytes b.n a.never b.ends)
one_reading form says too_long bad one bytes r q (inr (inl a)) (inl b) = absurd (open_ends bytes a.n b.never a.ends)
one_reading form says too_long bad one bytes r q (inr (inl a)) (inr (inl b)) = a.is ∙ sym b.is
one_reading form says too_long bad one bytes r q (inr (inl a)) (inr (inr b)) =
    let n_is = one_end bytes a.n b.n a.ends b.ends in
    let P : ℕ → Type 0 = λ n. form (take n bytes) b.head in
    absurd (a.none b.head (subst P (sym n_is) b.has_form))
one_reading form says too_long bad one bytes r q (inr (inr a)) (inl b) = absurd (open_ends bytes a.n b.never a.ends)
one_reading form says too_long bad one bytes r q (inr (inr a)) (inr (inl b)) =
    let n_is = one_end bytes b.n a.n b.ends a.ends in
    let P : ℕ → Type 0 = λ n. form (take n bytes) a.head in
    absurd (b.none a.head (subst P (sym n_is) a.has_form))
one_reading form says too_long bad one bytes r q (inr (inr a)) (inr (inr b)) =
    let n_is = one_end bytes a.n b.n a.ends b.ends in
    let P : ℕ → Type 0 = λ n. form (take n bytes) a.head in
    let same = one (take b.n bytes) a.head b.head (subst P n_is a.has_form) b.has_form in
    a.is ∙ ap (λ n. says n a.head) n_is ∙ ap (λ h. says b.n h) same ∙ sym b.is

-- ---- more bytes

-- an end that is seen stays where it is
occurs_less : (bytes more : List ℕ) (place : ℕ) → place + 4 ≤ length bytes → OccursAt (bytes ++ more) empty_line place → OccursAt bytes empty_line place
occurs_less bytes more place fits occurs = record {
  fits = fits;
  reads = λ j lt. let inside : place + j < length bytes = omega (arith, fits, lt) in sym (get_or_append_left bytes more 0 (place + j) inside) ∙ occurs.reads j lt;
}

occurs_more : (bytes more : List ℕ) (place : ℕ) → OccursAt bytes empty_line place → OccursAt (bytes ++ more) empty_line place
occurs_more bytes more place occurs = record {
  fits = omega (arith, occurs.fits, length-append bytes more);
  reads = λ j lt. let inside : place + j < length bytes = omega (arith, occurs.fits, lt) in get_or_append_left bytes more 0 (place + j) inside ∙ occurs.reads j lt;
}

ends_more : (bytes more : List ℕ) (n : ℕ) → EndsAt bytes n → EndsAt (bytes ++ more) n
ends_more bytes more n x = record {
  place = x.place;
  first = (
    record {
      low = omega arith;
      high = omega (arith, x.first.0.high, length-append bytes more);
      before = λ k least lt occurs. x.first.0.before k least lt (occurs_less bytes more k (omega (arith, lt, x.first.1.fits)) occurs);
    },
    occurs_more bytes more x.place x.first.1,
  );
  n_is = x.n_is;
  most = x.most;
}

same_front : (bytes more : List ℕ) (n : ℕ) → EndsAt bytes n → take n bytes ≡ take n (bytes ++ more)
same_front bytes more n x = sym (take-append-le n bytes more (omega (arith, x.n_is, x.first.1.fits)))

-- bytes that no head ends in, and as many as a head may have
full : {X : Type 0} (a b : ℕ) (x y r : X) → r ≡ cond (nat_lt a b) x y → ¬ (r ≡ x) → b ≤ a
full a b x y r is other = elim (cases_lt a b) [
  | inl below ↦ absurd (other (is ∙ cond-true _ _ _ (lt-ltb a b below)))
  | inr above ↦ above
]

past_most : {X : Type 0} (a b : ℕ) (x y : X) → b ≤ a → cond (nat_lt a b) x y ≡ y
past_most a b x y above = cond-false _ _ _ (le-ltb a b above)

-- an answer that is not open stands, whatever bytes follow
pub reading_more : {H A E : Type 0} (form : List ℕ → H → Type 0) (says : ℕ → H → Result (Option A) E) (too_long bad : E)
    → (bytes more : List ℕ) (r : Result (Option A) E)
    → IsOpen too_long bytes r ⊎ (IsBad form bad bytes r ⊎ IsRead form says bytes r)
    → ¬ (r ≡ Ok None)
    → IsOpen too_long (bytes ++ more) r ⊎ (IsBad form bad (bytes ++ more) r ⊎ IsRead form says (bytes ++ more) r)
reading_more form says too_long bad bytes more r (inl a) other =
    let most : max_head ≤ length bytes = full (length bytes) max_head (Ok None) (Err too_long) r a.is other in
    let still : max_head ≤ length (bytes ++ more) = omega (arith, most, length-append bytes more) in
    inl (record {
      never = λ place fits occurs. a.never place fits (occurs_less bytes more place (omega (arith, fits, most)) occurs);
      is = a.is ∙ past_most (length bytes) max_head (Ok None) (Err too_long) most ∙ sym (past_most (length (bytes ++ more)) max_head (Ok None) (Err too_long) still);
    })
reading_more form says too_long bad bytes more r (inr (inl a)) other =
    inr (inl (record {
      n = a.n;
      ends = ends_more bytes more a.n a.ends;
      none = λ head. subst (λ (t : List ℕ). ¬ (form t head)) (same_front bytes more a.n a.ends) (a.none head);
      is = a.is;
    }))
reading_more form says too_long bad bytes more r (inr (inr a)) other =
    inr (inr (record {
      n = a.n;
      ends = ends_more bytes more a.n a.ends;
      head = a.head;
      has_form = subst (λ (t : List ℕ). form t a.head) (same_front bytes more a.n a.ends) a.has_form;
      is = a.is;
    }))
