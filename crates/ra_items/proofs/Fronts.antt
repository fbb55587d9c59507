-- What is answered to the fronts of bytes that begin with a head: none ends in a front that is too short, and in any other the same
-- one does.
use Rattle.std.proofs.Common.{◌≡◌, ℕ, ◌+◌, ◌<◌, ◌≤◌, inl, inr, List, length, take, Option, None, Result, Ok, Err, cond, nat_lt, arith, sym, ap, subst, ◌∙◌, length-take}
use Rattle.std.proofs.Common.{get_or-take}
use Rattle.std.proofs.lemmas.Bool.{cases_lt, cond-true, cond-false, lt-ltb, le-ltb}
use Rattle.std.proofs.lemmas.List.{take-take}
use Rattle.memchr.specs.Find.{OccursAt}
use Rattle.ra_upgrade.specs.Ends.{max_head, empty_line, EndsAt, NeverEnds}
use Rattle.ra_upgrade.specs.Reading.{IsOpen, IsBad, IsRead}

-- ---- where an end of a head occurs

occurs_whole : (n : ℕ) (text : List ℕ) (k : ℕ) → OccursAt (take n text) empty_line k → (k + 4 ≤ n) × OccursAt text empty_line k
occurs_whole n text k occurs =
    let low : k + 4 ≤ n = omega (arith, occurs.fits, length-take n text) in (
      low,
      record {
        fits = omega (arith, occurs.fits, length-take n text);
        reads = λ j lt. let inside : k + j < n = omega (arith, low, lt) in sym (get_or-take n text (k + j) 0 inside) ∙ occurs.reads j lt;
      },
    )

occurs_front : (n : ℕ) (text : List ℕ) (k : ℕ) → k + 4 ≤ n → OccursAt text empty_line k → OccursAt (take n text) empty_line k
occurs_front n text k low occurs = record {
  fits = omega (arith, occurs.fits, length-take n text);
  reads = λ j lt. let inside : k + j < n = omega (arith, low, lt) in get_or-take n text (k + j) 0 inside ∙ occurs.reads j lt;
}

never_front : (text : List ℕ) (n : ℕ) → NeverEnds text → NeverEnds (take n text)
never_front text n never = λ place fits occurs. never place fits (occurs_whole n text place occurs).1

never_before : (text : List ℕ) (end n : ℕ) → EndsAt text end → n < end → NeverEnds (take n text)
never_before text end n ends before = λ place fits occurs.
    let out = occurs_whole n text place occurs in
    let earlier : place < ends.place = omega (arith, out.0, ends.n_is, before) in
    ends.first.0.before place (omega arith) earlier out.1

ends_front : (text : List ℕ) (end n : ℕ) → EndsAt text end → end ≤ n → EndsAt (take n text) end
ends_front text end n ends there = record {
  place = ends.place;
  first = (
    record {
      low = omega arith;
      high = omega (arith, length-take n text, ends.first.1.fits, ends.n_is, there);
      before = λ k least lt occurs. ends.first.0.before k least lt (occurs_whole n text k occurs).1;
    },
    occurs_front n text ends.place (omega (arith, ends.n_is, there)) ends.first.1,
  );
  n_is = ends.n_is;
  most = ends.most;
}

-- ---- what is answered to a front

-- one of two answers, by which of two numbers is less
pub by_size : {X : Type 0} (P : X → Type 0) (a b : ℕ) (x y : X) → (a < b → P x) → (b ≤ a → P y) → P (cond (nat_lt a b) x y)
by_size P a b x y below above = elim (cases_lt a b) [
  | inl lt ↦ subst P (sym (cond-true _ _ _ (lt-ltb a b lt))) (below lt)
  | inr ge ↦ subst P (sym (cond-false _ _ _ (le-ltb a b ge))) (above ge)
]

-- where none ends, it is open until it is too long
pub open_front : {A E : Type 0} (too_long : E) (text : List ℕ) (n : ℕ) → NeverEnds text → n ≤ length text
    → IsOpen {A = A} too_long (take n text) (cond (nat_lt n max_head) (Ok None) (Err too_long))
open_front {A} {E} too_long text n never within =
    let size : length (take n text) ≡ n = omega (arith, length-take n text) in
    record {
      never = never_front text n never;
      is = ap (λ (k : ℕ). let r : Result (Option A) E = cond (nat_lt k max_head) (Ok None) (Err too_long) in r) (sym size);
    }

-- before its end it is open
pub open_before : {A E : Type 0} (too_long : E) (text : List ℕ) (end n : ℕ) → EndsAt text end → n < end → IsOpen {A = A} too_long (take n text) (Ok None)
open_before too_long text end n ends before =
    let short : length (take n text) < max_head = omega (arith, length-take n text, ends.most, before) in
    record { never = never_before text end n ends before; is = sym (cond-true _ _ _ (lt-ltb (length (take n text)) max_head short)) }

-- the bytes of the head are those of the whole
front_of : (text : List ℕ) (end n : ℕ) → end ≤ n → take end text ≡ take end (take n text)
front_of text end n there = sym (take-take end n text there)

-- and from its end on the answer stays
pub bad_front : {H A E : Type 0} (form : List ℕ → H → Type 0) (bad : E) (text : List ℕ) (n : ℕ) (r : Result (Option A) E) (x : IsBad form bad text r)
    → x.n ≤ n → IsBad form bad (take n text) r
bad_front form bad text n r x there = record {
  n = x.n;
  ends = ends_front text x.n n x.ends there;
  none = λ head. subst (λ (t : List ℕ). ¬ (form t head)) (front_of text x.n n there) (x.none head);
  is = x.is;
}

pub read_front : {H A E : Type 0} (form : List ℕ → H → Type 0) (says : ℕ → H → Result (Option A) E) (text : List ℕ) (n : ℕ) (r : Result (Option A) E)
    (x : IsRead form says text r) → x.n ≤ n → IsRead form says (take n text) r
read_front form says text n r x there = record {
  n = x.n;
  ends = ends_front text x.n n x.ends there;
  head = x.head;
  has_form = subst (λ (t : List ℕ). form t x.head) (front_of text x.n n there) x.has_form;
  is = x.is;
}
