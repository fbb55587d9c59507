-- Where a head ends that is written as lines: behind its empty line and nowhere before, whatever follows.
use Rattle.std.proofs.Common.{◌≡◌, ◌≢◌, ℕ, ◌+◌, ◌-◌, ◌<◌, ◌≤◌, List, [], ◌∷◌, ◌++◌, length, take, min, get_or, Option, Some, None, Result, Ok, cond, nat_lt, arith, refl, sym, ap, subst, ◌∙◌, inl, inr, append_assoc, append-nil, length-append, length-take, All}
use Rattle.std.proofs.Common.{get_or-take}
use Rattle.std.proofs.lemmas.Bool.{cases_lt}
use Rattle.std.proofs.lemmas.Grind.{common_steps, flat_map-append}
use Rattle.std.proofs.lemmas.List.{get_or_append_left, get_or-append-add, take_at}
use Rattle.std.proofs.lemmas.List.Elements.{All-get_or, All-head, All-tail}
use Rattle.memchr.specs.Find.{OccursAt, FindsNeedle}
use Rattle.httparse.specs.Ascii.{crlf_bytes}
use Rattle.ra_upgrade.specs.AnswerTexts.{lines}
use Rattle.ra_upgrade.specs.Ends.{max_head, empty_line, EndsAt, NeverEnds}
use Rattle.ra_upgrade.specs.Reading.{IsOpen, IsRead}

-- a line that has bytes, and no CR among them
pub record IsLine (line : List ℕ) : Type 0 where
  pub some : 0 < length line
  pub no_return : All (λ b. b ≢ 13) line

-- ---- where the end of a head stands

past : (a b : List ℕ) (k : ℕ) → OccursAt (a ++ b) empty_line (length a + k) → OccursAt b empty_line k
past a b k occurs = record {
  fits = omega (arith, occurs.fits, length-append a b);
  reads = λ j lt.
      let same : length a + k + j ≡ length a + (k + j) = omega arith in
      sym (get_or-append-add a b (k + j) 0) ∙ ap (λ (i : ℕ). get_or (a ++ b) i 0) (sym same) ∙ occurs.reads j lt;
}

behind : (a b : List ℕ) (k : ℕ) → OccursAt b empty_line k → OccursAt (a ++ b) empty_line (length a + k)
behind a b k occurs = record {
  fits = omega (arith, occurs.fits, length-append a b);
  reads = λ j lt.
      let same : length a + k + j ≡ length a + (k + j) = omega arith in
      ap (λ (i : ℕ). get_or (a ++ b) i 0) same ∙ get_or-append-add a b (k + j) 0 ∙ occurs.reads j lt;
}

here : (more : List ℕ) → OccursAt (empty_line ++ more) empty_line 0
here more = record {
  fits = omega (arith, length-append empty_line more);
  reads = λ j lt.
      let none : 0 + j ≡ j = omega arith in
      ap (λ (i : ℕ). get_or (empty_line ++ more) i 0) none ∙ get_or_append_left empty_line more 0 j lt;
}

-- an end that begins in a line and its own end begins with the line's end, and CR follows that
in_line : (line rest : List ℕ) (k : ℕ) → All (λ b. b ≢ 13) line → OccursAt ((line ++ crlf_bytes) ++ rest) empty_line k
    → k < length line + 2 → (k ≡ length line) × (get_or rest 0 0 ≡ 13)
in_line line rest k none occurs below =
    let text : List ℕ = (line ++ crlf_bytes) ++ rest in
    let len : length (line ++ crlf_bytes) ≡ length line + 2 = length-append line crlf_bytes in
    let first : get_or text k 0 ≡ 13 =
    let same : k + 0 ≡ k = omega arith in
    ap (λ (i : ℕ). get_or text i 0) (sym same) ∙ occurs.reads 0 (omega arith) in
    let third : get_or text (k + 2) 0 ≡ 13 = occurs.reads 2 (omega arith) in
    let low : ¬ (k < length line) = λ lt.
    let inside : get_or text k 0 ≡ get_or line k 0 =
    get_or_append_left (line ++ crlf_bytes) rest 0 k (omega (arith, len)) ∙ get_or_append_left line crlf_bytes 0 k lt in
    All-get_or (λ b. b ≢ 13) line k 0 lt none (sym inside ∙ first) in
    let high : ¬ (k ≡ length line + 1) = λ is.
    let second : get_or text k 0 ≡ 10 =
    get_or_append_left (line ++ crlf_bytes) rest 0 k (omega (arith, len))
    ∙ ap (λ (i : ℕ). get_or (line ++ crlf_bytes) i 0) is ∙ get_or-append-add line crlf_bytes 1 0 in
    omega (arith, sym second ∙ first) in
    let at : k ≡ length line = omega (arith, low, high) in
    let next : k + 2 ≡ length (line ++ crlf_bytes) + 0 = omega (arith, len) in
    (at, sym (get_or-append-add (line ++ crlf_bytes) rest 0 0) ∙ ap (λ (i : ℕ). get_or text i 0) (sym next) ∙ third)

-- no end begins before the last line's own end
pub not_before : (ls : List (List ℕ)) (more : List ℕ) (k : ℕ) → All IsLine ls
    → OccursAt (lines ls ++ (crlf_bytes ++ more)) empty_line k → length (lines ls) ≤ k + 2
not_before [] more k all occurs = omega arith
not_before (line ∷ ls) more k all occurs =
    let rest : List ℕ = lines ls ++ (crlf_bytes ++ more) in
    let len : length (line ++ crlf_bytes) ≡ length line + 2 = length-append line crlf_bytes in
    let total : length (lines (line ∷ ls)) ≡ length line + 2 + length (lines ls) =
    length-append (line ++ crlf_bytes) (lines ls) ∙ ap (λ (n : ℕ). n + length (lines ls)) len in
    let first : IsLine line = All-head IsLine line ls all in
    let split : OccursAt ((line ++ crlf_bytes) ++ rest) empty_line k =
    subst (λ (t : List ℕ). OccursAt t empty_line k) (append_assoc (line ++ crlf_bytes) (lines ls) (crlf_bytes ++ more)) occurs in
    elim (cases_lt k (length line + 2)) [
      | inl below ↦ last line ls more k first (All-tail IsLine line ls all) total (in_line line rest k first.no_return split below)
      | inr above ↦
          let k_is : k ≡ length (line ++ crlf_bytes) + (k - (length line + 2)) = omega (arith, len) in
          let later = not_before ls more (k - (length line + 2)) (All-tail IsLine line ls all)
          (past (line ++ crlf_bytes) rest (k - (length line + 2)) (subst (OccursAt ((line ++ crlf_bytes) ++ rest) empty_line) k_is split)) in
          omega (arith, later, total)
    ]
  where
    last : (line : List ℕ) (ls : List (List ℕ)) (more : List ℕ) (k : ℕ) → IsLine line → All IsLine ls
        → length (lines (line ∷ ls)) ≡ length line + 2 + length (lines ls)
        → (k ≡ length line) × (get_or (lines ls ++ (crlf_bytes ++ more)) 0 0 ≡ 13) → length (lines (line ∷ ls)) ≤ k + 2
    last line [] more k is all total at = omega (arith, total, at.0)
    last line (next ∷ ls) more k is all total at =
        let good : IsLine next = All-head IsLine next ls all in
        let text : List ℕ = ((next ++ crlf_bytes) ++ lines ls) ++ (crlf_bytes ++ more) in
        let inside : get_or text 0 0 ≡ get_or next 0 0 =
        get_or_append_left ((next ++ crlf_bytes) ++ lines ls) (crlf_bytes ++ more) 0 0 (omega (arith, good.some, length-append (next ++ crlf_bytes) (lines ls), length-append next crlf_bytes))
        ∙ get_or_append_left (next ++ crlf_bytes) (lines ls) 0 0 (omega (arith, good.some, length-append next crlf_bytes))
        ∙ get_or_append_left next crlf_bytes 0 0 good.some in
        absurd (All-get_or (λ b. b ≢ 13) next 0 0 good.some good.no_return (sym inside ∙ at.1))

-- the end stands at the end of the last line
pub at_last : (ls : List (List ℕ)) (more : List ℕ) (k : ℕ) → 0 < length ls → k + 2 ≡ length (lines ls)
    → OccursAt (lines ls ++ (crlf_bytes ++ more)) empty_line k
at_last [] more k some is = absurd (omega arith)
at_last (line ∷ []) more k some is =
    let k_is : length line + 0 ≡ k = omega (arith, is, length-append line crlf_bytes, length-append (line ++ crlf_bytes) []) in
    let text : (lines (line ∷ [])) ++ (crlf_bytes ++ more) ≡ line ++ (empty_line ++ more) = simp (append-nil, append_assoc) in
    subst (λ (t : List ℕ). OccursAt t empty_line k) (sym text)
    (subst (OccursAt (line ++ (empty_line ++ more)) empty_line) k_is (behind line (empty_line ++ more) 0 (here more)))
at_last (line ∷ next ∷ ls) more k some is =
    let rest : List ℕ = lines (next ∷ ls) ++ (crlf_bytes ++ more) in
    let len : length (line ++ crlf_bytes) ≡ length line + 2 = length-append line crlf_bytes in
    let total : length (lines (line ∷ next ∷ ls)) ≡ length line + 2 + length (lines (next ∷ ls)) =
    length-append (line ++ crlf_bytes) (lines (next ∷ ls)) ∙ ap (λ (n : ℕ). n + length (lines (next ∷ ls))) len in
    let two : 2 ≤ length (lines (next ∷ ls)) =
    omega (arith, length-append (next ++ crlf_bytes) (lines ls), length-append next crlf_bytes) in
    let k_is : length (line ++ crlf_bytes) + (length (lines (next ∷ ls)) - 2) ≡ k = omega (arith, len, total, two, is) in
    let later = at_last (next ∷ ls) more (length (lines (next ∷ ls)) - 2) (omega arith) (omega (arith, two)) in
    subst (λ (t : List ℕ). OccursAt t empty_line k) (sym (append_assoc (line ++ crlf_bytes) (lines (next ∷ ls)) (crlf_bytes ++ more)))
    (subst (OccursAt ((line ++ crlf_bytes) ++ rest) empty_line) k_is (behind (line ++ crlf_bytes) rest (length (lines (next ∷ ls)) - 2) later))

untaken : (n : ℕ) (text : List ℕ) (k : ℕ) → OccursAt (take n text) empty_line k → (k + 4 ≤ n) × OccursAt text empty_line k
untaken n text k occurs =
    let len = length-take n text in
    let low : k + 4 ≤ n = omega (arith, occurs.fits, len) in (
      low,
      record {
        fits = omega (arith, occurs.fits, len);
        reads = λ j lt. let inside : k + j < n = omega (arith, low, lt) in sym (get_or-take n text (k + j) 0 inside) ∙ occurs.reads j lt;
      },
    )

taken : (n : ℕ) (text : List ℕ) (k : ℕ) → k + 4 ≤ n → OccursAt text empty_line k → OccursAt (take n text) empty_line k
taken n text k low occurs = record {
  fits = omega (arith, occurs.fits, length-take n text);
  reads = λ j lt. let inside : k + j < n = omega (arith, low, lt) in get_or-take n text (k + j) 0 inside ∙ occurs.reads j lt;
}

-- ---- the bytes that a head may have

-- an end that is found in them is the end of the head
pub found_in_front : (bytes : List ℕ) (n at : ℕ) → n ≤ max_head → FindsNeedle (take n bytes) empty_line 0 (Some at) → EndsAt bytes (at + 4)
found_in_front bytes n at most found =
    let here_too = untaken n bytes at found.1 in
    record {
      place = at;
      first = (
        record {
          low = omega arith;
          high = omega (arith, here_too.1.fits);
          before = λ k least lt occurs. found.0.before k least lt (taken n bytes k (omega (arith, lt, here_too.0)) occurs);
        },
        here_too.1,
      );
      n_is = refl;
      most = omega (arith, most, here_too.0);
    }

-- where none is found in them, the head has no end
pub none_in_front : (bytes : List ℕ) (n : ℕ) → n ≡ min (length bytes) max_head → FindsNeedle (take n bytes) empty_line 0 None → NeverEnds bytes
none_in_front bytes n is none = λ place fits occurs.
    let low : place + 4 ≤ n = omega (arith, is, fits, occurs.fits) in
    none place (omega arith) (omega (arith, length-take n bytes, low, occurs.fits)) (taken n bytes place low occurs)

-- ---- a head that is written as lines

-- an empty line as the last of them
pub lines_last : (ls : List (List ℕ)) → lines (ls ++ [] ∷ []) ≡ lines ls ++ crlf_bytes
lines_last ls = flat_map-append (λ line. line ++ crlf_bytes) ls ([] ∷ [])

-- the text is these lines and an empty one, and no longer than a head may be
pub record IsLines (ls : List (List ℕ)) (text : List ℕ) : Type 0 where
  pub text_is : text ≡ lines ls ++ crlf_bytes
  pub some : 0 < length ls
  pub each : All IsLine ls
  pub most : length text ≤ max_head

-- whatever follows, the head is there and ends with the text
pub read_lines : {H A E : Type 0} (form : List ℕ → H → Type 0) (says : ℕ → H → Result (Option A) E) (ls : List (List ℕ)) (text more : List ℕ) (head : H)
    → IsLines ls text → form text head → IsRead form says (text ++ more) (says (length text) head)
read_lines form says ls text more head is has =
    let two : 2 ≤ length (lines ls) = two_of ls is.some in
    let len : length text ≡ length (lines ls) + 2 = ap length is.text_is ∙ length-append (lines ls) crlf_bytes in
    let whole : text ++ more ≡ lines ls ++ (crlf_bytes ++ more) = ap (λ (t : List ℕ). t ++ more) is.text_is ∙ append_assoc (lines ls) crlf_bytes more in
    let place : ℕ = length (lines ls) - 2 in
    record {
      n = length text;
      ends = record {
        place = place;
        first = subst (λ (t : List ℕ). FindsNeedle t empty_line 0 (Some place)) (sym whole) (
          record {
            low = omega arith;
            high = omega (arith, length-append (lines ls) (crlf_bytes ++ more));
            before = λ k least lt occurs. omega (arith, two, lt, not_before ls more k is.each occurs);
          },
          at_last ls more place is.some (omega (arith, two)),
        );
        n_is = omega (arith, len, two);
        most = is.most;
      };
      head = head;
      has_form = subst (λ (t : List ℕ). form t head) (sym (take_at text more (length text) refl)) has;
      is = refl;
    }
  where
    two_of : (ls : List (List ℕ)) → 0 < length ls → 2 ≤ length (lines ls)
    two_of [] some = absurd (omega arith)
    two_of (line ∷ ls) some = omega (arith, length-append (line ++ crlf_bytes) (lines ls), length-append line crlf_bytes)

-- every proper front of it is still open
pub open_lines : {A E : Type 0} (too_long : E) (ls : List (List ℕ)) (text : List ℕ) (n : ℕ) → IsLines ls text → n < length text
    → IsOpen {A = A} too_long (take n text) (Ok None)
open_lines too_long ls text n is lt =
    let len : length text ≡ length (lines ls) + 2 = ap length is.text_is ∙ length-append (lines ls) crlf_bytes in
    let short : length (take n text) < max_head = omega (arith, length-take n text, is.most) in
    record {
      never = λ k fits occurs.
          let out = untaken n text k occurs in
          let whole : text ≡ lines ls ++ (crlf_bytes ++ []) = is.text_is in
          let far = not_before ls [] k is.each (subst (λ (t : List ℕ). OccursAt t empty_line k) whole out.1) in
          omega (arith, far, out.0, len, lt);
      is = if_below (length (take n text)) max_head _ _ short;
    }
  where
    if_below : {X : Type 0} (a b : ℕ) (x y : X) → a < b → x ≡ cond (nat_lt a b) x y
    if_below a b x y h = grind (arith, common_steps)
