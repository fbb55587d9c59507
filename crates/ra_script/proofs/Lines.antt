-- Lines are read from the front.
use Rattle.std.proofs.Common.{◌≡◌, ℕ, zero, suc, ◌+◌, ◌-◌, ◌<◌, ◌≤◌, Bool, true, false, cond, eqb, ltb, inl, inr, List, [], ◌∷◌, ◌++◌, length, take, drop, Some, None, Result, Ok, Err, refl, sym, ap, ◌∙◌, arith, append_assoc}
use Rattle.std.specs.List.{All, slice_split, onto_first, before_first, after_first, position_or_len, position}
use Rattle.std.proofs.lemmas.Bool.{cases_lt, ltb-false}
use Rattle.std.proofs.lemmas.List.{take_all, drop_all, length-drop, append-nil}
use Rattle.std.proofs.Math.Dec.{eqb-suc-zero}
use Rattle.std.proofs.lemmas.List.Splits.{slice_split_first, slice_split_none}
use Rattle.std.proofs.lemmas.List.Sums.{fails_before_first}
use Rattle.ra_script.specs.declared.line.What.{What}
use Rattle.ra_script.specs.declared.line.ScriptFault.{ScriptFault}
use Rattle.ra_script.specs.declared.line.ScriptFault.TheVariants as faults
use Rattle.ra_script.specs.Words.{◌>>=◌}
use Rattle.ra_script.specs.Lines.{line_by, lines_by, numbered, text_lines, without_empty_last, Fails}

abbrev pub is_newline : ℕ → Bool
is_newline c = eqb c 10

-- what was read before, and what is still read
abbrev pub with_front : {L : Type 0} → List L → Result (List L) ScriptFault → Result (List L) ScriptFault
with_front front read = read >>= λ lines. Ok (front ++ lines)

-- there is always a part
pub some_part : {X : Type 0} (p : X → Bool) (xs : List X) → (part : List X) × (parts : List (List X)) × (slice_split p xs ≡ part ∷ parts)
some_part p [] = ([], [], refl)
some_part p (x ∷ xs) =
    let t = some_part p xs in
    elim (p x) as (λ b. (part : _) × (parts : _) × (cond b ([] ∷ slice_split p xs) (onto_first x (slice_split p xs)) ≡ part ∷ parts)) [
      | true ↦ ([], slice_split p xs, refl)
      | false ↦ (x ∷ t.0, t.1, ap (onto_first x) t.2)
    ]

-- a part before others is a line
pub more_parts : (first : List ℕ) (parts : List (List ℕ)) (part : List ℕ) (others : List (List ℕ)) → parts ≡ part ∷ others → without_empty_last (first ∷ parts) ≡ first ∷ without_empty_last parts
more_parts first parts part others e = rw e refl

-- a last part that isn't empty is a line
pub last_part : (part : List ℕ) → 0 < length part → without_empty_last (part ∷ []) ≡ part ∷ []
last_part [] some = absurd (omega arith)
last_part (c ∷ part) some = ap (λ (b : Bool). cond b [] ((c ∷ part) ∷ [])) (eqb-suc-zero (length part))

-- a text that isn't empty begins with a line
pub text_lines-step : (text : List ℕ) → 0 < length text → text_lines text ≡ before_first is_newline text ∷ text_lines (after_first is_newline text)
unfolding text_lines
text_lines-step text some =
    elim (cases_lt (position_or_len is_newline text) (length text)) [
      | inl lt ↦
          let part = some_part is_newline (after_first is_newline text) in
          ap without_empty_last (slice_split_first is_newline text 0 lt)
          ∙ more_parts (before_first is_newline text) (slice_split is_newline (after_first is_newline text)) part.0 part.1 part.2
      | inr le ↦
          let all : All (λ c. is_newline c ≡ false) text = λ k d in_text. fails_before_first is_newline text k d (omega arith) in
          let front : before_first is_newline text ≡ text = take_all (position_or_len is_newline text) text le in
          let rest : after_first is_newline text ≡ [] = drop_all (position_or_len is_newline text + 1) text (omega arith) in
          ap without_empty_last (slice_split_none is_newline text all) ∙ last_part text some
          ∙ rw (front, rest) refl
    ]

pub text_lines-nil : (text : List ℕ) → length text ≡ 0 → text_lines text ≡ []
unfolding text_lines
text_lines-nil [] e = refl
text_lines-nil (x ∷ xs) e = absurd (omega arith)

-- ---- what a search for the first newline shows

found_at : (b : Bool) (k at : ℕ) → Some at ≡ cond b (Some k) None → at ≡ k
found_at true k at e = cc
found_at false k at e = absurd cc

none_at : (b : Bool) (k : ℕ) → None ≡ cond b (Some k) None → b ≡ false
none_at true k e = absurd cc
none_at false k e = refl

pub front_found : (text : List ℕ) (at : ℕ) → Some at ≡ position is_newline text → take at text ≡ before_first is_newline text
front_found text at e = rw (found_at (ltb (position_or_len is_newline text) (length text)) (position_or_len is_newline text) at e) refl

pub rest_found : (text : List ℕ) (at : ℕ) → Some at ≡ position is_newline text → take (length text - (at + 1)) (drop (at + 1) text) ≡ after_first is_newline text
rest_found text at e =
    take_all (length text - (at + 1)) (drop (at + 1) text) (omega (arith, length-drop (at + 1) text))
    ∙ ap (λ (k : ℕ). drop (k + 1) text) (found_at (ltb (position_or_len is_newline text) (length text)) (position_or_len is_newline text) at e)

take_nil : (n : ℕ) → take {A = ℕ} n [] ≡ []
take_nil n = take_all n [] (omega arith)

no_newline : (text : List ℕ) → None ≡ position is_newline text → length text ≤ position_or_len is_newline text
no_newline text e = ltb-false (position_or_len is_newline text) (length text) (none_at (ltb (position_or_len is_newline text) (length text)) (position_or_len is_newline text) e)

pub front_none : (text : List ℕ) → None ≡ position is_newline text → text ≡ before_first is_newline text
front_none text e = sym (take_all (position_or_len is_newline text) text (no_newline text e))

pub rest_none : (text : List ℕ) → None ≡ position is_newline text → take (length text - length text) (drop (length text) text) ≡ after_first is_newline text
rest_none text e =
    let past = no_newline text e in
    ap (take (length text - length text)) (drop_all (length text) text (omega arith)) ∙ take_nil (length text - length text)
    ∙ sym (drop_all (position_or_len is_newline text + 1) text (omega arith))

-- ---- one line more

regroup : {L : Type 0} (front : List L) (line : L) (read : Result (List L) ScriptFault) → with_front front (read >>= λ others. Ok (line ∷ others)) ≡ with_front (front ++ line ∷ []) read
regroup front line (Ok lines) = ap Ok (simp append_assoc)
regroup front line (Err fault) = refl

-- a line that has a reading
pub one_read : {L : Type 0} (says : Bool → List (List ℕ) → Result L What) (front : List L) (n : ℕ) (text first rest : List ℕ) (line : L) (all : Result (List L) ScriptFault) → 0 < length text → first ≡ before_first is_newline text → rest ≡ after_first is_newline text
    → numbered n (line_by (says (eqb n 1)) first) ≡ Ok line → with_front front (lines_by says n (text_lines text)) ≡ all → with_front (front ++ line ∷ []) (lines_by says (n + 1) (text_lines rest)) ≡ all
unfolding lines_by
one_read {L} says front n text first rest line all some first-is rest-is read e =
    let step : text_lines text ≡ first ∷ text_lines rest = rw (first-is, rest-is) (text_lines-step text some) in
    sym (regroup front line (lines_by says (n + 1) (text_lines rest)))
    ∙ sym (ap (λ (ls : List (List ℕ)). with_front front (lines_by says n ls)) step ∙ ap (λ (r : Result L ScriptFault). with_front front (r >>= λ l. lines_by says (n + 1) (text_lines rest) >>= λ others. Ok (l ∷ others))) read)
    ∙ e

-- and one that has none
pub one_fault : {L : Type 0} (says : Bool → List (List ℕ) → Result L What) (front : List L) (n : ℕ) (text first rest : List ℕ) (fault : ScriptFault) (all : Result (List L) ScriptFault) → 0 < length text → first ≡ before_first is_newline text → rest ≡ after_first is_newline text
    → with_front front (lines_by says n (text_lines text)) ≡ all → numbered n (line_by (says (eqb n 1)) first) ≡ Err fault → all ≡ Err fault
unfolding lines_by
one_fault {L} says front n text first rest fault all some first-is rest-is e read =
    let step : text_lines text ≡ first ∷ text_lines rest = rw (first-is, rest-is) (text_lines-step text some) in
    sym e ∙ ap (λ (ls : List (List ℕ)). with_front front (lines_by says n ls)) step
    ∙ ap (λ (r : Result L ScriptFault). with_front front (r >>= λ l. lines_by says (n + 1) (text_lines rest) >>= λ others. Ok (l ∷ others))) read

-- no line is left
pub none_left : {L : Type 0} (says : Bool → List (List ℕ) → Result L What) (front : List L) (n : ℕ) (text : List ℕ) (all : Result (List L) ScriptFault) → length text ≡ 0 → with_front front (lines_by says n (text_lines text)) ≡ all → all ≡ Ok front
unfolding lines_by
none_left says front n text all empty e =
    sym e ∙ ap (λ (ls : List (List ℕ)). with_front front (lines_by says n ls)) (text_lines-nil text empty) ∙ ap Ok (append-nil front)

-- a fault is passed on
pub fault_passes : {L M : Type 0} (e : ScriptFault) (r : Result L ScriptFault) (all : Result M ScriptFault)
    → Fails e r → ((fault : ScriptFault) → r ≡ Err fault → all ≡ Err fault) → Fails e all
fault_passes (faults.At n what) r all h step = step (faults.At n what) h
fault_passes faults.NoMemory r all h step = tt

pub is_some_text : (n : ℕ) (b : Bool) → b ≡ eqb n 0 → b ≡ false → 0 < n
is_some_text zero b e h = absurd cc
is_some_text (suc n) b e h = omega arith

pub shorter_rest : (text rest : List ℕ) → 0 < length text → rest ≡ after_first is_newline text → length rest + 1 ≤ length text
shorter_rest text rest some e =
    let len : length rest ≡ length text - (position_or_len is_newline text + 1) = ap (λ (w : List ℕ). length w) e ∙ length-drop (position_or_len is_newline text + 1) text in
    omega arith
