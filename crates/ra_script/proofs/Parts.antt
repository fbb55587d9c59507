-- The parts of a text that is split: what holds of all its bytes holds of theirs, and none is longer.
use Rattle.std.proofs.Common.{◌≡◌, ℕ, suc, zero, ◌+◌, ◌<◌, ◌≤◌, Bool, true, false, cond, eqb, List, [], ◌∷◌, length, refl, arith}
use Rattle.std.specs.Prelude.{IsUtf8}
use Rattle.std.specs.List.{AllByRecursion, list_all, slice_split, onto_first}
use Rattle.std.specs.Str.{IsAscii}
use Rattle.std.proofs.lemmas.Bool.{and_parts}
use Rattle.std.proofs.lemmas.Bool.Decides.{nat_tests}
use Rattle.std.proofs.lemmas.Str.{IsUtf8-from_ascii}
use Rattle.ra_script.specs.Lines.{is_text, words_in, without_empty_last, text_lines}

-- what holds of each item, as a fact that follows from another one
pub all_from : {X : Type 0} (P Q : X → Type 0) → ((x : X) → P x → Q x) → (xs : List X) → AllByRecursion P xs → AllByRecursion Q xs
all_from P Q h [] all = tt
all_from P Q h (x ∷ xs) all = (h x all.0, all_from P Q h xs all.1)

-- ---- bytes

onto_first_passes : (p : ℕ → Bool) (c : ℕ) (parts : List (List ℕ)) → p c ≡ true → AllByRecursion (λ w. list_all p w ≡ true) parts → AllByRecursion (λ w. list_all p w ≡ true) (onto_first c parts)
onto_first_passes p c [] h all = (rw h refl, tt)
onto_first_passes p c (part ∷ parts) h all = (rw (h, all.0) refl, all.1)

split_cases : (b : Bool) (p : ℕ → Bool) (c : ℕ) (parts : List (List ℕ)) → p c ≡ true → AllByRecursion (λ w. list_all p w ≡ true) parts → AllByRecursion (λ w. list_all p w ≡ true) (cond b ([] ∷ parts) (onto_first c parts))
split_cases true p c parts h all = (refl, all)
split_cases false p c parts h all = onto_first_passes p c parts h all

parts_pass : (p cut : ℕ → Bool) (text : List ℕ) → list_all p text ≡ true → AllByRecursion (λ w. list_all p w ≡ true) (slice_split cut text)
parts_pass p cut [] h = (refl, tt)
parts_pass p cut (c ∷ text) h =
    let parts = and_parts (p c) (list_all p text) h in
    split_cases (cut c) p c (slice_split cut text) parts.0 (parts_pass p cut text parts.1)

ascii_byte : (c : ℕ) → is_text c ≡ true → c < 128
ascii_byte c h = grind (arith, nat_tests)

ascii_text : (text : List ℕ) → list_all is_text text ≡ true → IsAscii text
ascii_text [] h i = omega arith
ascii_text (c ∷ text) h zero = ascii_byte c (and_parts (is_text c) (list_all is_text text) h).0
ascii_text (c ∷ text) h (suc i) = ascii_text text (and_parts (is_text c) (list_all is_text text) h).1 i

-- the words of a line of text are text
pub words_are_utf8 : (line : List ℕ) → list_all is_text line ≡ true → AllByRecursion IsUtf8 (words_in line)
words_are_utf8 line h =
    all_from (λ w. list_all is_text w ≡ true) IsUtf8 (λ w all. IsUtf8-from_ascii w (ascii_text w all)) (words_in line) (parts_pass is_text (λ c. eqb c 32) line h)

-- ---- lengths

onto_first_short : (n c : ℕ) (parts : List (List ℕ)) → AllByRecursion (λ w. length w ≤ n) parts → AllByRecursion (λ w. length w ≤ n + 1) (onto_first c parts)
onto_first_short n c [] all = (omega arith, tt)
onto_first_short n c (part ∷ parts) all = (let h = all.0 in omega arith, all_from (λ w. length w ≤ n) (λ w. length w ≤ n + 1) (λ w h. omega arith) parts all.1)

short_cases : (b : Bool) (n c : ℕ) (parts : List (List ℕ)) → AllByRecursion (λ w. length w ≤ n) parts → AllByRecursion (λ w. length w ≤ n + 1) (cond b ([] ∷ parts) (onto_first c parts))
short_cases true n c parts all = (omega arith, all_from (λ w. length w ≤ n) (λ w. length w ≤ n + 1) (λ w h. omega arith) parts all)
short_cases false n c parts all = onto_first_short n c parts all

-- no part is longer than the text
pub parts_short : (cut : ℕ → Bool) (text : List ℕ) → AllByRecursion (λ w. length w ≤ length text) (slice_split cut text)
parts_short cut [] = (omega arith, tt)
parts_short cut (c ∷ text) =
    all_from (λ w. length w ≤ length text + 1) (λ w. length w ≤ length (c ∷ text)) (λ w h. omega arith) (cond (cut c) ([] ∷ slice_split cut text) (onto_first c (slice_split cut text)))
    (short_cases (cut c) (length text) c (slice_split cut text) (parts_short cut text))

last_cases : (P : List ℕ → Type 0) (b : Bool) (part : List ℕ) → P part → AllByRecursion P (cond b [] (part ∷ []))
last_cases P true part h = tt
last_cases P false part h = (h, tt)

without_last : (P : List ℕ → Type 0) (parts : List (List ℕ)) → AllByRecursion P parts → AllByRecursion P (without_empty_last parts)
without_last P [] all = tt
without_last P (part ∷ []) all = last_cases P (eqb (length part) 0) part all.0
without_last P (part ∷ next ∷ parts) all = (all.0, without_last P (next ∷ parts) all.1)

pub lines_short : (text : List ℕ) → AllByRecursion (λ line. length line ≤ length text) (text_lines text)
unfolding text_lines
lines_short text = without_last (λ line. length line ≤ length text) (slice_split (λ c. eqb c 10) text) (parts_short (λ c. eqb c 10) text)
