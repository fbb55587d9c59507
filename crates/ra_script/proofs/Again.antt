-- What is printed is read again, line by line.
use Rattle.std.proofs.Common.{◌≡◌, ℕ, ◌+◌, ◌<◌, ◌≤◌, Bool, true, false, eqb, List, [], ◌∷◌, length, get_or, cond, map, Result, Ok, Err, refl, ap, ◌∙◌, arith, append_assoc}
use Rattle.std.specs.Prelude.{codes}
use Rattle.std.proofs.lemmas.List.Sums.{AllPass-from_list_all}
use Rattle.std.specs.List.{All, AllByRecursion, list_all, slice_split, join_with_byte}
use Rattle.std.specs.Fmt.{decimal}
use Rattle.std.proofs.lemmas.Bool.Decides.{nat_tests}
use Rattle.std.proofs.lemmas.List.Splits.{slice_split_none, slice_split_at}
use Rattle.ra_base.specs.declared.event.Side.{Side}
use Rattle.ra_base.specs.declared.event.Event.{Event}
use Rattle.ra_base.specs.declared.event.Event.TheVariants as events
use Rattle.ra_script.specs.declared.line.Line.{Line}
use Rattle.ra_script.specs.declared.line.Line.TheVariants.{Base, Do, Drain}
use Rattle.ra_script.specs.declared.line.What.{What}
use Rattle.ra_script.specs.declared.line.What.TheVariants.{NotText}
use Rattle.ra_script.specs.Words.{side_text, count_text, bytes_text, number_limit, moment_limit}
use Rattle.ra_script.specs.Keywords.{keyword_at}
use Rattle.ra_script.specs.Texts.{line_text}
use Rattle.ra_script.specs.Lines.{is_text, line_by, lines_by, text_lines, without_empty_last}
use Rattle.ra_script.specs.Reading.{words_at, line_at, row_at, nothing_at, one_number_at, one_side_at, side_bytes_at, side_count_at, side_link_count_at, script_at}
use Rattle.ra_script.specs.Printable.{IsInRange, IsNoBase, IsPrintable, ended_text, parted_text}
use Rattle.ra_script.proofs.Lines.{is_newline, some_part, more_parts, last_part}
use Rattle.ra_script.proofs.Printed.{IsWord, is_space, literal_word, side_word, decimal_word, count_word, bytes_word, side_again, decimal_again, count_again, bytes_again, split_words, text_words}

-- a line of words is read by its words
by_words : (first : Bool) (word : List ℕ) (words : List (List ℕ)) → IsWord word → AllByRecursion IsWord words → line_at first (join_with_byte 32 (word ∷ words)) ≡ words_at first (word ∷ words)
unfolding line_by
by_words first word words h hs = rw (text_words word words h hs, split_words word words h hs) refl

abbrev pub IsPlace : Bool → Line → Type 0
IsPlace true line = Unit {0}
IsPlace false line = IsNoBase line

-- a first word and a side
side_again_at : (first : Bool) (name : List ℕ) (s : Side) → IsWord name → line_at first (join_with_byte 32 (name ∷ side_text s ∷ [])) ≡ words_at first (name ∷ side_text s ∷ [])
side_again_at first name s h = by_words first name (side_text s ∷ []) h (side_word s, tt)

pub event_again : (first : Bool) (event : Event) → IsInRange (Do event) → line_at first (line_text (Do event)) ≡ Ok (Do event)
unfolding line_text keyword_at row_at nothing_at one_number_at one_side_at side_bytes_at side_count_at side_link_count_at
event_again first events.Link h = by_words first (codes "link") [] (literal_word (codes "link") refl) tt
event_again first (events.At now) h = by_words first (codes "at") (decimal now ∷ []) (literal_word (codes "at") refl) (decimal_word now (omega arith), tt) ∙ rw (decimal_again moment_limit now (omega arith) h) refl
event_again first (events.Begin s l c) h = by_words first (codes "begin") (side_text s ∷ decimal l ∷ count_text c ∷ []) (literal_word (codes "begin") refl) (side_word s, (decimal_word l h.0, (count_word c h.1, tt))) ∙ rw (side_again s, decimal_again number_limit l (omega arith) h.0, count_again c h.1) refl
event_again first (events.Say s b) h = by_words first (codes "say") (side_text s ∷ bytes_text b ∷ []) (literal_word (codes "say") refl) (side_word s, (bytes_word b h, tt)) ∙ rw (side_again s, bytes_again b h) refl
event_again first (events.Control s b) h = by_words first (codes "control") (side_text s ∷ bytes_text b ∷ []) (literal_word (codes "control") refl) (side_word s, (bytes_word b h, tt)) ∙ rw (side_again s, bytes_again b h) refl
event_again first (events.Write s c) h = by_words first (codes "write") (side_text s ∷ count_text c ∷ []) (literal_word (codes "write") refl) (side_word s, (count_word c h, tt)) ∙ rw (side_again s, count_again c h) refl
event_again first (events.Read s l c) h = by_words first (codes "read") (side_text s ∷ decimal l ∷ count_text c ∷ []) (literal_word (codes "read") refl) (side_word s, (decimal_word l h.0, (count_word c h.1, tt))) ∙ rw (side_again s, decimal_again number_limit l (omega arith) h.0, count_again c h.1) refl
event_again first (events.Cut l) h = by_words first (codes "cut") (decimal l ∷ []) (literal_word (codes "cut") refl) (decimal_word l h, tt) ∙ rw (decimal_again number_limit l (omega arith) h) refl
event_again first (events.Finish s) h = side_again_at first (codes "finish") s (literal_word (codes "finish") refl) ∙ rw (side_again s) refl
event_again first (events.Pause s) h = side_again_at first (codes "pause") s (literal_word (codes "pause") refl) ∙ rw (side_again s) refl
event_again first (events.Resume s) h = side_again_at first (codes "resume") s (literal_word (codes "resume") refl) ∙ rw (side_again s) refl
event_again first (events.Leave s) h = side_again_at first (codes "leave") s (literal_word (codes "leave") refl) ∙ rw (side_again s) refl
event_again first (events.Take s) h = side_again_at first (codes "take") s (literal_word (codes "take") refl) ∙ rw (side_again s) refl
event_again first (events.Tick s) h = side_again_at first (codes "tick") s (literal_word (codes "tick") refl) ∙ rw (side_again s) refl
event_again first (events.Lose s) h = side_again_at first (codes "lose") s (literal_word (codes "lose") refl) ∙ rw (side_again s) refl

-- a line that is printed is read again
pub line_again : (first : Bool) (line : Line) → IsInRange line → IsPlace first line → line_at first (line_text line) ≡ Ok line
unfolding line_text keyword_at row_at nothing_at one_number_at one_side_at side_bytes_at side_count_at side_link_count_at
line_again true (Base n) h p = by_words true (codes "base") (decimal n ∷ []) (literal_word (codes "base") refl) (decimal_word n h, tt) ∙ rw (decimal_again number_limit n (omega arith) h) refl
line_again false (Base n) h p = absurd p
line_again first (Do event) h p = event_again first event h
line_again first (Drain s) h p = side_again_at first (codes "drain") s (literal_word (codes "drain") refl) ∙ rw (side_again s) refl

-- ---- lines with newlines

-- the texts of lines, as they are read
lines_again : (n : ℕ) (lines : List Line) → AllByRecursion IsInRange lines → AllByRecursion IsNoBase lines → 2 ≤ n → lines_by words_at n (map line_text lines) ≡ Ok lines
unfolding lines_by
lines_again n [] range no_base later = refl
lines_again n (line ∷ lines) range no_base later =
    let first : eqb n 1 ≡ false = grind (arith, nat_tests) in
    rw (first, line_again false line range.0 no_base.0, lines_again (n + 1) lines range.1 no_base.1 (omega arith)) refl

script_again : (lines : List Line) → IsPrintable lines → lines_by words_at 1 (map line_text lines) ≡ Ok lines
unfolding lines_by
script_again [] h = refl
script_again (line ∷ lines) h =
    rw (line_again true line h.in_range.0 tt, lines_again 2 lines h.in_range.1 h.base_first (omega arith)) refl

-- ---- a line that is read is text, and not empty

tested : {A : Type 0} (b : Bool) (r : Result A What) (x : A) → cond b r (Err NotText) ≡ Ok x → b ≡ true
tested true r x e = refl
tested false r x e = absurd cc

is_all_text : (first : Bool) (text : List ℕ) (line : Line) → line_at first text ≡ Ok line → list_all is_text text ≡ true
unfolding line_by
is_all_text first text line e = tested (list_all is_text text) (words_at first (slice_split is_space text)) line e

text_is_no_newline : (c : ℕ) → is_text c ≡ true → is_newline c ≡ false
text_is_no_newline c h = grind (arith, nat_tests)

no_newline_in : (first : Bool) (text : List ℕ) (line : Line) → line_at first text ≡ Ok line → All (λ c. is_newline c ≡ false) text
no_newline_in first text line e k d lt = text_is_no_newline (get_or text k d) (AllPass-from_list_all is_text text (is_all_text first text line e) k d lt)

is_not_empty : (text : List ℕ) (line : Line) → line_at true text ≡ Ok line → 0 < length text
unfolding line_by keyword_at
is_not_empty [] line e = absurd cc
is_not_empty (c ∷ text) line e = omega arith

-- ---- the lines of a printed text

ended_lines : (lines : List Line) → AllByRecursion IsInRange lines → text_lines (ended_text lines) ≡ map line_text lines
unfolding text_lines
ended_lines [] range = refl
ended_lines (line ∷ lines) range =
    let text = line_text line in
    let rest = ended_text lines in
    let part = some_part is_newline rest in
    let no_newline = no_newline_in true text line (line_again true line range.0 tt) in
    ap (λ (t : List ℕ). without_empty_last (slice_split is_newline t)) (append_assoc text (10 ∷ []) rest)
    ∙ ap without_empty_last (slice_split_at is_newline text 10 rest no_newline refl)
    ∙ more_parts text (slice_split is_newline rest) part.0 part.1 part.2
    ∙ ap (λ (ts : List (List ℕ)). text ∷ ts) (ended_lines lines range.1)

parted_lines : (lines : List Line) → AllByRecursion IsInRange lines → text_lines (parted_text lines) ≡ map line_text lines
unfolding text_lines
parted_lines [] range = refl
parted_lines (line ∷ []) range =
    let text = line_text line in
    let read = line_again true line range.0 tt in
    ap without_empty_last (slice_split_none is_newline text (no_newline_in true text line read))
    ∙ last_part text (is_not_empty text line read)
parted_lines (line ∷ next ∷ lines) range =
    let text = line_text line in
    let rest = parted_text (next ∷ lines) in
    let part = some_part is_newline rest in
    let no_newline = no_newline_in true text line (line_again true line range.0 tt) in
    ap without_empty_last (slice_split_at is_newline text 10 rest no_newline refl)
    ∙ more_parts text (slice_split is_newline rest) part.0 part.1 part.2
    ∙ ap (λ (ts : List (List ℕ)). text ∷ ts) (parted_lines (next ∷ lines) range.1)

pub ended_again : (lines : List Line) → IsPrintable lines → script_at (ended_text lines) ≡ Ok lines
ended_again lines h = ap (lines_by words_at 1) (ended_lines lines h.in_range) ∙ script_again lines h

pub parted_again : (lines : List Line) → IsPrintable lines → script_at (parted_text lines) ≡ Ok lines
parted_again lines h = ap (lines_by words_at 1) (parted_lines lines h.in_range) ∙ script_again lines h
