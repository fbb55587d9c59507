-- What is in the grammar is read.
use Rattle.std.proofs.Common.{◌≡◌, ℕ, ◌+◌, ◌≤◌, inl, inr, Bool, true, false, eqb, List, [], ◌∷◌, length, Result, Ok, Err, refl, ap, subst, ◌∙◌, arith}
use Rattle.std.specs.Prelude.{codes, IfOk}
use Rattle.std.specs.List.{AllByRecursion, AllZip}
use Rattle.std.specs.Str.{bytes_eq}
use Rattle.std.proofs.lemmas.Bool.Decides.{nat_tests}
use Rattle.hex.proofs.HexLemmas.{decode_of-ok}
use Rattle.ra_base.specs.declared.event.Event.{Event}
use Rattle.ra_base.specs.declared.event.Event.TheVariants as events
use Rattle.ra_script.specs.declared.line.Line.{Line}
use Rattle.ra_script.specs.declared.line.Line.TheVariants.{Base, Do, Drain}
use Rattle.ra_script.specs.declared.line.ScriptFault.{ScriptFault}
use Rattle.ra_script.specs.Keywords.{keyword_at}
use Rattle.ra_script.specs.Words.{bytes_at, number_limit, moment_limit}
use Rattle.ra_script.specs.Lines.{line_by, lines_by, text_lines, Gives}
use Rattle.ra_script.specs.Reading.{words_at, line_at, script_at, row_at, nothing_at, one_number_at, one_side_at, side_bytes_at, side_count_at, side_link_count_at}
use Rattle.ra_script.specs.Printable.{IsInRange, IsNoBase, IsPrintable}
use Rattle.ra_script.specs.Grammar.{SpellsBytes, SpellsEvent, Spells, IsLineOf, IsScriptOf}
use Rattle.ra_script.proofs.Printed.{differs, not_equal, side_again, decimal_again, count_again}
use Rattle.ra_script.proofs.Again.{IsPlace}
use Rattle.ra_script.proofs.Found.{script_found}

pub bytes_spelled : (word bytes : List ℕ) → SpellsBytes word bytes → bytes_at word ≡ Ok bytes
unfolding bytes_at
bytes_spelled word bytes (inl none) = rw (none.0, none.1) refl
bytes_spelled word bytes (inr some) =
    let facts = decode_of-ok word bytes some.1 in
    let len = facts.2 in
    let any = some.0 in
    let dash : bytes_eq word (codes "-") ≡ false = differs word (codes "-") (λ e. let one = ap (λ (w : List ℕ). length w) e in omega arith) in
    let full : eqb (length word) 0 ≡ false = not_equal (length word) 0 (λ e. omega arith) in
    rw (dash, full, some.1) refl

event_spelled : (first : Bool) (words : List (List ℕ)) (event : Event) → SpellsEvent words event → IsInRange (Do event) → words_at first words ≡ Ok (Do event)
unfolding keyword_at row_at nothing_at one_number_at one_side_at side_bytes_at side_count_at side_link_count_at
event_spelled first words events.Link s h = ap (words_at first) s
event_spelled first words (events.At now) s h = ap (words_at first) s ∙ rw (decimal_again moment_limit now (omega arith) h) refl
event_spelled first words (events.Begin side link count) s h = ap (words_at first) s ∙ rw (side_again side, decimal_again number_limit link (omega arith) h.0, count_again count h.1) refl
event_spelled first words (events.Say side body) s h = ap (words_at first) s.2 ∙ rw (side_again side, bytes_spelled s.0 body s.1) refl
event_spelled first words (events.Control side body) s h = ap (words_at first) s.2 ∙ rw (side_again side, bytes_spelled s.0 body s.1) refl
event_spelled first words (events.Write side count) s h = ap (words_at first) s ∙ rw (side_again side, count_again count h) refl
event_spelled first words (events.Read side link count) s h = ap (words_at first) s ∙ rw (side_again side, decimal_again number_limit link (omega arith) h.0, count_again count h.1) refl
event_spelled first words (events.Cut link) s h = ap (words_at first) s ∙ rw (decimal_again number_limit link (omega arith) h) refl
event_spelled first words (events.Finish side) s h = ap (words_at first) s ∙ rw (side_again side) refl
event_spelled first words (events.Pause side) s h = ap (words_at first) s ∙ rw (side_again side) refl
event_spelled first words (events.Resume side) s h = ap (words_at first) s ∙ rw (side_again side) refl
event_spelled first words (events.Leave side) s h = ap (words_at first) s ∙ rw (side_again side) refl
event_spelled first words (events.Take side) s h = ap (words_at first) s ∙ rw (side_again side) refl
event_spelled first words (events.Tick side) s h = ap (words_at first) s ∙ rw (side_again side) refl
event_spelled first words (events.Lose side) s h = ap (words_at first) s ∙ rw (side_again side) refl

words_spelled : (first : Bool) (words : List (List ℕ)) (line : Line) → Spells words line → IsInRange line → IsPlace first line → words_at first words ≡ Ok line
unfolding keyword_at row_at one_number_at one_side_at
words_spelled true words (Base base) s h p = ap (words_at true) s ∙ rw (decimal_again number_limit base (omega arith) h) refl
words_spelled false words (Base base) s h p = absurd p
words_spelled first words (Do event) s h p = event_spelled first words event s h
words_spelled first words (Drain side) s h p = ap (words_at first) s ∙ rw (side_again side) refl

line_spelled : (first : Bool) (text : List ℕ) (line : Line) → IsLineOf text line → IsInRange line → IsPlace first line → line_at first text ≡ Ok line
unfolding line_by
line_spelled first text line s h p = rw s.is_text (words_spelled first _ line s.spells h p)

lines_spelled : (n : ℕ) (texts : List (List ℕ)) (lines : List Line) → 2 ≤ n → AllZip IsLineOf texts lines → AllByRecursion IsInRange lines → AllByRecursion IsNoBase lines → lines_by words_at n texts ≡ Ok lines
unfolding lines_by
lines_spelled n [] [] later s h p = refl
lines_spelled n (text ∷ texts) (line ∷ lines) later s h p =
    let first : eqb n 1 ≡ false = grind (arith, nat_tests) in
    rw (first, line_spelled false text line s.0 h.0 p.0, lines_spelled (n + 1) texts lines (omega arith) s.1 h.1 p.1) refl
lines_spelled n [] (line ∷ lines) later s h p = absurd s
lines_spelled n (text ∷ texts) [] later s h p = absurd s

first_spelled : (texts : List (List ℕ)) (lines : List Line) → AllZip IsLineOf texts lines → IsPrintable lines → lines_by words_at 1 texts ≡ Ok lines
unfolding lines_by
first_spelled [] [] s h = refl
first_spelled (text ∷ texts) (line ∷ lines) s h =
    rw (line_spelled true text line s.0 h.in_range.0 tt, lines_spelled 2 texts lines (omega arith) s.1 h.in_range.1 h.base_first) refl
first_spelled [] (line ∷ lines) s h = absurd s
first_spelled (text ∷ texts) [] s h = absurd s

-- a script of lines is read as these
pub script_spelled : (text : List ℕ) (lines : List Line) → IsScriptOf text lines → script_at text ≡ Ok lines
script_spelled text lines s = first_spelled (text_lines text) lines s.lines_of s.printable

-- ---- what a call answers that gives what reading gives

pub found_from : {X : Type 0} (r : Result X ScriptFault) (view : X → List Line) (text : List ℕ) → Gives view r (script_at text) → IfOk r (λ x. IsScriptOf text (view x))
found_from (Ok x) view text h = script_found text (view x) h
found_from (Err fault) view text h = tt

pub only_from : {X : Type 0} (r : Result X ScriptFault) (view : X → List Line) (text : List ℕ) → Gives view r (script_at text) → (lines : List Line) → IsScriptOf text lines → Gives view r (Ok lines)
only_from r view text h lines s = subst (Gives view r) (script_spelled text lines s) h
