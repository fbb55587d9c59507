-- What is in the grammar of grand scripts is read.
use Rattle.std.proofs.Common.{◌≡◌, ℕ, ◌+◌, ℤ, List, [], ◌∷◌, Result, Ok, Err, refl, ap, subst, ◌∙◌, arith, IsUtf8}
use Rattle.std.specs.Prelude.{IfOk}
use Rattle.std.specs.List.{AllZip}
use Rattle.std.proofs.lemmas.Str.{is_utf8-from_IsUtf8}
use Rattle.ra_base.specs.declared.kind.Kind.{Kind}
use Rattle.ra_base.specs.declared.kind.Kind.TheVariants.{Management, ExtensionHost, Tunnel}
use Rattle.ra_base.specs.TokenGrammar.{IsToken}
use Rattle.ra_base.proofs.TokenLemmas.{token_of-IsToken}
use Rattle.ra_script.specs.declared.grand_line.GrandEvent.{GrandEvent}
use Rattle.ra_script.specs.declared.grand_line.GrandEvent.TheVariants as events
use Rattle.ra_script.specs.declared.grand_line.GrandLine.{GrandLine}
use Rattle.ra_script.specs.declared.grand_line.GrandLine.TheVariants.{Do, Drain}
use Rattle.ra_script.specs.declared.line.ScriptFault.{ScriptFault}
use Rattle.ra_script.specs.GrandKeywords.{grand_keyword_at}
use Rattle.ra_script.specs.Lines.{line_by, lines_by, text_lines, Gives}
use Rattle.ra_script.specs.Words.{number_limit, moment_limit}
use Rattle.ra_script.specs.GrandWords.{kind_at, token_at, id_limit, id_at, utf8_at}
use Rattle.ra_script.specs.Reading.{nothing_at, one_number_at}
use Rattle.ra_script.specs.GrandReading.{key_at, number_count_at, number_bytes_at, number_id_at, named_at, call_at, grand_row_at, grand_words_at, grand_line_at, grand_script_at}
use Rattle.ra_script.specs.Grammar.{SpellsBytes}
use Rattle.ra_script.specs.GrandGrammar.{SpellsKind, SpellsId, SpellsGrandEvent, IsGrandEventInRange, SpellsGrand, IsGrandInRange, IsGrandLineOf, IsGrandScriptOf}
use Rattle.ra_script.proofs.Printed.{decimal_again, count_again}
use Rattle.ra_script.proofs.Complete.{bytes_spelled}
use Rattle.ra_script.proofs.GrandFound.{grand_script_found}

kind_spelled : (word : List ℕ) (kind : Kind) → SpellsKind word kind → kind_at word ≡ Ok kind
kind_spelled word Management h = rw h refl
kind_spelled word ExtensionHost h = rw h refl
kind_spelled word Tunnel h = absurd h

token_spelled : (token : List ℕ) → IsToken token → token_at token ≡ Ok token
unfolding token_at
token_spelled token h = rw (token_of-IsToken token h) refl

id_spelled : (word : List ℕ) (id : ℤ) → SpellsId word id → id_at word ≡ Ok id
unfolding id_at
id_spelled word id s = rw (s.3, decimal_again id_limit s.0 (omega arith) s.1, s.2) refl

utf8_spelled : (word bytes : List ℕ) → SpellsBytes word bytes → IsUtf8 bytes → utf8_at word ≡ Ok bytes
unfolding utf8_at
utf8_spelled word bytes s h = rw (bytes_spelled word bytes s, is_utf8-from_IsUtf8 bytes h) refl

event_spelled : (words : List (List ℕ)) (event : GrandEvent) → SpellsGrandEvent words event → IsGrandEventInRange event → grand_words_at words ≡ Ok (Do event)
unfolding grand_keyword_at grand_row_at nothing_at one_number_at key_at number_count_at number_bytes_at number_id_at named_at call_at
event_spelled words (events.At now) s h = ap grand_words_at s ∙ rw (decimal_again moment_limit now (omega arith) h) refl
event_spelled words (events.Client key) s h = ap grand_words_at s.2 ∙ rw (kind_spelled s.0 key.kind s.1, token_spelled key.token h) refl
event_spelled words (events.Step client) s h = ap grand_words_at s ∙ rw (decimal_again number_limit client (omega arith) h) refl
event_spelled words (events.Linked client) s h = ap grand_words_at s ∙ rw (decimal_again number_limit client (omega arith) h) refl
event_spelled words (events.NoLink client) s h = ap grand_words_at s ∙ rw (decimal_again number_limit client (omega arith) h) refl
event_spelled words (events.Up link count) s h = ap grand_words_at s ∙ rw (decimal_again number_limit link (omega arith) h.0, count_again count h.1) refl
event_spelled words (events.Idle link) s h = ap grand_words_at s ∙ rw (decimal_again number_limit link (omega arith) h) refl
event_spelled words (events.Down link count) s h = ap grand_words_at s ∙ rw (decimal_again number_limit link (omega arith) h.0, count_again count h.1) refl
event_spelled words (events.Frame client) s h = ap grand_words_at s ∙ rw (decimal_again number_limit client (omega arith) h) refl
event_spelled words (events.Cut link) s h = ap grand_words_at s ∙ rw (decimal_again number_limit link (omega arith) h) refl
event_spelled words (events.Gone link) s h = ap grand_words_at s ∙ rw (decimal_again number_limit link (omega arith) h) refl
event_spelled words (events.Lost client) s h = ap grand_words_at s ∙ rw (decimal_again number_limit client (omega arith) h) refl
event_spelled words events.Sweep s h = ap grand_words_at s
event_spelled words (events.Work job) s h = ap grand_words_at s ∙ rw (decimal_again number_limit job (omega arith) h) refl
event_spelled words (events.Call client channel name arg) s h = ap grand_words_at s.2 ∙ rw (decimal_again number_limit client (omega arith) h, bytes_spelled s.0 arg s.1) refl
event_spelled words (events.CallText client channel name arg) s h = ap grand_words_at s.2 ∙ rw (decimal_again number_limit client (omega arith) h.0, utf8_spelled s.0 arg s.1 h.1) refl
event_spelled words (events.Listen client channel name) s h = ap grand_words_at s ∙ rw (decimal_again number_limit client (omega arith) h) refl
event_spelled words (events.Cancel client id) s h = ap grand_words_at s.2 ∙ rw (decimal_again number_limit client (omega arith) h, id_spelled s.0 id s.1) refl
event_spelled words (events.Dispose client id) s h = ap grand_words_at s.2 ∙ rw (decimal_again number_limit client (omega arith) h, id_spelled s.0 id s.1) refl
event_spelled words (events.Say client body) s h = ap grand_words_at s.2 ∙ rw (decimal_again number_limit client (omega arith) h, bytes_spelled s.0 body s.1) refl
event_spelled words (events.Stop client) s h = ap grand_words_at s ∙ rw (decimal_again number_limit client (omega arith) h) refl

words_spelled : (words : List (List ℕ)) (line : GrandLine) → SpellsGrand words line → IsGrandInRange line → grand_words_at words ≡ Ok line
unfolding grand_keyword_at grand_row_at one_number_at
words_spelled words (Do event) s h = event_spelled words event s h
words_spelled words (Drain client) s h = ap grand_words_at s ∙ rw (decimal_again number_limit client (omega arith) h) refl

line_spelled : (text : List ℕ) (line : GrandLine) → IsGrandLineOf text line → grand_line_at text ≡ Ok line
unfolding line_by
line_spelled text line s = rw s.is_text (words_spelled _ line s.spells s.in_range)

lines_spelled : (n : ℕ) (texts : List (List ℕ)) (lines : List GrandLine) → AllZip IsGrandLineOf texts lines → lines_by (λ first. grand_words_at) n texts ≡ Ok lines
unfolding lines_by
lines_spelled n [] [] s = refl
lines_spelled n (text ∷ texts) (line ∷ lines) s = rw (line_spelled text line s.0, lines_spelled (n + 1) texts lines s.1) refl
lines_spelled n [] (line ∷ lines) s = absurd s
lines_spelled n (text ∷ texts) [] s = absurd s

-- a grand script of lines is read as these
pub grand_script_spelled : (text : List ℕ) (lines : List GrandLine) → IsGrandScriptOf text lines → grand_script_at text ≡ Ok lines
grand_script_spelled text lines s = lines_spelled 1 (text_lines text) lines s

-- ---- what a call answers that gives what reading gives

pub grand_found_from : {X : Type 0} (r : Result X ScriptFault) (view : X → List GrandLine) (text : List ℕ) → Gives view r (grand_script_at text) → IfOk r (λ x. IsGrandScriptOf text (view x))
grand_found_from (Ok x) view text h = grand_script_found text (view x) h
grand_found_from (Err fault) view text h = tt

pub grand_only_from : {X : Type 0} (r : Result X ScriptFault) (view : X → List GrandLine) (text : List ℕ) → Gives view r (grand_script_at text) → (lines : List GrandLine) → IsGrandScriptOf text lines → Gives view r (Ok lines)
grand_only_from r view text h lines s = subst (Gives view r) (grand_script_spelled text lines s) h
