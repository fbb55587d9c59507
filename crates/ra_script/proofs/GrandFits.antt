-- What a caller may rely on in the events of a grand script.
use Rattle.std.proofs.Common.{◌≡◌, ℕ, ◌^◌, ◌<◌, ◌≤◌, true, eqb, inl, inr, List, [], ◌∷◌, length, Result, Ok, Err, subst, arith, IsUtf8}
use Rattle.std.specs.Prelude.{◌≢◌, codes, IfOk}
use Rattle.std.specs.List.{AllByRecursion, AllZip, list_all}
use Rattle.std.specs.Fmt.{decimal}
use Rattle.hex.proofs.HexLemmas.{decode_of-ok}
use Rattle.ra_base.specs.declared.kind.Kind.{Kind}
use Rattle.ra_base.specs.declared.kind.Kind.TheVariants.{Management, ExtensionHost, Tunnel}
use Rattle.ra_values.specs.Tree as trees
use Rattle.ra_values.specs.Spelling.{Fits, levels}
use Rattle.ra_script.specs.declared.grand_line.GrandEvent.TheVariants as events
use Rattle.ra_script.specs.declared.grand_line.GrandLine.{GrandLine}
use Rattle.ra_script.specs.declared.grand_line.GrandLine.TheVariants.{Do}
use Rattle.ra_script.specs.declared.line.ScriptFault.{ScriptFault}
use Rattle.ra_script.specs.Lines.{is_text, words_in, text_lines, Gives}
use Rattle.ra_script.specs.GrandReading.{grand_script_at}
use Rattle.ra_script.specs.Grammar.{SpellsBytes}
use Rattle.ra_script.specs.GrandGrammar.{SpellsKind, IsGrandLineOf}
use Rattle.ra_script.specs.GrandLines.{IsNoTunnel, IsMomentInRange, GrandEventFits, OfEvent, OfEvents}
use Rattle.ra_script.proofs.Parts.{words_are_utf8, parts_short, lines_short, all_from}
use Rattle.ra_script.proofs.GrandComplete.{grand_found_from}

kind_is_no_tunnel : (word : List ℕ) (kind : Kind) → SpellsKind word kind → kind ≢ Tunnel
kind_is_no_tunnel word Management h e = absurd cc
kind_is_no_tunnel word ExtensionHost h e = absurd cc
kind_is_no_tunnel word Tunnel h e = absurd h

no_tunnel : (text : List ℕ) (line : GrandLine) → IsGrandLineOf text line → OfEvent IsNoTunnel line
no_tunnel text (Do (events.Client key)) s = kind_is_no_tunnel s.spells.0 key.kind s.spells.1
no_tunnel text line s = tt

in_range : (text : List ℕ) (line : GrandLine) → IsGrandLineOf text line → OfEvent IsMomentInRange line
in_range text (Do (events.At now)) s = s.in_range
in_range text line s = tt

-- ---- what can be written

-- a word of a line below 2^32 bytes
pub record IsShort (word : List ℕ) : Type 0 where
  pub utf8 : IsUtf8 word
  pub short : length word < 2 ^ 32

all_short : (words : List (List ℕ)) → AllByRecursion IsUtf8 words → AllByRecursion (λ w. length w < 2 ^ 32) words → AllByRecursion IsShort words
all_short [] utf8 short = tt
all_short (word ∷ words) utf8 short = (record { utf8 = utf8.0; short = short.0 }, all_short words utf8.1 short.1)

-- the word behind two others, and the words behind one
first_of : (word : List ℕ) (words : List (List ℕ)) → AllByRecursion IsShort (word ∷ words) → IsShort word
first_of word words all = all.0

behind : (word : List ℕ) (words : List (List ℕ)) → AllByRecursion IsShort (word ∷ words) → AllByRecursion IsShort words
behind word words all = all.1

word_fits : (word : List ℕ) → IsShort word → Fits levels (trees.text word)
word_fits word h = (h.utf8, h.short)

-- bytes are no longer than their digits
bytes_short : (digits bytes : List ℕ) → SpellsBytes digits bytes → length digits < 2 ^ 32 → length bytes < 2 ^ 32
bytes_short digits bytes (inl none) lt = rw none.1 (omega arith)
bytes_short digits bytes (inr some) lt = let len = (decode_of-ok digits bytes some.1).2 in omega arith

words_short : (line : List ℕ) → list_all is_text line ≡ true → length line < 2 ^ 32 → AllByRecursion IsShort (words_in line)
words_short line h lt =
    all_short (words_in line) (words_are_utf8 line h)
    (all_from (λ w. length w ≤ length line) (λ w. length w < 2 ^ 32) (λ w le. omega arith) (words_in line) (parts_short (λ c. eqb c 32) line))

-- the words behind the first two
args_short : (first second : List ℕ) (args : List (List ℕ)) (line : List ℕ) → list_all is_text line ≡ true → length line < 2 ^ 32 → words_in line ≡ first ∷ second ∷ args → AllByRecursion IsShort args
args_short first second args line h lt e = behind second args (behind first (second ∷ args) (subst (AllByRecursion IsShort) e (words_short line h lt)))

line_fits : (line : List ℕ) (said : GrandLine) → length line < 2 ^ 32 → IsGrandLineOf line said → OfEvent GrandEventFits said
line_fits line (Do (events.Call client channel name arg)) lt s =
    let digits = s.spells.0 in
    let args = args_short (codes "call") (decimal client) (channel ∷ name ∷ digits ∷ []) line s.is_text lt s.spells.2 in
    let others = behind channel (name ∷ digits ∷ []) args in
    let last = first_of digits [] (behind name (digits ∷ []) others) in
    (word_fits channel (first_of channel (name ∷ digits ∷ []) args), word_fits name (first_of name (digits ∷ []) others), bytes_short digits arg s.spells.1 last.short)
line_fits line (Do (events.CallText client channel name arg)) lt s =
    let digits = s.spells.0 in
    let args = args_short (codes "text") (decimal client) (channel ∷ name ∷ digits ∷ []) line s.is_text lt s.spells.2 in
    let others = behind channel (name ∷ digits ∷ []) args in
    let last = first_of digits [] (behind name (digits ∷ []) others) in
    (word_fits channel (first_of channel (name ∷ digits ∷ []) args), word_fits name (first_of name (digits ∷ []) others), (s.in_range.1, bytes_short digits arg s.spells.1 last.short))
line_fits line (Do (events.Listen client channel name)) lt s =
    let args = args_short (codes "listen") (decimal client) (channel ∷ name ∷ []) line s.is_text lt s.spells in
    (word_fits channel (first_of channel (name ∷ []) args), word_fits name (first_of name [] (behind channel (name ∷ []) args)))
line_fits line said lt s = tt

-- ---- each line

each : (P : GrandLine → Type 0) → ((text : List ℕ) (line : GrandLine) → IsGrandLineOf text line → P line) → (texts : List (List ℕ)) (lines : List GrandLine) → AllZip IsGrandLineOf texts lines → AllByRecursion P lines
each P h [] [] s = tt
each P h (text ∷ texts) (line ∷ lines) s = (h text line s.0, each P h texts lines s.1)
each P h [] (line ∷ lines) s = absurd s
each P h (text ∷ texts) [] s = absurd s

each_fits : (texts : List (List ℕ)) (lines : List GrandLine) → AllByRecursion (λ t. length t < 2 ^ 32) texts → AllZip IsGrandLineOf texts lines → OfEvents GrandEventFits lines
each_fits [] [] short s = tt
each_fits (text ∷ texts) (line ∷ lines) short s = (line_fits text line short.0 s.0, each_fits texts lines short.1 s.1)
each_fits [] (line ∷ lines) short s = absurd s
each_fits (text ∷ texts) [] short s = absurd s

-- ---- what a call answers that gives what reading gives

pub kinds_from : {X : Type 0} (r : Result X ScriptFault) (view : X → List GrandLine) (text : List ℕ) → Gives view r (grand_script_at text) → IfOk r (λ x. OfEvents IsNoTunnel (view x))
kinds_from (Ok x) view text h = each (OfEvent IsNoTunnel) no_tunnel (text_lines text) (view x) (grand_found_from (Ok x) view text h)
kinds_from (Err fault) view text h = tt

pub moments_from : {X : Type 0} (r : Result X ScriptFault) (view : X → List GrandLine) (text : List ℕ) → Gives view r (grand_script_at text) → IfOk r (λ x. OfEvents IsMomentInRange (view x))
moments_from (Ok x) view text h = each (OfEvent IsMomentInRange) in_range (text_lines text) (view x) (grand_found_from (Ok x) view text h)
moments_from (Err fault) view text h = tt

pub fit_from : {X : Type 0} (r : Result X ScriptFault) (view : X → List GrandLine) (text : List ℕ) → length text < 2 ^ 32 → Gives view r (grand_script_at text) → IfOk r (λ x. OfEvents GrandEventFits (view x))
fit_from (Ok x) view text lt h =
    let short = all_from (λ line. length line ≤ length text) (λ line. length line < 2 ^ 32) (λ line le. omega arith) (text_lines text) (lines_short text) in
    each_fits (text_lines text) (view x) short (grand_found_from (Ok x) view text h)
fit_from (Err fault) view text lt h = tt
