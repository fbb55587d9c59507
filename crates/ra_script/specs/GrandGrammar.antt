-- Which texts are grand scripts, and of which lines.
use Rattle.std.specs.Prelude.{◌≡◌, ℕ, ◌<◌, ℤ, pos, true, List, [], ◌∷◌, codes, IsUtf8}
use Rattle.std.specs.List.{list_all, AllZip}
use Rattle.std.specs.Fmt.{decimal}
use Rattle.ra_base.specs.declared.kind.Kind.{Kind}
use Rattle.ra_base.specs.declared.kind.Kind.TheVariants.{Management, ExtensionHost, Tunnel}
use Rattle.ra_base.specs.TokenGrammar.{IsToken}
use Rattle.ra_script.specs.declared.grand_line.GrandEvent.{GrandEvent}
use Rattle.ra_script.specs.declared.grand_line.GrandEvent.TheVariants as events
use Rattle.ra_script.specs.declared.grand_line.GrandLine.{GrandLine}
use Rattle.ra_script.specs.declared.grand_line.GrandLine.TheVariants.{Do, Drain}
use Rattle.ra_script.specs.Words.{count_text, number_limit, moment_limit}
use Rattle.ra_script.specs.GrandWords.{id_limit}
use Rattle.ra_script.specs.Lines.{is_text, words_in, text_lines}
use Rattle.ra_script.specs.Printable.{IsCountInRange}
use Rattle.ra_script.specs.Grammar.{SpellsBytes}

-- the word of a kind that a client may have
abbrev pub SpellsKind : List ℕ → Kind → Type 0
SpellsKind word Management = word ≡ codes "management"
SpellsKind word ExtensionHost = word ≡ codes "host"
SpellsKind word Tunnel = ⊥

-- the decimal of an id, which is not below 0
abbrev pub SpellsId : List ℕ → ℤ → Type 0
SpellsId word id = (n : ℕ) × (n < id_limit) × (id ≡ pos n) × (word ≡ decimal n)

-- words are those of an event. A channel and a name are any words, the empty one too.
abbrev pub SpellsGrandEvent : List (List ℕ) → GrandEvent → Type 0
SpellsGrandEvent words (events.At now) = words ≡ codes "at" ∷ decimal now ∷ []
SpellsGrandEvent words (events.Client key) = (kind : List ℕ) × SpellsKind kind key.kind × (words ≡ codes "client" ∷ kind ∷ key.token ∷ [])
SpellsGrandEvent words (events.Step client) = words ≡ codes "step" ∷ decimal client ∷ []
SpellsGrandEvent words (events.Linked client) = words ≡ codes "linked" ∷ decimal client ∷ []
SpellsGrandEvent words (events.NoLink client) = words ≡ codes "nolink" ∷ decimal client ∷ []
SpellsGrandEvent words (events.Up link count) = words ≡ codes "up" ∷ decimal link ∷ count_text count ∷ []
SpellsGrandEvent words (events.Idle link) = words ≡ codes "idle" ∷ decimal link ∷ []
SpellsGrandEvent words (events.Down link count) = words ≡ codes "down" ∷ decimal link ∷ count_text count ∷ []
SpellsGrandEvent words (events.Frame client) = words ≡ codes "frame" ∷ decimal client ∷ []
SpellsGrandEvent words (events.Cut link) = words ≡ codes "cut" ∷ decimal link ∷ []
SpellsGrandEvent words (events.Gone link) = words ≡ codes "gone" ∷ decimal link ∷ []
SpellsGrandEvent words (events.Lost client) = words ≡ codes "lost" ∷ decimal client ∷ []
SpellsGrandEvent words events.Sweep = words ≡ codes "sweep" ∷ []
SpellsGrandEvent words (events.Work job) = words ≡ codes "work" ∷ decimal job ∷ []
SpellsGrandEvent words (events.Call client channel name arg) = (digits : List ℕ) × SpellsBytes digits arg × (words ≡ codes "call" ∷ decimal client ∷ channel ∷ name ∷ digits ∷ [])
SpellsGrandEvent words (events.CallText client channel name arg) = (digits : List ℕ) × SpellsBytes digits arg × (words ≡ codes "text" ∷ decimal client ∷ channel ∷ name ∷ digits ∷ [])
SpellsGrandEvent words (events.Listen client channel name) = words ≡ codes "listen" ∷ decimal client ∷ channel ∷ name ∷ []
SpellsGrandEvent words (events.Cancel client id) = (digits : List ℕ) × SpellsId digits id × (words ≡ codes "cancel" ∷ decimal client ∷ digits ∷ [])
SpellsGrandEvent words (events.Dispose client id) = (digits : List ℕ) × SpellsId digits id × (words ≡ codes "dispose" ∷ decimal client ∷ digits ∷ [])
SpellsGrandEvent words (events.Say client body) = (digits : List ℕ) × SpellsBytes digits body × (words ≡ codes "say" ∷ decimal client ∷ digits ∷ [])
SpellsGrandEvent words (events.Stop client) = words ≡ codes "stop" ∷ decimal client ∷ []

abbrev pub SpellsGrand : List (List ℕ) → GrandLine → Type 0
SpellsGrand words (Do event) = SpellsGrandEvent words event
SpellsGrand words (Drain client) = words ≡ codes "drain" ∷ decimal client ∷ []

-- the numbers have 64 bits, as they have in a program, and a moment has 53; tokens are tokens, and the text of a call is UTF-8
abbrev pub IsGrandEventInRange : GrandEvent → Type 0
IsGrandEventInRange (events.At now) = now < moment_limit
IsGrandEventInRange (events.Client key) = IsToken key.token
IsGrandEventInRange (events.Step client) = client < number_limit
IsGrandEventInRange (events.Linked client) = client < number_limit
IsGrandEventInRange (events.NoLink client) = client < number_limit
IsGrandEventInRange (events.Up link count) = (link < number_limit) × IsCountInRange count
IsGrandEventInRange (events.Idle link) = link < number_limit
IsGrandEventInRange (events.Down link count) = (link < number_limit) × IsCountInRange count
IsGrandEventInRange (events.Frame client) = client < number_limit
IsGrandEventInRange (events.Cut link) = link < number_limit
IsGrandEventInRange (events.Gone link) = link < number_limit
IsGrandEventInRange (events.Lost client) = client < number_limit
IsGrandEventInRange events.Sweep = Unit {0}
IsGrandEventInRange (events.Work job) = job < number_limit
IsGrandEventInRange (events.Call client channel name arg) = client < number_limit
IsGrandEventInRange (events.CallText client channel name arg) = (client < number_limit) × IsUtf8 arg
IsGrandEventInRange (events.Listen client channel name) = client < number_limit
IsGrandEventInRange (events.Cancel client id) = client < number_limit
IsGrandEventInRange (events.Dispose client id) = client < number_limit
IsGrandEventInRange (events.Say client body) = client < number_limit
IsGrandEventInRange (events.Stop client) = client < number_limit

abbrev pub IsGrandInRange : GrandLine → Type 0
IsGrandInRange (Do event) = IsGrandEventInRange event
IsGrandInRange (Drain client) = client < number_limit

-- a text of words with one space between
pub record IsGrandLineOf (text : List ℕ) (line : GrandLine) : Type 0 where
  pub is_text : list_all is_text text ≡ true
  pub spells : SpellsGrand (words_in text) line
  pub in_range : IsGrandInRange line

-- each line of the text, in order
abbrev pub IsGrandScriptOf : List ℕ → List GrandLine → Type 0
IsGrandScriptOf text lines = AllZip IsGrandLineOf (text_lines text) lines
