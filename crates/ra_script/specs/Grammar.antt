-- Which texts are scripts, and of which lines.
use Rattle.std.specs.Prelude.{◌≡◌, ℕ, ◌<◌, ◌⊎◌, true, List, [], ◌∷◌, length, codes, Ok}
use Rattle.std.specs.List.{list_all, AllZip}
use Rattle.hex.specs.Hex.{decode_of}
use Rattle.ra_base.specs.declared.event.Event.{Event}
use Rattle.ra_base.specs.declared.event.Event.TheVariants as events
use Rattle.ra_script.specs.declared.line.Line.{Line}
use Rattle.ra_script.specs.declared.line.Line.TheVariants.{Base, Do, Drain}
use Rattle.ra_script.specs.Words.{side_text}
use Rattle.ra_script.specs.Texts.{line_words, event_words}
use Rattle.ra_script.specs.Lines.{is_text, words_in, text_lines}
use Rattle.ra_script.specs.Printable.{IsPrintable}

-- a dash for no bytes, or two digits for each, in either case
abbrev pub SpellsBytes : List ℕ → List ℕ → Type 0
SpellsBytes word bytes = ((word ≡ codes "-") × (bytes ≡ [])) ⊎ ((0 < length bytes) × (decode_of word ≡ Ok bytes))

abbrev pub SpellsEvent : List (List ℕ) → Event → Type 0
SpellsEvent words (events.Say side body) = (digits : List ℕ) × SpellsBytes digits body × (words ≡ codes "say" ∷ side_text side ∷ digits ∷ [])
SpellsEvent words (events.Control side body) = (digits : List ℕ) × SpellsBytes digits body × (words ≡ codes "control" ∷ side_text side ∷ digits ∷ [])
SpellsEvent words event = words ≡ event_words event

-- words are those of a line, as it is printed but for the case of digits
abbrev pub Spells : List (List ℕ) → Line → Type 0
Spells words (Base base) = words ≡ line_words (Base base)
Spells words (Do event) = SpellsEvent words event
Spells words (Drain side) = words ≡ line_words (Drain side)

-- a text of words with one space between
pub record IsLineOf (text : List ℕ) (line : Line) : Type 0 where
  pub is_text : list_all is_text text ≡ true
  pub spells : Spells (words_in text) line

pub record IsScriptOf (text : List ℕ) (lines : List Line) : Type 0 where
  pub lines_of : AllZip IsLineOf (text_lines text) lines
  pub printable : IsPrintable lines
