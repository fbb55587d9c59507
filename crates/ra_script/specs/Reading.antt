-- Reading a line of a script, word by word.
use Rattle.std.specs.Prelude.{ℕ, Bool, false, not, if◌then◌else◌, List, [], ◌∷◌, Option, Some, None, Result, Ok, Err}
use Rattle.ra_base.specs.declared.event.Side.{Side}
use Rattle.ra_base.specs.declared.event.Count.{Count}
use Rattle.ra_base.specs.declared.event.Event.TheVariants as events
use Rattle.ra_script.specs.declared.line.Line.{Line}
use Rattle.ra_script.specs.declared.line.Line.TheVariants.{Base, Do, Drain}
use Rattle.ra_script.specs.declared.line.What.{What}
use Rattle.ra_script.specs.declared.line.What.TheVariants.{UnknownWord, WrongCount}
use Rattle.ra_script.specs.declared.line.ScriptFault.{ScriptFault}
use Rattle.ra_script.specs.declared.keyword.Keyword.{Keyword}
use Rattle.ra_script.specs.declared.keyword.Keyword.TheVariants as words
use Rattle.ra_script.specs.Keywords.{keyword_at}
use Rattle.ra_script.specs.Lines.{line_by, script_by}
use Rattle.ra_script.specs.Words.{◌>>=◌, number_limit, moment_limit, side_at, number_at, count_at, bytes_at}

-- ---- what stands after the first word

unfoldable pub nothing_at : List (List ℕ) → Result (Unit {0}) What
nothing_at [] = Ok tt
nothing_at _ = Err WrongCount

unfoldable pub one_number_at : ℕ → List (List ℕ) → Result ℕ What
one_number_at limit (n ∷ []) = number_at limit n
one_number_at limit _ = Err WrongCount

unfoldable pub one_side_at : List (List ℕ) → Result Side What
one_side_at (s ∷ []) = side_at s
one_side_at _ = Err WrongCount

unfoldable pub side_bytes_at : List (List ℕ) → Result (Side × List ℕ) What
side_bytes_at (s ∷ h ∷ []) = do
  side ← side_at s
  bytes ← bytes_at h
  Ok (side, bytes)
side_bytes_at _ = Err WrongCount

unfoldable pub side_count_at : List (List ℕ) → Result (Side × Count) What
side_count_at (s ∷ c ∷ []) = do
  side ← side_at s
  count ← count_at c
  Ok (side, count)
side_count_at _ = Err WrongCount

unfoldable pub side_link_count_at : List (List ℕ) → Result (Side × ℕ × Count) What
side_link_count_at (s ∷ l ∷ c ∷ []) = do
  side ← side_at s
  link ← number_at number_limit l
  count ← count_at c
  Ok (side, link, count)
side_link_count_at _ = Err WrongCount

-- ---- a line

-- the line that a first word and the words after it say
unfoldable pub row_at : Keyword → List (List ℕ) → Result Line What
row_at words.Base args = one_number_at number_limit args >>= λ n. Ok (Base n)
row_at words.Link args = nothing_at args >>= λ _. Ok (Do events.Link)
row_at words.At args = one_number_at moment_limit args >>= λ n. Ok (Do (events.At n))
row_at words.Begin args = side_link_count_at args >>= λ x. Ok (Do (events.Begin x.0 x.1 x.2))
row_at words.Finish args = one_side_at args >>= λ s. Ok (Do (events.Finish s))
row_at words.Say args = side_bytes_at args >>= λ x. Ok (Do (events.Say x.0 x.1))
row_at words.Control args = side_bytes_at args >>= λ x. Ok (Do (events.Control x.0 x.1))
row_at words.Pause args = one_side_at args >>= λ s. Ok (Do (events.Pause s))
row_at words.Resume args = one_side_at args >>= λ s. Ok (Do (events.Resume s))
row_at words.Leave args = one_side_at args >>= λ s. Ok (Do (events.Leave s))
row_at words.Write args = side_count_at args >>= λ x. Ok (Do (events.Write x.0 x.1))
row_at words.Read args = side_link_count_at args >>= λ x. Ok (Do (events.Read x.0 x.1 x.2))
row_at words.Take args = one_side_at args >>= λ s. Ok (Do (events.Take s))
row_at words.Tick args = one_side_at args >>= λ s. Ok (Do (events.Tick s))
row_at words.Lose args = one_side_at args >>= λ s. Ok (Do (events.Lose s))
row_at words.Cut args = one_number_at number_limit args >>= λ n. Ok (Do (events.Cut n))
row_at words.Drain args = one_side_at args >>= λ s. Ok (Drain s)

-- `base` is a first word in the first line alone
abbrev pub is_out_of_place : Bool → Keyword → Bool
is_out_of_place first words.Base = not first
is_out_of_place first _ = false

abbrev pub from_keyword : Bool → List (List ℕ) → Option Keyword → Result Line What
from_keyword first args None = Err UnknownWord
from_keyword first args (Some keyword) = if is_out_of_place first keyword then Err UnknownWord else row_at keyword args

abbrev pub words_at : Bool → List (List ℕ) → Result Line What
words_at first [] = Err UnknownWord
words_at first (word ∷ args) = from_keyword first args (keyword_at word)

-- what a line says, where `first` tells whether it is the first one
abbrev pub line_at : Bool → List ℕ → Result Line What
line_at first = line_by (words_at first)

-- what a whole text says
abbrev pub script_at : List ℕ → Result (List Line) ScriptFault
script_at = script_by words_at
