-- Reading a line of a grand script, word by word.
use Rattle.std.specs.Prelude.{ℕ, ℤ, List, [], ◌∷◌, Option, Some, None, Result, Ok, Err}
use Rattle.ra_base.specs.declared.event.Count.{Count}
use Rattle.ra_base.specs.declared.key.Key.{Key}
use Rattle.ra_script.specs.declared.grand_line.GrandLine.{GrandLine}
use Rattle.ra_script.specs.declared.grand_line.GrandLine.TheVariants.{Do, Drain}
use Rattle.ra_script.specs.declared.grand_line.GrandEvent.TheVariants as events
use Rattle.ra_script.specs.declared.line.What.{What}
use Rattle.ra_script.specs.declared.line.What.TheVariants.{UnknownWord, WrongCount}
use Rattle.ra_script.specs.declared.line.ScriptFault.{ScriptFault}
use Rattle.ra_script.specs.declared.grand_keyword.GrandKeyword.{GrandKeyword}
use Rattle.ra_script.specs.declared.grand_keyword.GrandKeyword.TheVariants as words
use Rattle.ra_script.specs.GrandKeywords.{grand_keyword_at}
use Rattle.ra_script.specs.Lines.{line_by, script_by}
use Rattle.ra_script.specs.Words.{◌>>=◌, number_limit, moment_limit, number_at, count_at, bytes_at}
use Rattle.ra_script.specs.GrandWords.{kind_at, token_at, id_at, utf8_at}
use Rattle.ra_script.specs.Reading.{nothing_at, one_number_at}

-- ---- what stands after the first word

unfoldable pub key_at : List (List ℕ) → Result Key What
key_at (k ∷ t ∷ []) = do
  kind ← kind_at k
  token ← token_at t
  Ok (record { kind = kind; token = token })
key_at _ = Err WrongCount

unfoldable pub number_count_at : List (List ℕ) → Result (ℕ × Count) What
number_count_at (l ∷ c ∷ []) = do
  n ← number_at number_limit l
  count ← count_at c
  Ok (n, count)
number_count_at _ = Err WrongCount

unfoldable pub number_bytes_at : List (List ℕ) → Result (ℕ × List ℕ) What
number_bytes_at (i ∷ h ∷ []) = do
  n ← number_at number_limit i
  bytes ← bytes_at h
  Ok (n, bytes)
number_bytes_at _ = Err WrongCount

unfoldable pub number_id_at : List (List ℕ) → Result (ℕ × ℤ) What
number_id_at (i ∷ d ∷ []) = do
  n ← number_at number_limit i
  id ← id_at d
  Ok (n, id)
number_id_at _ = Err WrongCount

-- a client, a channel and a name, which are any words
unfoldable pub named_at : List (List ℕ) → Result (ℕ × List ℕ × List ℕ) What
named_at (i ∷ channel ∷ name ∷ []) = do
  n ← number_at number_limit i
  Ok (n, channel, name)
named_at _ = Err WrongCount

-- the same, and then an argument
unfoldable pub call_at : (List ℕ → Result (List ℕ) What) → List (List ℕ) → Result (ℕ × List ℕ × List ℕ × List ℕ) What
call_at arg_at (i ∷ channel ∷ name ∷ h ∷ []) = do
  n ← number_at number_limit i
  arg ← arg_at h
  Ok (n, channel, name, arg)
call_at arg_at _ = Err WrongCount

-- ---- a line

-- the line that a first word and the words after it say
unfoldable pub grand_row_at : GrandKeyword → List (List ℕ) → Result GrandLine What
grand_row_at words.At args = one_number_at moment_limit args >>= λ n. Ok (Do (events.At n))
grand_row_at words.Client args = key_at args >>= λ key. Ok (Do (events.Client key))
grand_row_at words.Step args = one_number_at number_limit args >>= λ n. Ok (Do (events.Step n))
grand_row_at words.Linked args = one_number_at number_limit args >>= λ n. Ok (Do (events.Linked n))
grand_row_at words.NoLink args = one_number_at number_limit args >>= λ n. Ok (Do (events.NoLink n))
grand_row_at words.Up args = number_count_at args >>= λ x. Ok (Do (events.Up x.0 x.1))
grand_row_at words.Idle args = one_number_at number_limit args >>= λ n. Ok (Do (events.Idle n))
grand_row_at words.Down args = number_count_at args >>= λ x. Ok (Do (events.Down x.0 x.1))
grand_row_at words.Frame args = one_number_at number_limit args >>= λ n. Ok (Do (events.Frame n))
grand_row_at words.Drain args = one_number_at number_limit args >>= λ n. Ok (Drain n)
grand_row_at words.Cut args = one_number_at number_limit args >>= λ n. Ok (Do (events.Cut n))
grand_row_at words.Gone args = one_number_at number_limit args >>= λ n. Ok (Do (events.Gone n))
grand_row_at words.Lost args = one_number_at number_limit args >>= λ n. Ok (Do (events.Lost n))
grand_row_at words.Sweep args = nothing_at args >>= λ _. Ok (Do events.Sweep)
grand_row_at words.Work args = one_number_at number_limit args >>= λ n. Ok (Do (events.Work n))
grand_row_at words.Call args = call_at bytes_at args >>= λ x. Ok (Do (events.Call x.0 x.1 x.2 x.3))
grand_row_at words.Text args = call_at utf8_at args >>= λ x. Ok (Do (events.CallText x.0 x.1 x.2 x.3))
grand_row_at words.Listen args = named_at args >>= λ x. Ok (Do (events.Listen x.0 x.1 x.2))
grand_row_at words.Cancel args = number_id_at args >>= λ x. Ok (Do (events.Cancel x.0 x.1))
grand_row_at words.Dispose args = number_id_at args >>= λ x. Ok (Do (events.Dispose x.0 x.1))
grand_row_at words.Say args = number_bytes_at args >>= λ x. Ok (Do (events.Say x.0 x.1))
grand_row_at words.Stop args = one_number_at number_limit args >>= λ n. Ok (Do (events.Stop n))

abbrev pub from_grand_keyword : List (List ℕ) → Option GrandKeyword → Result GrandLine What
from_grand_keyword args None = Err UnknownWord
from_grand_keyword args (Some keyword) = grand_row_at keyword args

-- what the words of a line say, of any line
abbrev pub grand_words_at : List (List ℕ) → Result GrandLine What
grand_words_at [] = Err UnknownWord
grand_words_at (word ∷ args) = from_grand_keyword args (grand_keyword_at word)

-- what a line says
abbrev pub grand_line_at : List ℕ → Result GrandLine What
grand_line_at = line_by grand_words_at

-- what a whole text says
abbrev pub grand_script_at : List ℕ → Result (List GrandLine) ScriptFault
grand_script_at = script_by (λ first. grand_words_at)
