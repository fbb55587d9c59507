-- A line that says one call of a tool: `CHANNEL NAME H`.
use Rattle.std.specs.Prelude.{ℕ, List, [], ◌∷◌, Result, Ok, Err}
use Rattle.ra_script.specs.declared.call_line.CallLine.{CallLine}
use Rattle.ra_script.specs.declared.line.What.{What}
use Rattle.ra_script.specs.declared.line.What.TheVariants.{WrongCount}
use Rattle.ra_script.specs.Lines.{line_by}
use Rattle.ra_script.specs.Words.{◌>>=◌, bytes_at}

-- the channel and the name are any words, and the argument is bytes
unfoldable pub call_words_at : List (List ℕ) → Result CallLine What
call_words_at (channel ∷ name ∷ h ∷ []) = do
  arg ← bytes_at h
  Ok (record { channel = channel; name = name; arg = arg })
call_words_at _ = Err WrongCount

unfoldable pub call_line_at : List ℕ → Result CallLine What
call_line_at line = line_by call_words_at line
