-- Reading a text line by line, in any grammar of lines. A grammar gives what the words of a line say, and is told whether the
-- line is the first one.
use Rattle.std.specs.Prelude.{◌≡◌, ℕ, ◌+◌, ◌==◌, ◌&&◌, nat_le, Bool, if◌then◌else◌, List, [], ◌∷◌, length, Result, Ok, Err}
use Rattle.std.specs.List.{slice_split, list_all}
use Rattle.ra_script.specs.declared.line.What.{What}
use Rattle.ra_script.specs.declared.line.What.TheVariants.{NotText}
use Rattle.ra_script.specs.declared.line.ScriptFault.{ScriptFault}
use Rattle.ra_script.specs.declared.line.ScriptFault.TheVariants as faults
use Rattle.ra_script.specs.Words.{◌>>=◌}

-- ---- a line

-- a byte from the space to the tilde
abbrev pub is_text : ℕ → Bool
is_text c = nat_le 32 c && nat_le c 126

-- the words of a line, of which two have one space between
abbrev pub words_in : List ℕ → List (List ℕ)
words_in line = slice_split (λ c. c == 32) line

-- what a line says
unfoldable pub line_by : {L : Type 0} → (List (List ℕ) → Result L What) → List ℕ → Result L What
line_by says line = if list_all is_text line then says (words_in line) else Err NotText

-- ---- a text

-- an empty last part is no line
abbrev pub without_empty_last : List (List ℕ) → List (List ℕ)
without_empty_last [] = []
without_empty_last (part ∷ []) = if length part == 0 then [] else part ∷ []
without_empty_last (part ∷ next ∷ parts) = part ∷ without_empty_last (next ∷ parts)

-- the parts between newlines, of which the last one may be missing
unfoldable pub text_lines : List ℕ → List (List ℕ)
text_lines text = without_empty_last (slice_split (λ c. c == 10) text)

-- a line's cause with its number
abbrev pub numbered : {L : Type 0} → ℕ → Result L What → Result L ScriptFault
numbered n (Ok line) = Ok line
numbered n (Err what) = Err (faults.At n what)

-- lines that are numbered from n
unfoldable pub lines_by : {L : Type 0} → (Bool → List (List ℕ) → Result L What) → ℕ → List (List ℕ) → Result (List L) ScriptFault
lines_by says n [] = Ok []
lines_by says n (line ∷ lines) = do
  first ← numbered n (line_by (says (n == 1)) line)
  others ← lines_by says (n + 1) lines
  Ok (first ∷ others)

-- what a whole text says
abbrev pub script_by : {L : Type 0} → (Bool → List (List ℕ) → Result L What) → List ℕ → Result (List L) ScriptFault
script_by says text = lines_by says 1 (text_lines text)

-- ---- what the code answers

-- what a call returned, seen by view, is what reading gives, unless memory ran out
abbrev pub Fails : {Y : Type 0} → ScriptFault → Result Y ScriptFault → Type 0
Fails (faults.At line what) read = read ≡ Err (faults.At line what)
Fails faults.NoMemory read = Unit {0}

abbrev pub Gives : {X Y : Type 0} → (X → Y) → Result X ScriptFault → Result Y ScriptFault → Type 0
Gives view (Ok x) read = read ≡ Ok (view x)
Gives view (Err fault) read = Fails fault read
