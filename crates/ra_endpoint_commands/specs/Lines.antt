-- The lines that the program prints.
use Rattle.std.specs.Prelude.{ℕ, List, [], ◌∷◌, ◌++◌, codes}
use Rattle.std.specs.Fmt.{decimal}
use Rattle.hex.specs.Hex.{encode_lower}

-- bytes as lower-case hexadecimal digits, and none as a dash
abbrev pub hex_of : List ℕ → List ℕ
hex_of [] = codes "-"
hex_of (byte ∷ bytes) = encode_lower (byte ∷ bytes)

-- a line ends with a line feed
abbrev pub line : List ℕ → List ℕ
line text = text ++ 10 ∷ []

-- a message was handed up
abbrev pub up_line : ℕ → List ℕ → List ℕ
up_line id body = line (codes "up " ++ decimal id ++ codes " " ++ hex_of body)

-- the body of a control frame was handed up
abbrev pub control_line : List ℕ → List ℕ
control_line body = line (codes "control " ++ hex_of body)

-- the peer has left
abbrev pub ended_line : List ℕ
ended_line = line (codes "ended")

-- bytes became ready to write
abbrev pub write_line : List ℕ → List ℕ
write_line bytes = line (codes "write " ++ hex_of bytes)

-- the end of the input
abbrev pub end_line : ℕ → ℕ → List ℕ
end_line heard rest = line (codes "end heard=" ++ decimal heard ++ codes " rest=" ++ decimal rest)

-- a header at this byte states too long a body
abbrev pub too_long_line : ℕ → ℕ → List ℕ
too_long_line stated at = line (codes "refused: body of " ++ decimal stated ++ codes " bytes at byte " ++ decimal at)

-- the input of `receive` is too long
abbrev pub over_line : List ℕ
over_line = line (codes "refused: input over 1073741824 bytes")

-- the words are no command
abbrev pub usage_line : List ℕ
usage_line = line (codes "usage: agent receive|replay|grand|soak START STEPS|serve|attach|audit PATH")
