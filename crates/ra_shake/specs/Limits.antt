-- How long a text of a handshake may be.
use Rattle.std.specs.Prelude.{ℕ}

-- the most bytes of a text of a handshake that an end takes
abbrev pub text_limit : ℕ
text_limit = 1048576
