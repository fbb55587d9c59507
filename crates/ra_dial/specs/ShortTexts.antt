-- Texts that are short enough for a handshake's frames.
use Rattle.std.specs.Prelude.{ℕ, ◌≤◌, List, Option, Some, None, length, ⊤}
use Rattle.ra_shake.specs.States.{ClientState}

-- the most bytes of a connection token and of a version
abbrev pub most_text : ℕ
most_text = 65536

abbrev pub IsShort : Option (List ℕ) → Type 0
IsShort None = ⊤
IsShort (Some secret) = length secret ≤ most_text

-- all that a client writes into its texts is short
pub record IsShortShake (shake : ClientState) : Type 0 where
  pub secret : IsShort shake.settings.secret
  pub commit : length shake.settings.commit ≤ most_text
  pub challenge : length shake.challenge ≤ most_text
