-- What a client asks for by the request that it writes, and what has to hold of its parts so that a server reads it as that.
use Rattle.std.specs.Prelude.{◌≡◌, ℕ, ◌<◌, ◌≤◌, Bool, List, length, All, Some}
use Rattle.std.specs.List.{AllPass}
use Rattle.httparse.specs.Grammar.{is_value_byte}
use Rattle.ra_base.specs.TokenGrammar.{IsToken}
use Rattle.ra_upgrade.specs.declared.request_head.Upgrade.{Upgrade}
use Rattle.ra_upgrade.specs.RequestTexts.{key_text}

-- the token is one, the key has 16 bytes, and the host has no control byte but the tab and at most 15,000 bytes
pub record IsReadable (host token key : List ℕ) : Type 0 where
  pub is_token : IsToken token
  pub key_len : length key ≡ 16
  pub key_bytes : All (λ b. b < 256) key
  pub host_bytes : AllPass is_value_byte host
  pub host_len : length host ≤ 15000

-- what the client asks for
abbrev pub requested : List ℕ → Bool → Bool → List ℕ → Upgrade
requested token reconnection skip_frames key =
    record { token = Some token; reconnection = reconnection; skip_frames = skip_frames; key = key_text key }
