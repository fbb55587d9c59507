-- What the two ends of a handshake go by, and how far they are.
use Rattle.std.specs.Prelude.{ℕ, Bool, List, Option, Some, None, codes, IsUtf8, ⊤}
use Rattle.ra_base.specs.declared.kind.Kind.{Kind}
use Rattle.ra_shake.specs.declared.settings.ShakeSettings.{ShakeSettings}
use Rattle.ra_shake.specs.declared.server.Stage.{Stage}

-- the server: the token and the claim of its link, the challenge that it made, and what it waits for
pub record ServerState : Type 0 where
  pub settings : ShakeSettings
  pub token : List ℕ
  pub reconnection : Bool
  pub challenge : List ℕ
  pub stage : Stage

-- the client: the kind of session that it wants, the challenge that it made, and whether it has said its second message
pub record ClientState : Type 0 where
  pub settings : ShakeSettings
  pub kind : Kind
  pub challenge : List ℕ
  pub has_answered : Bool

-- the connection token that a client names, which is twenty zeros where it has none
abbrev pub secret_or_zeros : Option (List ℕ) → List ℕ
secret_or_zeros None = codes "00000000000000000000"
secret_or_zeros (Some secret) = secret

abbrev pub IsSecretText : Option (List ℕ) → Type 0
IsSecretText None = ⊤
IsSecretText (Some secret) = IsUtf8 secret

-- all that a client writes into its texts, but for its signature, is UTF-8
pub record AreTexts (settings : ShakeSettings) (challenge : List ℕ) : Type 0 where
  pub secret_text : IsSecretText settings.secret
  pub commit_text : IsUtf8 settings.commit
  pub challenge_text : IsUtf8 challenge
