-- Who dials, and with what each of its handshakes begins.
use Rattle.std.specs.Prelude.{◌≢◌, ℕ, ◌≤◌, Bool, false, List, [], Some, None, length, IsUtf8}
use Rattle.ra_base.specs.declared.key.Key.{Key}
use Rattle.ra_base.specs.declared.kind.Kind.TheVariants.{Tunnel}
use Rattle.ra_upgrade.specs.RequestTexts.{request_text}
use Rattle.ra_shake.specs.declared.settings.ShakeSettings.{ShakeSettings}
use Rattle.ra_shake.specs.Made.{made_text}
use Rattle.ra_shake.specs.States.{IsSecretText}
use Rattle.ra_dial.specs.ShortTexts.{most_text, IsShort}
use Rattle.ra_dial.specs.ShakingStates.{ShakingState}

pub record Settings : Type 0 where
  pub shake : ShakeSettings
  pub sign_key : List ℕ
  -- the session that is to be attached
  pub key : Key
  pub host : List ℕ
  -- frames follow the server's answer directly
  pub skip_frames : Bool

-- it can dial: what it says is UTF-8 and short enough for a frame, and the session is none to a port
pub record CanDial (settings : Settings) : Type 0 where
  pub kind : settings.key.kind ≢ Tunnel
  pub secret_text : IsSecretText settings.shake.secret
  pub secret_short : IsShort settings.shake.secret
  pub commit_text : IsUtf8 settings.shake.commit
  pub commit_short : length settings.shake.commit ≤ most_text
  pub host_text : IsUtf8 settings.host

-- the request of a new link, with a drawn key
abbrev pub request_of : Settings → Bool → List ℕ → List ℕ
request_of settings reconnection key = request_text settings.host settings.key.token reconnection settings.skip_frames key

-- the handshake of a new link, with a drawn key, and a challenge that is made of drawn bytes
abbrev pub new_shaking : Settings → List ℕ → List ℕ → ShakingState
new_shaking settings key drawn = record {
  key = Some key;
  rest = None;
  unread = [];
  shake = record { settings = settings.shake; kind = settings.key.kind; challenge = made_text drawn; has_answered = false };
  pause = [];
}
