-- What the server and the clients are set up with, and the heads that they read then.
use Rattle.std.specs.Prelude.{ℕ, Bool, true, nat_lt, if◌then◌else◌, List, [], length, Option, Some, None, Ok, codes}
use Rattle.ra_base.specs.declared.key.Key.{Key}
use Rattle.ra_upgrade.specs.declared.request_head.HeadFault.{HeadFault}
use Rattle.ra_upgrade.specs.declared.request_head.Upgrade.{Upgrade}
use Rattle.ra_upgrade.specs.AnswerTexts.{answer_text}
use Rattle.ra_upgrade.specs.Exchange.{requested}
use Rattle.ra_upgrade.specs.RequestTexts.{key_text}
use Rattle.ra_items.specs.Heads.{Head as RequestHead}
use Rattle.ra_sign.specs.Signature.{signature_text, is_signature}
use Rattle.ra_shake.specs.declared.settings.ShakeSettings.{ShakeSettings}
use Rattle.ra_opening.specs.Openings.{Grounds, grounds_of}
use Rattle.ra_values.specs.Tree.{Tree, text}
use Rattle.ra_dial.specs.declared.stage.Stage.{Stage}
use Rattle.ra_dial.specs.declared.stage.Stage.TheVariants as stages
use Rattle.ra_dial.specs.Clients.{Settings, request_of}
use Rattle.ra_dial.specs.Handshakes.{Head}

-- the connection token of all, which they sign with too
abbrev pub secret : List ℕ
secret = codes "s3"

abbrev pub shake_settings : ShakeSettings
shake_settings = record { secret = Some secret; commit = [] }

-- a client's, for the session of this key
abbrev pub settings_for : Key → Settings
settings_for key = record { shake = shake_settings; sign_key = secret; key = key; host = codes "localhost"; skip_frames = true }

-- what a management session of a client says first
abbrev pub context : Tree
context = text (codes "window")

-- what the server's openings go by, with the draws of the link
abbrev pub grounds : (ℕ → List ℕ) → Grounds
grounds draw = grounds_of shake_settings (signature_text secret) (is_signature secret) draw

-- how long a lost session may be reconnected, and how long once another request has come
abbrev pub long_grace : ℕ
long_grace = 10800000

abbrev pub short_grace : ℕ
short_grace = 300000

-- ---- heads

-- the head that the server reads on a link: the request of the client, with the key that it drew
abbrev pub request_head : Settings → Bool → List ℕ → RequestHead Upgrade HeadFault
request_head settings reconnection key = record {
  size = length (request_of settings reconnection key);
  says = Ok (requested settings.key.token reconnection settings.skip_frames key);
}

-- the head that a client reads, once it has come: the answer to its key
abbrev pub answer_with : ℕ → ℕ → Head
answer_with size there = if nat_lt there size then Ok None else Ok (Some size)

abbrev pub answer_head : Option (List ℕ) → List ℕ → Head
answer_head None unread = Ok None
answer_head (Some key) unread = answer_with (length (answer_text (key_text key))) (length unread)

abbrev pub answer_at : Stage → Head
answer_at (stages.Resting until) = Ok None
answer_at (stages.Calling since) = Ok None
answer_at (stages.Shaking since s) = answer_head s.key s.unread
answer_at stages.Attached = Ok None
answer_at (stages.Over end) = Ok None
