-- What the two ends of a link write until its session begins, and how far each end is with what it has read.
use Rattle.std.specs.Prelude.{◌≡◌, ◌⊎◌, ℕ, ◌≤◌, Bool, true, false, Option, Some, None, List, [], ◌++◌, length, drop, ⊤}
use Rattle.ra_base.specs.declared.handshake.Reason.{Reason}
use Rattle.ra_base.specs.declared.handshake.Request.{Request}
use Rattle.ra_base.specs.declared.key.Key.{Key}
use Rattle.ra_base.specs.declared.kind.Kind.{Kind}
use Rattle.ra_base.specs.declared.kind.Kind.TheVariants.{ExtensionHost}
use Rattle.ra_model.specs.Frames.{frame_bytes}
use Rattle.ra_model.specs.FrameKinds.{pause_frame}
use Rattle.ra_upgrade.specs.AnswerTexts.{answer_text}
use Rattle.ra_upgrade.specs.RequestTexts.{key_text}
use Rattle.ra_sign.specs.Signature.{signature_text}
use Rattle.ra_shake.specs.Client.{kind_number}
use Rattle.ra_shake.specs.Made.{made_text}
use Rattle.ra_shake.specs.Texts.{auth_text, sign_text, connection_text}
use Rattle.ra_opening.specs.declared.ends.OpeningEnd.TheVariants as opening_ends
use Rattle.ra_opening.specs.Openings.{Opened, Stage}
use Rattle.ra_opening.specs.Openings.Stage.{Heading, Shaking, Asked, Over}
use Rattle.ra_opening.specs.Verdicts.{refusal_bytes, acceptance_bytes}
use Rattle.ra_link_core.specs.LinkRuns.{Welcome, pause_bytes}
use Rattle.ra_dial.specs.Clients.{request_of}
use Rattle.ra_dial.specs.Handshakes.{Look, is_open, goes_on, fails, refuses, accepts, in_frame}
use Rattle.ra_dial.specs.ShakingStates.{ShakingState}
use Rattle.ra_grand_runs.specs.Reached.{Agrees}
use Rattle.ra_grand_runs.specs.SetUps.{secret, shake_settings, settings_for}

-- ---- texts. A challenge is made of drawn bytes

-- the client's first message, with its challenge
abbrev pub first_message : List ℕ → List ℕ
first_message own = in_frame (auth_text secret (made_text own))

-- its second message, which answers the server's challenge
abbrev pub second_message : Key → List ℕ → List ℕ
second_message owner theirs = in_frame (connection_text [] (kind_number owner.kind) (signature_text secret theirs))

-- all that a client writes: its request with a drawn key, and the two messages
abbrev pub client_text : Key → Bool → List ℕ → List ℕ → List ℕ → List ℕ
client_text owner reconnection key own theirs =
    request_of (settings_for owner) reconnection key ++ (first_message own ++ second_message owner theirs)

-- the server's answer to a request, and its message with its own challenge, which signs the client's
abbrev pub greeting : List ℕ → List ℕ → List ℕ → List ℕ
greeting key own theirs = answer_text (key_text key) ++ in_frame (sign_text (made_text own) (signature_text secret theirs))

-- ---- the server

abbrev pub request_for : Key → Bool → Request
request_for owner reconnection = record { kind = Some owner.kind; token = owner.token; reconnection = reconnection }

-- How far the server's opening is with a front of what the client writes, `draw` being its first draw.
abbrev pub OpensAt : Key → Bool → (key own theirs draw text : List ℕ) → Stage → Opened → Type 0
OpensAt owner reconnection key own theirs draw text Heading o = (o.out ≡ []) × (o.drawn ≡ 0)
OpensAt owner reconnection key own theirs draw text (Shaking s) o =
    ((o.out ≡ answer_text (key_text key)) ⊎ (o.out ≡ greeting key draw (made_text own))) × (o.drawn ≡ 1)
OpensAt owner reconnection key own theirs draw text (Asked request place) o =
    (request ≡ request_for owner reconnection) × (text ≡ client_text owner reconnection key own theirs) × (place ≡ length text)
    × (o.out ≡ greeting key draw (made_text own)) × (o.drawn ≡ 1)
OpensAt owner reconnection key own theirs draw text (Over end) o =
    (reason : Reason) × (end ≡ opening_ends.Refused reason) × (o.out ≡ greeting key draw (made_text own) ++ refusal_bytes reason) × (o.drawn ≡ 1)

-- What a server wrote on a link. Without a welcome it is a front of its messages and a refusal; with one, its messages and an acceptance
-- come first, as far as they were written, and the welcome tells their length and the Pause among them.
abbrev pub Speaks : Kind → List ℕ → Option Welcome → List ℕ → Type 0
Speaks kind key None out =
    (own theirs : List ℕ) × (reason : Reason) × (rest : List ℕ) × (out ++ rest ≡ greeting key own theirs ++ refusal_bytes reason)
Speaks kind key (Some w) out =
    (own theirs : List ℕ) × Agrees out (greeting key own theirs ++ acceptance_bytes kind)
    × (w.down ≡ length (greeting key own theirs ++ acceptance_bytes kind)) × (w.pause ≡ pause_bytes kind)

-- ---- the client

-- what it has read, by whether it waits for the answer to its request with that key, and whether it has answered the server's challenge
abbrev pub HasHeard : Key → (key read : List ℕ) → Option (List ℕ) → Bool → ShakingState → Type 0
HasHeard owner key read (Some waits) answered s = (waits ≡ key) × (s.unread ≡ read) × (s.pause ≡ []) × (answered ≡ false)
HasHeard owner key read None false s = (read ≡ answer_text (key_text key) ++ s.unread) × (s.pause ≡ [])
HasHeard owner key read None true s =
    (own theirs : List ℕ) × (read ≡ greeting key own theirs ++ (s.pause ++ s.unread))
    × ((s.pause ≡ []) ⊎ ((s.pause ≡ frame_bytes pause_frame) × (owner.kind ≡ ExtensionHost)))

-- a handshake of the client that has read this, with the challenge of these drawn bytes
pub record ReadsHandshake (owner : Key) (key own read : List ℕ) (s : ShakingState) : Type 0 where
  pub rest : s.rest ≡ None
  pub settings : s.shake.settings ≡ shake_settings
  pub kind : s.shake.kind ≡ owner.kind
  pub challenge : s.shake.challenge ≡ made_text own
  pub heard : HasHeard owner key read s.key s.shake.has_answered s

-- what it has said by then
abbrev pub HasSaid : Key → Bool → (key own text : List ℕ) → Option (List ℕ) → Bool → Type 0
HasSaid owner reconnection key own text (Some waits) answered = text ≡ request_of (settings_for owner) reconnection key
HasSaid owner reconnection key own text None false = text ≡ request_of (settings_for owner) reconnection key ++ first_message own
HasSaid owner reconnection key own text None true = (theirs : List ℕ) × (text ≡ client_text owner reconnection key own theirs)

-- What comes of a look at what it has read of what such a server wrote. It accepts exactly behind the acceptance.
abbrev pub LooksTo : Key → Bool → (key own read : List ℕ) → Option Welcome → ShakingState → Look → ShakingState → Type 0
LooksTo owner reconnection key own read welcome old is_open new = ⊤
LooksTo owner reconnection key own read welcome old (goes_on written) new =
    ReadsHandshake owner key own read new
    × ((text : List ℕ) → HasSaid owner reconnection key own text old.key old.shake.has_answered
    → HasSaid owner reconnection key own (text ++ written) new.key new.shake.has_answered)
LooksTo owner reconnection key own read welcome old fails new = ⊤
LooksTo owner reconnection key own read welcome old (refuses reason) new = ⊤
LooksTo owner reconnection key own read welcome old (accepts chunk) new =
    (w : Welcome) × (welcome ≡ Some w) × (w.down ≤ length read) × (chunk ≡ w.pause ++ drop w.down read)
