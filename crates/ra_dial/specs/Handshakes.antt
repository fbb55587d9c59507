-- What a dialer makes of the bytes that come while it shakes hands: the server's answer to the upgrade, and then one frame after
-- the other.
use Rattle.std.specs.Prelude.{ℕ, ◌≡◌, ◌-◌, Bool, List, [], ◌++◌, Option, Some, None, Result, Ok, Err, length, drop, if◌then◌else◌}
use Rattle.ra_model.specs.declared.frame.Frame.{Frame}
use Rattle.ra_model.specs.Frames.{frame_bytes}
use Rattle.ra_model.specs.FirstFrame.{first_frame, is_too_long}
use Rattle.ra_model.specs.FrameKinds.{FrameKind, Regular, Control, Disconnect, ReplayRequest, Pause, Resume, Other, frame_kind, control_frame}
use Rattle.ra_upgrade.specs.declared.answer_head.AnswerFault.{AnswerFault}
use Rattle.ra_upgrade.specs.AnswerHeads.{AnswerIs}
use Rattle.ra_sign.specs.Signature.{signature_text}
use Rattle.ra_shake.specs.declared.client.ClientStep.{ClientStep}
use Rattle.ra_shake.specs.declared.client.ClientStep.TheVariants as steps
use Rattle.ra_shake.specs.States.{ClientState, secret_or_zeros}
use Rattle.ra_shake.specs.Texts.{auth_text}
use Rattle.ra_shake.specs.Client.{client_step, client_after}
use Rattle.ra_dial.specs.Clients.{Settings}
use Rattle.ra_dial.specs.declared.stage.Stage.{Stage}
use Rattle.ra_dial.specs.declared.stage.Stage.TheVariants as stages
use Rattle.ra_dial.specs.ShakingStates.{ShakingState}
use Rattle.ra_dial.specs.declared.handshake.Handled.{Handled}
use Rattle.ra_dial.specs.declared.handshake.Handled.TheVariants as handled

-- what a server's answer says: nothing while it is not whole, else its length, or what is wrong with it
abbrev pub Head : Type 0
Head = Result (Option ℕ) AnswerFault

-- the unread bytes have this answer, where an answer to a request with that key is waited for
abbrev pub HasHead : Option (List ℕ) → List ℕ → Head → Type 0
HasHead None unread head = Unit {0}
HasHead (Some key) unread head = AnswerIs key unread head

abbrev pub IsHeadOf : Stage → Head → Type 0
IsHeadOf (stages.Resting until) head = Unit {0}
IsHeadOf (stages.Calling since) head = Unit {0}
IsHeadOf (stages.Shaking since s) head = HasHead s.key s.unread head
IsHeadOf stages.Attached head = Unit {0}
IsHeadOf (stages.Over end) head = Unit {0}

-- ---- bytes that come

abbrev pub fed_to : Option (List ℕ) → List ℕ → ShakingState → ShakingState
fed_to None piece s = record s { unread = s.unread ++ piece }
fed_to (Some rest) piece s = record s { rest = Some (rest ++ piece) }

-- what is to be handed out takes what comes before it was
abbrev pub fed : List ℕ → ShakingState → ShakingState
fed piece s = fed_to s.rest piece s

-- ---- what comes of them, and the handshake after it

pub data Look : Type 0 where
  -- no whole answer and no whole frame is there
  is_open : Look
  goes_on : (written : List ℕ) → Look
  -- what came is no part of a handshake
  fails : Look
  refuses : (reason : List ℕ) → Look
  -- the first bytes of the session
  accepts : (chunk : List ℕ) → Look

abbrev pub Looked : Type 0
Looked = Look × ShakingState

abbrev pub in_frame : List ℕ → List ℕ
in_frame text = frame_bytes (control_frame text)

abbrev pub first_text : ClientState → List ℕ
first_text shake = auth_text (secret_or_zeros shake.settings.secret) shake.challenge

-- what follows the answer is frames, or the messages of a WebSocket
abbrev pub behind_answer : Bool → List ℕ → ShakingState → ShakingState
behind_answer skip_frames rest s =
    if skip_frames then record s { key = None; unread = rest } else record s { key = None; rest = Some rest; unread = [] }

-- behind a good answer the client says its first text
abbrev pub on_answer : Bool → Head → ShakingState → Looked
on_answer skip_frames (Ok None) s = (is_open, s)
on_answer skip_frames (Ok (Some n)) s = (goes_on (in_frame (first_text s.shake)), behind_answer skip_frames (drop n s.unread) s)
on_answer skip_frames (Err fault) s = (fails, s)

-- a control frame, before the rest. The bytes of a Pause that was read begin the session's
abbrev pub on_step : ClientStep → List ℕ → ShakingState → Looked
on_step (steps.Say text) rest s = (goes_on (in_frame text), record s { unread = rest; shake = client_after s.shake (steps.Say text) })
on_step steps.Done rest s = (accepts (s.pause ++ rest), record s { unread = rest })
on_step (steps.Refused reason) rest s = (refuses reason, s)
on_step steps.Unexpected rest s = (fails, s)

abbrev pub on_control : (List ℕ → List ℕ) → List ℕ → List ℕ → ShakingState → Looked
on_control signature body rest s = on_step (client_step signature s.shake body) rest s

abbrev pub passes : List ℕ → ShakingState → Looked
passes rest s = (goes_on [], record s { unread = rest })

abbrev pub on_frame : (List ℕ → List ℕ) → FrameKind → Frame → List ℕ → ShakingState → Looked
on_frame signature Regular f rest s = passes rest s
on_frame signature Control f rest s = on_control signature f.body rest s
on_frame signature Disconnect f rest s = (fails, s)
on_frame signature ReplayRequest f rest s = passes rest s
on_frame signature Pause f rest s = passes rest (record s { pause = frame_bytes f })
on_frame signature Resume f rest s = passes rest s
on_frame signature Other f rest s = passes rest s

abbrev pub on_first : (List ℕ → List ℕ) → Option (Frame × List ℕ) → ShakingState → Looked
on_first signature None s = (is_open, s)
on_first signature (Some p) s = on_frame signature (frame_kind p.0.kind) p.0 p.1 s

unfoldable pub on_frames : (List ℕ → List ℕ) → ShakingState → Looked
on_frames signature s = if is_too_long s.unread then (fails, s) else on_first signature (first_frame s.unread) s

abbrev pub on_unread : (List ℕ → List ℕ) → Option (List ℕ) → ShakingState → Looked
on_unread signature None s = on_frames signature s
on_unread signature (Some rest) s = (is_open, s)

abbrev pub on_shaking : Settings → Option (List ℕ) → Head → ShakingState → Looked
on_shaking settings (Some key) head s = on_answer settings.skip_frames head s
on_shaking settings None head s = on_unread (signature_text settings.sign_key) s.rest s

-- the answer head or one frame is looked at, where it is whole
abbrev pub looked_at : Settings → Head → ShakingState → Looked
looked_at settings head s = on_shaking settings s.key head s

-- ---- what is kept of it

abbrev pub look_of : Handled → Look
look_of handled.Waits = is_open
look_of (handled.GoesOn header text) = goes_on (header ++ text)
look_of handled.Fails = fails
look_of (handled.Refuses reason) = refuses reason
look_of (handled.Accepts chunk) = accepts chunk

-- the handshake is kept as it was, unless it went on
abbrev pub kept_by : Look → ShakingState → ShakingState → ShakingState
kept_by is_open next old = old
kept_by (goes_on written) next old = next
kept_by fails next old = old
kept_by (refuses reason) next old = old
kept_by (accepts chunk) next old = old

-- this came of a look, and this is kept of the handshake
pub record Came (old new : ShakingState) (h : Handled) (looked : Looked) : Type 0 where
  pub look : look_of h ≡ looked.0
  pub kept : new ≡ kept_by looked.0 looked.1 old

-- a look at the unread bytes, by the answer that they have, where one is waited for
pub record Handles (settings : Settings) (old new : ShakingState) (h : Handled) : Type 0 where
  pub head : Head
  pub is_head : HasHead old.key old.unread head
  pub came : Came old new h (looked_at settings head old)

-- how many bytes went
abbrev pub taken_by : ShakingState → ShakingState → ℕ
taken_by before after = length before.unread - length after.unread
