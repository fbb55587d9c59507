-- What a text comes to, for an opening in memory that has handled it.
use Rattle.std.specs.Prelude.{◌≡◌, ◌≢◌, ℕ, ◌≤◌, Bool, true, false, length, List, ◌∷◌, ◌++◌, [], drop, Option, Some, Ok, ⊤}
use Rattle.ra_base.specs.declared.handshake.Reason.{Reason}
use Rattle.ra_base.specs.declared.handshake.Request.{Request}
use Rattle.ra_base.specs.declared.kind.Kind.TheVariants.{Tunnel}
use Rattle.ra_frame.specs.declared.reader.FrameFault.{FrameFault}
use Rattle.ra_frame.specs.declared.reader.FrameFault.TheVariants as frame_faults
use Rattle.ra_model.specs.declared.frame.Frame.{Frame}
use Rattle.ra_model.specs.Frames.{frame_bytes}
use Rattle.ra_model.specs.FrameKinds.{frame_kind, control_frame}
use Rattle.ra_model.specs.FrameKinds.FrameKind.{Control}
use Rattle.ra_items.specs.Heads.{Head, IsRequestOf}
use Rattle.ra_items.specs.Items.{Placed}
use Rattle.ra_items.specs.Items.Item.{FrameItem}
use Rattle.ra_items.specs.Readers.{Reader, HasRead}
use Rattle.ra_shake.specs.declared.server.ShakeStep.TheVariants.{Say, Ask, Refuse}
use Rattle.ra_shake.specs.Server.{server_step, server_after}
use Rattle.ra_shake.specs.States.{ServerState}
use Rattle.ra_upgrade.specs.declared.request_head.HeadFault.{HeadFault}
use Rattle.ra_upgrade.specs.declared.request_head.Upgrade.{Upgrade}
use Rattle.ra_upgrade.specs.RequestHeads.{HeadIs}
use Rattle.ra_opening.specs.declared.ends.OpeningEnd.{OpeningEnd}
use Rattle.ra_opening.specs.declared.ends.OpeningEnd.TheVariants as ends
use Rattle.ra_opening.specs.declared.ends.OpeningStep.{OpeningStep}
use Rattle.ra_opening.specs.declared.ends.OpeningStep.TheVariants as steps
use Rattle.ra_opening.specs.declared.shaking.Found.{Found}
use Rattle.ra_opening.specs.declared.shaking.Found.TheVariants as found
use Rattle.ra_opening.specs.declared.shaking.Controlled.{Controlled}
use Rattle.ra_opening.specs.declared.shaking.Controlled.TheVariants as controlled
use Rattle.ra_opening.specs.Openings.{Grounds, Opened, new_opened, items_done, opened}
use Rattle.ra_opening.specs.Openings.Stage.{Shaking, Asked, Over}
use Rattle.ra_opening.specs.Verdicts.{refusal_bytes}
use Rattle.ra_opening.specs.declared.phase.Phase.{Phase}
use Rattle.ra_opening.specs.Stands.{OpeningState, Tells, IsShaking, IsWaiting, Stands, NeedsFraming}

-- the client has asked, and this is what stands behind its message
pub record IsAsked (grounds : Grounds) (head : Head Upgrade HeadFault) (text before : List ℕ) (next : ℕ → List ℕ) (request : Request) (rest out : List ℕ) : Type 0 where
  pub place : ℕ
  pub stage : (opened grounds head text).stage ≡ Asked request place
  pub behind : drop place text ≡ rest
  pub tells : Tells grounds before next out (opened grounds head text)

-- the opening is over
pub record IsOver (grounds : Grounds) (head : Head Upgrade HeadFault) (text before : List ℕ) (next : ℕ → List ℕ) (end : OpeningEnd) (out : List ℕ) : Type 0 where
  pub stage : (opened grounds head text).stage ≡ Over end
  pub tells : Tells grounds before next out (opened grounds head text)

-- a part of what an opening wrote and drew
pub record IsPart (part whole : Opened) : Type 0 where
  pub more : List ℕ
  pub out : whole.out ≡ part.out ++ more
  pub drawn : part.drawn ≤ whole.drawn

-- memory ran out: a part was written and drawn
pub record RanShort (grounds : Grounds) (head : Head Upgrade HeadFault) (text before : List ℕ) (next : ℕ → List ℕ) (out : List ℕ) : Type 0 where
  pub part : Opened
  pub is_part : IsPart part (opened grounds head text)
  pub tells : Tells grounds before next out part

abbrev pub Ends : OpeningEnd → Grounds → Head Upgrade HeadFault → List ℕ → List ℕ → (ℕ → List ℕ) → List ℕ → Type 0
Ends ends.NoMemory grounds head text before next out = RanShort grounds head text before next out
Ends (ends.BadHead fault) grounds head text before next out = IsOver grounds head text before next (ends.BadHead fault) out
Ends (ends.Refused reason) grounds head text before next out = IsOver grounds head text before next (ends.Refused reason) out
Ends (ends.TooLong n) grounds head text before next out = IsOver grounds head text before next (ends.TooLong n) out
Ends ends.Left grounds head text before next out = IsOver grounds head text before next ends.Left out

-- what a call answers, and where the opening stands then
abbrev pub Comes : OpeningStep → Grounds → Head Upgrade HeadFault → List ℕ → List ℕ → (ℕ → List ℕ) → OpeningState → List ℕ → Type 0
Comes steps.Waits grounds head text before next opening out = Stands grounds head text before next opening out
Comes (steps.Ask request) grounds head text before next opening out = IsAsked grounds head text before next request opening.reader.unread out
Comes (steps.End end) grounds head text before next opening out = Ends end grounds head text before next out

-- ---- the frames of a handshake

-- a control frame was read, which the handshake has still to judge
pub record HasControl (grounds : Grounds) (head : Head Upgrade HeadFault) (text before : List ℕ) (next : ℕ → List ℕ) (reader : Reader) (shake : ServerState) (body out : List ℕ) : Type 0 where
  pub done : List (Placed Upgrade HeadFault)
  pub frame : Frame
  pub place : ℕ
  pub read : HasRead head text (done ++ record { item = FrameItem frame; place = place } ∷ []) place reader
  pub kind : frame_kind frame.kind ≡ Control
  pub body_is : frame.body ≡ body
  pub stage : (items_done grounds done new_opened).stage ≡ Shaking shake
  pub tells : Tells grounds before next out (items_done grounds done new_opened)

-- what stays as frames are passed over
pub record PassesOver (old now : Reader) : Type 0 where
  pub behind : now.behind_head ≡ true
  pub fewer : length now.unread ≤ length old.unread
  pub keeps : (g : Grounds) (head : Head Upgrade HeadFault) (text before : List ℕ) (next : ℕ → List ℕ) (shake : ServerState) (out : List ℕ)
      → IsShaking g head text before next old shake out → IsShaking g head text before next now shake out

-- what the frames of a handshake come to, up to the first that counts
abbrev pub Finds : Found → Grounds → Head Upgrade HeadFault → List ℕ → List ℕ → (ℕ → List ℕ) → Reader → ServerState → List ℕ → Type 0
Finds found.Waits grounds head text before next reader shake out = IsWaiting grounds head text before next reader shake out
Finds (found.Control body) grounds head text before next reader shake out = HasControl grounds head text before next reader shake body out
Finds found.Left grounds head text before next reader shake out = IsOver grounds head text before next ends.Left out
Finds (found.TooLong n) grounds head text before next reader shake out = IsOver grounds head text before next (ends.TooLong n) out
Finds found.NoMemory grounds head text before next reader shake out = RanShort grounds head text before next out

abbrev pub found_of : FrameFault → Found
found_of (frame_faults.TooLong n) = found.TooLong n
found_of frame_faults.NoMemory = found.NoMemory

-- what a message of the handshake came to
pub record IsSaid (signature : List ℕ → List ℕ) (counts : List ℕ → List ℕ → Bool) (old new : ServerState) (body before out : List ℕ) : Type 0 where
  pub text : List ℕ
  pub step : server_step signature counts old body ≡ Say text
  pub after : new ≡ server_after old (Say text)
  pub written : out ≡ before ++ frame_bytes (control_frame text)

pub record IsRefused (signature : List ℕ → List ℕ) (counts : List ℕ → List ℕ → Bool) (old : ServerState) (body : List ℕ) (reason : Reason) (before out : List ℕ) : Type 0 where
  pub step : server_step signature counts old body ≡ Refuse reason
  pub written : out ≡ before ++ refusal_bytes reason

abbrev pub Answers : Controlled → (List ℕ → List ℕ) → (List ℕ → List ℕ → Bool) → ServerState → ServerState → List ℕ → List ℕ → List ℕ → Type 0
Answers controlled.Said signature counts old new body before out = IsSaid signature counts old new body before out
Answers (controlled.Ask request) signature counts old new body before out = (server_step signature counts old body ≡ Ask request) × (out ≡ before)
Answers (controlled.Refused reason) signature counts old new body before out = IsRefused signature counts old body reason before out
Answers controlled.NoMemory signature counts old new body before out = out ≡ before

-- a refusal was written, or nothing
abbrev pub Refuses : Controlled → Reason → List ℕ → List ℕ → Type 0
Refuses controlled.Said reason before out = ⊥
Refuses (controlled.Ask request) reason before out = ⊥
Refuses (controlled.Refused told) reason before out = (told ≡ reason) × (out ≡ before ++ refusal_bytes reason)
Refuses controlled.NoMemory reason before out = out ≡ before

abbrev pub IsControl : Found → Type 0
IsControl found.Waits = ⊥
IsControl (found.Control body) = ⊤
IsControl found.Left = ⊥
IsControl (found.TooLong n) = ⊥
IsControl found.NoMemory = ⊥

-- what the frames of a handshake come to
abbrev pub Shakes : OpeningStep → Grounds → Head Upgrade HeadFault → List ℕ → List ℕ → (ℕ → List ℕ) → Reader → ServerState → List ℕ → Type 0
Shakes steps.Waits grounds head text before next reader shake out = IsWaiting grounds head text before next reader shake out
Shakes (steps.Ask request) grounds head text before next reader shake out = IsAsked grounds head text before next request reader.unread out
Shakes (steps.End end) grounds head text before next reader shake out = Ends end grounds head text before next out

-- ---- the head is known

-- some head answers each front of the text
abbrev pub HasHead : List ℕ → Type 0
HasHead text = (head : Head Upgrade HeadFault) × IsRequestOf text head

-- only where memory ran out it was not judged
abbrev pub IsKnownAt : OpeningEnd → List ℕ → Type 0
IsKnownAt ends.NoMemory text = ⊤
IsKnownAt (ends.BadHead fault) text = HasHead text
IsKnownAt (ends.Refused reason) text = HasHead text
IsKnownAt (ends.TooLong n) text = HasHead text
IsKnownAt ends.Left text = HasHead text

abbrev pub IsKnown : OpeningStep → List ℕ → Type 0
IsKnown steps.Waits text = HasHead text
IsKnown (steps.Ask request) text = HasHead text
IsKnown (steps.End end) text = IsKnownAt end text

-- ---- what is asked for

-- a request is for no tunnel
abbrev pub AsksServed : OpeningStep → Type 0
AsksServed steps.Waits = ⊤
AsksServed (steps.Ask request) = request.kind ≢ Some Tunnel
AsksServed (steps.End end) = ⊤

-- ---- framing

-- the text begins with a head that asks for the messages of a framed stream
pub record AsksFraming (text : List ℕ) : Type 0 where
  pub upgrade : Upgrade
  pub size : ℕ
  pub is_head : HeadIs text (Ok (Some (upgrade, size)))
  pub asks : upgrade.skip_frames ≡ false

-- memory ran out
abbrev pub IsNoMemory : OpeningEnd → Type 0
IsNoMemory ends.NoMemory = ⊤
IsNoMemory (ends.BadHead fault) = ⊥
IsNoMemory (ends.Refused reason) = ⊥
IsNoMemory (ends.TooLong n) = ⊥
IsNoMemory ends.Left = ⊥

-- the link waits to be framed, or memory ran out and nothing was written
abbrev pub WaitsForFraming : OpeningStep → Phase → (before out : List ℕ) → Type 0
WaitsForFraming steps.Waits phase before out = NeedsFraming phase
WaitsForFraming (steps.Ask request) phase before out = ⊥
WaitsForFraming (steps.End end) phase before out = IsNoMemory end × (out ≡ before)
