-- What an endpoint sees to come before it takes it, and the next message among its unread bytes.
use Rattle.std.specs.Prelude.{◌≡◌, ◌≤◌, ℕ, suc, Bool, true, false, not, List, length, drop, Option, Some, None}
use Rattle.ra_model.specs.declared.frame.Frame.{Frame}
use Rattle.ra_model.specs.declared.session.Up.{Up as Delivery}
use Rattle.ra_model.specs.declared.session.Up.TheVariants.{Message as MessageUp, Control as ControlUp, Quiet, Ended}
use Rattle.ra_model.specs.FirstFrame.{first_frame}
use Rattle.ra_model.specs.Endpoints.{is_linked}
use Rattle.ra_model.specs.EndpointStates.{EndpointState}
use Rattle.ra_model.specs.HeardPlaces.{is_message}
use Rattle.ra_proto.specs.declared.coming.Coming.{Coming}
use Rattle.ra_proto.specs.declared.coming.Coming.TheVariants.{Nothing, Message, Other}

-- something is handed up, and it is no message
abbrev pub is_no_message : Option Delivery → Bool
is_no_message None = false
is_no_message (Some (MessageUp id body)) = false
is_no_message (Some (ControlUp body)) = true
is_no_message (Some Quiet) = true
is_no_message (Some Ended) = true

-- what is seen to come agrees with what is handed up
abbrev pub Agrees : Coming → Option Delivery → Type 0
Agrees Nothing up = up ≡ None
Agrees (Message m) up = up ≡ Some (MessageUp m.id m.body)
Agrees Other up = is_no_message up ≡ true

-- the first frame, where there is one, is not the message behind this id
abbrev pub is_other : ℕ → Option (Frame × List ℕ) → Bool
is_other last None = false
is_other last (Some next) = not (is_message (suc last) next.0)

-- this frame with this many bytes begins the unread ones
pub record IsAtFront (frame : Frame) (len : ℕ) (s : EndpointState) : Type 0 where
  pub linked : is_linked s.phase ≡ true
  pub first : first_frame s.unread ≡ Some (frame, drop len s.unread)
  pub within : len ≤ length s.unread

-- the next frame is the next message: it has this id, this ack and this many bytes
pub record IsNextMessage (id ack len : ℕ) (s : EndpointState) : Type 0 where
  pub linked : is_linked s.phase ≡ true
  pub next : id ≡ suc s.received
  pub frame : Frame
  pub first : first_frame s.unread ≡ Some (frame, drop len s.unread)
  pub within : len ≤ length s.unread
  pub kind : frame.kind ≡ 1
  pub frame_id : frame.id ≡ id
  pub frame_ack : frame.ack ≡ ack

-- where the answer has a message, it is the next one
abbrev pub ComesNext : Coming → EndpointState → Type 0
ComesNext Nothing s = Unit {0}
ComesNext (Message m) s = IsNextMessage m.id m.ack m.len s
ComesNext Other s = Unit {0}

-- what comes next is as it was
pub record SameReading (old new : EndpointState) : Type 0 where
  pub phase : new.phase ≡ old.phase
  pub received : new.received ≡ old.received
  pub unread : new.unread ≡ old.unread
