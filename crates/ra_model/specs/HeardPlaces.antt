-- Which of the frames that come to an endpoint bring the messages that it hands up.
use Rattle.std.specs.Prelude.{◌≡◌, ℕ, suc, ◌<◌, ◌≤◌, ◌==◌, true, false, Bool, ◌&&◌, if◌then◌else◌, Some, List, [], ◌∷◌, length, slice_get}
use Rattle.ra_model.specs.declared.frame.Frame.{Frame}
use Rattle.ra_model.specs.declared.session.Up.{Up as Delivery}
use Rattle.ra_model.specs.declared.session.Up.TheVariants.{Message, Control as ControlBody, Quiet, Ended as Closed}
use Rattle.ra_model.specs.FrameKinds.{frame_kind}
use Rattle.ra_model.specs.Endpoints.{Endpoint, is_ended}
use Rattle.ra_model.specs.Taking.{passed, on_frame, delivery_of}

-- a message with this id
abbrev pub is_message : ℕ → Frame → Bool
is_message id frame = (frame.kind == 1) && (frame.id == id)

abbrev pub before_disconnect : List Frame → List Frame
before_disconnect [] = []
before_disconnect (frame ∷ frames) = if frame.kind == 5 then [] else frame ∷ before_disconnect frames

-- none of the frames from start up to stop is the message
abbrev pub IsAbsent : List Frame → ℕ → ℕ → ℕ → Type 0
IsAbsent frames id start stop =
    (k : ℕ) (frame : Frame) → start ≤ k → k < stop → slice_get frames k ≡ Some frame → is_message id frame ≡ false

-- the first place from start on with the message
pub record IsFirst (frames : List Frame) (id start place : ℕ) : Type 0 where
  pub behind : start ≤ place
  pub frame : Frame
  pub there : slice_get frames place ≡ Some frame
  pub is_it : is_message id frame ≡ true
  pub none_before : IsAbsent frames id start place

-- of each next id the first place behind that of the id before
abbrev pub AreFirsts : List Frame → ℕ → ℕ → List ℕ → Type 0
AreFirsts frames last start [] = IsAbsent frames (suc last) start (length frames)
AreFirsts frames last start (place ∷ places) =
    IsFirst frames (suc last) start place × AreFirsts frames (suc last) (suc place) places

-- the places of the messages that the frames bring to an endpoint which has received the ids up to last
abbrev pub AreHeardPlaces : List Frame → ℕ → List ℕ → Type 0
AreHeardPlaces frames last places = AreFirsts (before_disconnect frames) last 0 places

-- an endpoint once it has applied a frame
abbrev pub applied : ℕ → Frame → Endpoint → Endpoint
applied now frame e = on_frame (frame_kind frame.kind) frame now (passed frame e.unread now e)

-- what the frames hand up, one after the other. After the end none is applied
abbrev pub deliveries : ℕ → List Frame → Endpoint → List Delivery
deliveries now [] e = []
deliveries now (frame ∷ frames) e =
    if is_ended e.phase then []
    else delivery_of (frame_kind frame.kind) frame e ∷ deliveries now frames (applied now frame e)

-- the places of messages in what is handed up
abbrev pub message_places : ℕ → List Delivery → List ℕ
message_places place [] = []
message_places place (Message id body ∷ rest) = place ∷ message_places (suc place) rest
message_places place (ControlBody body ∷ rest) = message_places (suc place) rest
message_places place (Quiet ∷ rest) = message_places (suc place) rest
message_places place (Closed ∷ rest) = message_places (suc place) rest
