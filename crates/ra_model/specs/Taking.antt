-- What a frame that comes changes at an endpoint, and what it hands up.
use Rattle.std.specs.Prelude.{ℕ, suc, ◌==◌, min, max, true, false, ◌&&◌, not, if◌then◌else◌, nat_lt, option_map, Option, Some, None, List, [], ◌∷◌, ◌++◌}
use Rattle.ra_model.specs.declared.frame.Frame.{Frame}
use Rattle.ra_model.specs.declared.session.Phase.TheVariants.{Ended}
use Rattle.ra_model.specs.declared.session.Up.{Up as Delivery}
use Rattle.ra_model.specs.declared.session.Up.TheVariants.{Message, Control as ControlBody, Quiet, Ended as Closed}
use Rattle.ra_model.specs.Frames.{joined}
use Rattle.ra_model.specs.FirstFrame.{first_frame}
use Rattle.ra_model.specs.FrameKinds.{FrameKind, frame_kind, replay_request}
use Rattle.ra_model.specs.FrameKinds.FrameKind.{Regular, Control, Disconnect, ReplayRequest, Pause, Resume, Other}
use Rattle.ra_model.specs.Endpoints.{Endpoint, is_up, is_linked, sent}
use Rattle.ra_model.specs.Timing.{message_heard, asked_lately}
use Rattle.ra_model.specs.Calls.{moment, dated, replayed, checked}

-- the next frame of the unread bytes, and the bytes behind it
abbrev pub next_frame : Endpoint → Option (Frame × List ℕ)
next_frame e = if is_linked e.phase then first_frame e.unread else None

-- the highest id that is acknowledged once this frame has come. No more counts than was sent
abbrev pub acked_by : Frame → Endpoint → ℕ
acked_by frame e = max e.acknowledged (min frame.ack (sent e))

-- the frame is gone from the unread bytes, and its ack counts
abbrev pub passed : Frame → List ℕ → ℕ → Endpoint → Endpoint
passed frame rest now e = record (dated now e) { unread = rest; acknowledged = acked_by frame e }

-- the next message counts as received. A later one is dropped, and a replay is asked for
abbrev pub on_regular : Frame → ℕ → Endpoint → Endpoint
on_regular frame now e =
    if frame.id == suc e.received
    then record e { received = suc e.received; timing = if is_up e.phase then message_heard now e.timing else e.timing }
    else if nat_lt (suc e.received) frame.id && not (asked_lately now e.timing)
    then record e { unwritten = e.unwritten ++ joined (replay_request ∷ []); timing = record e.timing { asked = Some now } }
    else e

abbrev pub on_frame : FrameKind → Frame → ℕ → Endpoint → Endpoint
on_frame Regular frame now e = on_regular frame now e
on_frame Control frame now e = e
on_frame Disconnect frame now e = record e { phase = Ended; unread = []; unwritten = [] }
on_frame ReplayRequest frame now e = checked now (replayed now e)
on_frame Pause frame now e = record e { paused = true }
on_frame Resume frame now e = record e { paused = false }
on_frame Other frame now e = e

abbrev pub took : Option (Frame × List ℕ) → ℕ → Endpoint → Endpoint
took None now e = e
took (Some next) now e = on_frame (frame_kind next.0.kind) next.0 now (passed next.0 next.1 now e)

-- one frame is applied, where there is one
unfoldable pub take_frame : ℕ → Endpoint → Endpoint
take_frame now e = took (next_frame e) (moment now e) e

abbrev pub delivery_of : FrameKind → Frame → Endpoint → Delivery
delivery_of Regular frame e = if frame.id == suc e.received then Message frame.id frame.body else Quiet
delivery_of Control frame e = ControlBody frame.body
delivery_of Disconnect frame e = Closed
delivery_of ReplayRequest frame e = Quiet
delivery_of Pause frame e = Quiet
delivery_of Resume frame e = Quiet
delivery_of Other frame e = Quiet

-- what it hands up
unfoldable pub delivery : Endpoint → Option Delivery
delivery e = option_map (λ next. delivery_of (frame_kind next.0.kind) next.0 e) (next_frame e)
