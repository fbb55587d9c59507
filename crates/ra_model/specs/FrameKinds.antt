-- The types of frames, and the frames that an endpoint writes.
use Rattle.std.specs.Prelude.{ℕ, ◌^◌, ◌==◌, ◌||◌, if◌then◌else◌, nat_le, List, []}
use Rattle.ra_model.specs.declared.frame.Frame.{Frame}

pub data FrameKind : Type 0 where
  Regular : FrameKind  -- a message
  Control : FrameKind  -- of the session layer: it has no id, and is not written again
  Disconnect : FrameKind
  ReplayRequest : FrameKind  -- asks for all that was not acknowledged
  Pause : FrameKind
  Resume : FrameKind
  Other : FrameKind  -- Ack, KeepAlive, None and unknown types: only their ack counts

abbrev pub frame_kind : ℕ → FrameKind
frame_kind n =
    if n == 1 then Regular
    else if n == 2 then Control
    else if n == 5 then Disconnect
    else if n == 6 then ReplayRequest
    else if n == 7 then Pause
    else if n == 8 then Resume
    else Other

-- a frame as it is written: wide exactly where its id or its ack needs it
unfoldable pub written_frame : ℕ → ℕ → ℕ → List ℕ → Frame
written_frame kind id ack body =
    record { kind = kind; wide = nat_le (2 ^ 32) id || nat_le (2 ^ 32) ack; id = id; ack = ack; body = body }

abbrev pub regular : ℕ → ℕ → List ℕ → Frame
regular id ack body = written_frame 1 id ack body

abbrev pub control_frame : List ℕ → Frame
control_frame body = written_frame 2 0 0 body

abbrev pub ack_frame : ℕ → Frame
ack_frame received = written_frame 3 0 received []

abbrev pub disconnect_frame : Frame
disconnect_frame = written_frame 5 0 0 []

abbrev pub replay_request : Frame
replay_request = written_frame 6 0 0 []

abbrev pub pause_frame : Frame
pause_frame = written_frame 7 0 0 []

abbrev pub resume_frame : Frame
resume_frame = written_frame 8 0 0 []

abbrev pub keep_alive_frame : ℕ → Frame
keep_alive_frame received = written_frame 9 0 received []
