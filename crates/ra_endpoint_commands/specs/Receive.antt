-- What `receive` prints for an input: the bytes of one link, given frame by frame to an endpoint on its first link, at the moment 0.
use Rattle.std.specs.Prelude.{ℕ, ◌+◌, Bool, false, nat_lt, if◌then◌else◌, List, [], ◌∷◌, ◌++◌, length, take}
use Rattle.ra_model.specs.declared.frame.Frame.{Frame}
use Rattle.ra_model.specs.declared.session.Up.{Up}
use Rattle.ra_model.specs.declared.session.Up.TheVariants.{Message, Control, Quiet, Ended}
use Rattle.ra_model.specs.Frames.{frame_bytes, joined}
use Rattle.ra_model.specs.FirstFrame.{is_too_long, stated}
use Rattle.ra_model.specs.FrameKinds.{frame_kind}
use Rattle.ra_model.specs.Cutting.{frames_of, rest_of}
use Rattle.ra_model.specs.Endpoints.{Endpoint, new_endpoint, shown, is_ended}
use Rattle.ra_model.specs.Calls.{moment, begin, wrote}
use Rattle.ra_model.specs.Taking.{delivery_of}
use Rattle.ra_model.specs.HeardPlaces.{applied}
use Rattle.ra_endpoint_commands.specs.declared.report.Ending.{Ending}
use Rattle.ra_endpoint_commands.specs.declared.report.Ending.TheVariants.{Done, Refused}
use Rattle.ra_endpoint_commands.specs.Lines.{up_line, control_line, ended_line, write_line, end_line, too_long_line, over_line}

-- the lines of a run, and how it ends
pub record Report : Type 0 where
  pub text : List ℕ
  pub ending : Ending

-- text before a report
abbrev pub prefixed : List ℕ → Report → Report
prefixed text r = record { text = text ++ r.text; ending = r.ending }

-- the most bytes that are read
abbrev pub input_limit : ℕ
input_limit = 1073741824

-- an endpoint without keep-alive on its first link, to which nothing was said and nothing came
abbrev pub first_link : Endpoint
first_link = begin 1 [] 0 (new_endpoint 0 0 false)

-- the endpoint once it has applied a frame at the moment 0
abbrev pub after_frame : Frame → Endpoint → Endpoint
after_frame f e = applied (moment 0 e) f e

-- all that is shown is taken
abbrev pub flushed : Endpoint → Endpoint
flushed e = wrote (length (shown e)) e

-- the line of what was handed up
abbrev pub delivery_line : Up → List ℕ
delivery_line (Message id body) = up_line id body
delivery_line (Control body) = control_line body
delivery_line Quiet = []
delivery_line Ended = ended_line

-- the line of the bytes that became ready
abbrev pub ready_line : List ℕ → List ℕ
ready_line [] = []
ready_line (byte ∷ bytes) = write_line (byte ∷ bytes)

-- the lines of a frame
abbrev pub lines_of : Frame → Endpoint → List ℕ
lines_of f e = delivery_line (delivery_of (frame_kind f.kind) f e) ++ ready_line (shown (after_frame f e))

-- the last line, where no frame begins these bytes from a place on, and more bytes than the limit came or not
unfoldable pub closing : Endpoint → ℕ → List ℕ → Bool → Report
closing e at rest over =
    if is_too_long rest then record { text = too_long_line (stated rest) at; ending = Refused }
    else if over then record { text = over_line; ending = Refused }
    else record { text = end_line e.received (length rest); ending = Done }

-- the last line, where the peer has left, and these many bytes of the input stand behind its last frame
abbrev pub after_end : ℕ → ℕ → Bool → Report
after_end heard rest over =
    if over then record { text = over_line; ending = Refused }
    else record { text = end_line heard rest; ending = Done }

-- the lines of frames from a place on, one by one, and then of the rest. After a Disconnect no frame is applied
unfoldable pub report : Endpoint → ℕ → List Frame → List ℕ → Bool → Report
report e at [] rest over = closing e at rest over
report e at (f ∷ frames) rest over =
    let next = after_frame f e in
    prefixed (lines_of f e)
    (if is_ended next.phase then after_end next.received (length (joined frames ++ rest)) over
    else report (flushed next) (at + length (frame_bytes f)) frames rest over)

-- what is printed for an input
unfoldable pub receive_report : List ℕ → Report
receive_report input =
    let applied = take input_limit input in
    report first_link 0 (frames_of applied) (rest_of applied) (nat_lt input_limit (length input))
