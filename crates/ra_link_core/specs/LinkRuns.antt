-- A link that is served, as a function of the pieces that came on it: what is written, the events of the hub, the jobs, and the end.
-- Its opening is one of the whole text; behind that every piece is a turn of the session.
use Rattle.std.specs.Prelude.{ℕ, zero, suc, ◌/◌, Bool, false, not, ◌&&◌, nat_lt, if◌then◌else◌, Option, Some, None, Result, Ok, Err, List, [], ◌∷◌, ◌++◌, length, take, drop}
use Rattle.ra_base.specs.declared.handshake.Reason.{Reason}
use Rattle.ra_base.specs.declared.handshake.Request.{Request}
use Rattle.ra_base.specs.declared.key.Cause.{Cause}
use Rattle.ra_base.specs.declared.key.Cause.TheVariants.{Disconnected, BadIpc}
use Rattle.ra_base.specs.declared.key.Seat.{Seat}
use Rattle.ra_base.specs.declared.kind.Kind.{Kind}
use Rattle.ra_base.specs.declared.kind.Kind.TheVariants.{Management, ExtensionHost, Tunnel}
use Rattle.ra_model.specs.Frames.{frame_bytes}
use Rattle.ra_model.specs.FrameKinds.{pause_frame}
use Rattle.ra_upgrade.specs.declared.request_head.HeadFault.{HeadFault}
use Rattle.ra_upgrade.specs.declared.request_head.Upgrade.{Upgrade}
use Rattle.ra_items.specs.Heads.{Head}
use Rattle.ra_opening.specs.declared.ends.OpeningEnd.{OpeningEnd}
use Rattle.ra_opening.specs.declared.ends.OpeningEnd.TheVariants as opening_ends
use Rattle.ra_opening.specs.Openings.{Grounds, Opened, opened}
use Rattle.ra_opening.specs.Openings.{Stage}
use Rattle.ra_opening.specs.Openings.Stage.{Heading, Shaking, Asked, Over}
use Rattle.ra_opening.specs.Verdicts.{refusal_bytes, acceptance_bytes}
use Rattle.ra_registry.specs.Admission.{admission_refusal, seat_for}
use Rattle.ra_session.specs.SessionRefusals.{Refusal, ended, stale, no_link, too_long, bad_ipc, too_large, ids_spent, no_such_call, wrong_kind, attach_refusal}
use Rattle.ra_session.specs.Sessions.{Session}
use Rattle.ra_session.specs.TurnRefusals.{turn_refusal}
use Rattle.ra_session.specs.Turns.{TurnAnswer, turn_answer}
use Rattle.ra_hub.specs.Hubs.{Hub}
use Rattle.ra_hub.specs.Jobs.{SeenJob}
use Rattle.ra_link_core.specs.HubEvents.{HubEvent, event_done, event_jobs}
use Rattle.ra_link_core.specs.HubEvents.HubEvent.{Admit, Attach, Turn, Lose, Close}

-- a piece that came, empty where nothing was there yet, and the moment
pub record Piece : Type 0 where
  pub bytes : List ℕ
  pub now : ℕ

-- why a link is no longer served: its head or its request is refused, or its session refuses what came
pub data End : Type 0 where
  head_refused : HeadFault → End
  request_refused : Reason → End
  refused_by : Refusal → End

-- How a link came to its session: the number of its link, where in the text that came the session's bytes begin, and where in the text
-- that was written; and the Pause that was written before.
pub record Welcome : Type 0 where
  pub epoch : ℕ
  pub up : ℕ
  pub down : ℕ
  pub pause : List ℕ

-- A link: the seat that it has, its welcome, all that was written, how many draws were made, the events that it made, the hub and the
-- jobs after them, and its end.
pub record Serving : Type 0 where
  pub seat : Option Seat
  pub welcome : Option Welcome
  pub out : List ℕ
  pub drawn : ℕ
  pub events : List HubEvent
  pub hub : Hub
  pub jobs : List SeenJob
  pub end : Option End

-- a link on which nothing came
abbrev pub new_serving : Hub → List SeenJob → Serving
new_serving hub jobs =
    record { seat = None; welcome = None; out = []; drawn = 0; events = []; hub = hub; jobs = jobs; end = None }

-- ---- parts of a step

abbrev pub writes : List ℕ → Serving → Serving
writes bytes s = record s { out = s.out ++ bytes }

abbrev pub ends_by : End → Serving → Serving
ends_by end s = record s { end = Some end }

-- an event happens, and what it gives as work becomes a job
abbrev pub does : HubEvent → Serving → Serving
does e s = record s { events = s.events ++ e ∷ []; hub = event_done e s.hub; jobs = s.jobs ++ event_jobs e s.hub }

-- the seat is spent
abbrev pub closes : Seat → Cause → ℕ → Serving → Serving
closes seat cause now s = record (does (Close seat cause now) s) { seat = None }

-- ---- turns

-- a link after a turn, and whether one more is due
pub record Turned : Type 0 where
  pub after : Serving
  pub again : Bool

abbrev pub stops : Serving → Turned
stops s = record { after = s; again = false }

-- a bad message was heard, and its session ends; any other refusal leaves all as it was
abbrev pub turn_refused : Refusal → Seat → List ℕ → ℕ → Serving → Serving
turn_refused (bad_ipc bad message) seat piece now s =
    ends_by (refused_by (bad_ipc bad message)) (closes seat BadIpc now (does (Turn seat piece now) s))
turn_refused (ended cause) seat piece now s = ends_by (refused_by (ended cause)) s
turn_refused (stale current) seat piece now s = ends_by (refused_by (stale current)) s
turn_refused no_link seat piece now s = ends_by (refused_by no_link) s
turn_refused (too_long n) seat piece now s = ends_by (refused_by (too_long n)) s
turn_refused (too_large n) seat piece now s = ends_by (refused_by (too_large n)) s
turn_refused ids_spent seat piece now s = ends_by (refused_by ids_spent) s
turn_refused (no_such_call id) seat piece now s = ends_by (refused_by (no_such_call id)) s
turn_refused wrong_kind seat piece now s = ends_by (refused_by wrong_kind) s

-- a peer that left ends the session
abbrev pub turn_ended : Option Cause → Bool → Seat → ℕ → Serving → Turned
turn_ended None again seat now s = record { after = s; again = again }
turn_ended (Some cause) again seat now s = stops (ends_by (refused_by (ended cause)) (closes seat cause now s))

abbrev pub turn_made : TurnAnswer → Seat → List ℕ → ℕ → Serving → Turned
turn_made answer seat piece now s = turn_ended answer.ended answer.again seat now (writes answer.out (does (Turn seat piece now) s))

abbrev pub turn_by : Option Refusal → TurnAnswer → Seat → List ℕ → ℕ → Serving → Turned
turn_by (Some refusal) answer seat piece now s = stops (turn_refused refusal seat piece now s)
turn_by None answer seat piece now s = turn_made answer seat piece now s

abbrev pub turn_in : Option Session → Seat → List ℕ → ℕ → Serving → Turned
turn_in None seat piece now s = stops s
turn_in (Some session) seat piece now s =
    turn_by (turn_refusal seat.epoch piece now session) (turn_answer seat.epoch piece now session) seat piece now s

unfoldable pub turned : Seat → List ℕ → ℕ → Serving → Turned
turned seat piece now s = turn_in (s.hub.session seat.key) seat piece now s

-- up to so many turns more, with nothing, as long as one more is due
unfoldable pub turned_again : ℕ → Seat → ℕ → Turned → Serving
turned_again zero seat now t = t.after
turned_again (suc n) seat now t = if t.again then turned_again n seat now (turned seat [] now t.after) else t.after

-- a frame has 13 bytes at least
abbrev pub turns_for : List ℕ → ℕ
turns_for bytes = length bytes / 13

unfoldable pub served : ℕ → Seat → List ℕ → ℕ → Serving → Serving
served n seat piece now s = turned_again n seat now (turned seat piece now s)

-- ---- requests

abbrev pub attached_by : Option Refusal → Seat → List ℕ → ℕ → Serving → Serving
attached_by (Some refusal) seat chunk now s = ends_by (refused_by refusal) s
attached_by None seat chunk now s = served (turns_for chunk) seat [] now (does (Attach seat chunk now) s)

abbrev pub attached_in : Option Session → Seat → List ℕ → ℕ → Serving → Serving
attached_in None seat chunk now s = s
attached_in (Some session) seat chunk now s = attached_by (attach_refusal seat.epoch session) seat chunk now s

-- the session begins with what was read behind the request
unfoldable pub attached : Seat → List ℕ → ℕ → Serving → Serving
attached seat chunk now s = attached_in (s.hub.session seat.key) seat chunk now s

-- what is written before the acceptance
abbrev pub pause_bytes : Kind → List ℕ
pause_bytes Management = []
pause_bytes ExtensionHost = frame_bytes pause_frame
pause_bytes Tunnel = []

-- the link has the seat from here on
abbrev pub welcomed : Seat → ℕ → Serving → Serving
welcomed seat place s = record s {
  seat = Some seat;
  welcome = Some (record { epoch = seat.epoch; up = place; down = length s.out; pause = pause_bytes seat.key.kind });
}

abbrev pub asked_by : Option Reason → Seat → ℕ → List ℕ → ℕ → Serving → Serving
asked_by (Some reason) seat place chunk now s = ends_by (request_refused reason) (writes (refusal_bytes reason) s)
asked_by None seat place chunk now s = attached seat chunk now (welcomed seat place (writes (acceptance_bytes seat.key.kind) s))

-- the client asks for a session
unfoldable pub asked : Request → ℕ → List ℕ → ℕ → Serving → Serving
asked request place chunk now s =
    asked_by (admission_refusal s.hub.registry request now) (seat_for s.hub.registry request) place chunk now (does (Admit request now) s)

-- ---- the opening

abbrev pub opening_end : OpeningEnd → Option End
opening_end (opening_ends.BadHead fault) = Some (head_refused fault)
opening_end (opening_ends.Refused reason) = Some (request_refused reason)
opening_end (opening_ends.TooLong n) = Some (refused_by (too_long n))
opening_end opening_ends.Left = Some (refused_by (ended Disconnected))
opening_end opening_ends.NoMemory = None

abbrev pub opening_by : Stage → List ℕ → ℕ → Serving → Serving
opening_by Heading text now s = s
opening_by (Shaking shake) text now s = s
opening_by (Asked request place) text now s = asked request place (drop place text) now s
opening_by (Over end) text now s = record s { end = opening_end end }

-- the opening has come so far with this text
abbrev pub opening_came : Opened → List ℕ → ℕ → Serving → Serving
opening_came o text now s = opening_by o.stage text now (record s { out = o.out; drawn = o.drawn })

-- the head asks for the messages of a framed stream
abbrev pub asks_framing : Result Upgrade HeadFault → Bool
asks_framing (Ok upgrade) = not upgrade.skip_frames
asks_framing (Err fault) = false

-- The text that counts, a piece later. What stands in a piece behind a head that asks for a framed stream is the front of that stream, and
-- the pieces that follow are of its payload.
unfoldable pub with_piece : Head Upgrade HeadFault → List ℕ → List ℕ → List ℕ
with_piece head before bytes =
    if asks_framing head.says && nat_lt (length before) head.size then take head.size (before ++ bytes) else before ++ bytes

-- ---- the whole link

abbrev pub piece_by : Option End → Option Seat → Grounds → List ℕ → Head Upgrade HeadFault → Piece → Serving → Serving
piece_by (Some end) seat grounds text head piece s = s
piece_by None (Some seat) grounds text head piece s = served (turns_for piece.bytes) seat piece.bytes piece.now s
piece_by None None grounds text head piece s = opening_came (opened grounds head text) text piece.now s

-- a piece, after the text that counted before it
unfoldable pub piece_done : Grounds → Head Upgrade HeadFault → List ℕ → Piece → Serving → Serving
piece_done grounds head before piece s = piece_by s.end s.seat grounds (with_piece head before piece.bytes) head piece s

-- all the pieces
abbrev pub link_run : Grounds → Head Upgrade HeadFault → List ℕ → List Piece → Serving → Serving
link_run grounds head before [] s = s
link_run grounds head before (piece ∷ pieces) s =
    link_run grounds head (with_piece head before piece.bytes) pieces (piece_done grounds head before piece s)

-- the hub, once a seat that is not spent is reported lost
abbrev pub hub_left : Option Seat → ℕ → Hub → Hub
hub_left None now h = h
hub_left (Some seat) now h = event_done (Lose seat now) h
