-- A turn: bytes come, one frame is applied, and what it means happens. What a turn changes, and what it answers.
use Rattle.std.specs.Prelude.{ℕ, List, [], ◌∷◌, Bool, ◌||◌, ◌&&◌, Option, Some, None}
use Rattle.std.specs.Option.{is_some}
use Rattle.ra_base.specs.declared.key.Cause.{Cause}
use Rattle.ra_base.specs.declared.key.Cause.TheVariants.{Disconnected, BadIpc}
use Rattle.ra_model.specs.declared.session.Up.{Up as Delivery}
use Rattle.ra_model.specs.declared.session.Up.TheVariants.{Message as HandedUp, Control, Quiet, Ended}
use Rattle.ra_model.specs.Endpoints.{Endpoint, is_linked, shown}
use Rattle.ra_model.specs.FirstFrame.{first_frame, is_too_long}
use Rattle.ra_model.specs.Taking.{delivery}
use Rattle.ra_model.specs.Events.{taken}
use Rattle.ra_ipc.specs.Messages.{Message}
use Rattle.ra_ipc.specs.ChannelPairs.{Entry, message_heard}
use Rattle.ra_session.specs.Sessions.{Session, with_cause}
use Rattle.ra_session.specs.Saying.{says}
use Rattle.ra_session.specs.Hearing.{Happening, Heard, spoils, hears, heard}
use Rattle.ra_session.specs.SessionCalls.{feed_session, take_out, with_entries}

abbrev pub entries_of : Option Message → List Entry
entries_of None = []
entries_of (Some m) = message_heard m ∷ []

-- what a message does that was heard
abbrev pub on_heard : Heard → ℕ → Session → Session
on_heard (spoils bad) now s = with_cause BadIpc s
on_heard (hears h) now s = says h.says now (with_entries (entries_of h.packet) (record s { server = h.server; client = h.client }))

-- the message with this id, at this session
abbrev pub heard_at : Session → ℕ → List ℕ → ℕ → Heard
heard_at s id body now = heard s.kind s.serves s.server s.client id body now

abbrev pub on_delivery : Option Delivery → ℕ → Session → Session
on_delivery None now s = s
on_delivery (Some (HandedUp id body)) now s = on_heard (heard_at s id body now) now s
on_delivery (Some (Control body)) now s = s
on_delivery (Some Quiet) now s = s
on_delivery (Some Ended) now s = with_cause Disconnected s

-- one frame is applied, where there is one
unfoldable pub take_in : ℕ → Session → Session
take_in now s = on_delivery (delivery s.peer.endpoint) now (record s { peer = taken now s.peer })

-- and all that may go out goes out
unfoldable pub take_turn : ℕ → Session → Session
take_turn now s = take_out (take_in now s)

unfoldable pub turn : ℕ → List ℕ → ℕ → Session → Session
turn epoch piece now s = take_turn now (feed_session epoch piece now s)

-- ---- what it answers

pub record TurnAnswer : Type 0 where
  pub out : List ℕ
  pub happening : Option Happening
  pub took : Bool
  pub again : Bool
  pub ended : Option Cause

abbrev pub happening_in : Heard → Option Happening
happening_in (spoils bad) = None
happening_in (hears h) = h.happening

abbrev pub happening_of : Option Delivery → ℕ → Session → Option Happening
happening_of None now s = None
happening_of (Some (HandedUp id body)) now s = happening_in (heard_at s id body now)
happening_of (Some (Control body)) now s = None
happening_of (Some Quiet) now s = None
happening_of (Some Ended) now s = None

abbrev pub ended_by : Option Delivery → Option Cause
ended_by None = None
ended_by (Some (HandedUp id body)) = None
ended_by (Some (Control body)) = None
ended_by (Some Quiet) = None
ended_by (Some Ended) = Some Disconnected

-- a whole frame is unread, or a header that states too long a body
abbrev pub is_ready : Endpoint → Bool
is_ready e = is_linked e.phase && (is_too_long e.unread || is_some (first_frame e.unread))

-- by what the frame hands up, at the session before it, and the endpoint after it
abbrev pub answer_after : Option Delivery → ℕ → Session → Endpoint → TurnAnswer
answer_after up now s after =
    record { out = shown after; happening = happening_of up now s; took = is_some up; again = is_ready after; ended = ended_by up }

unfoldable pub taken_answer : ℕ → Session → TurnAnswer
taken_answer now s = answer_after (delivery s.peer.endpoint) now s (take_in now s).peer.endpoint

unfoldable pub turn_answer : ℕ → List ℕ → ℕ → Session → TurnAnswer
turn_answer epoch piece now s = taken_answer now (feed_session epoch piece now s)
