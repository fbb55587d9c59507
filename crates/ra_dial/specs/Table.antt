-- What a dialer does at each event, by how far it is and by the moment.
use Rattle.std.specs.Prelude.{ℕ, Bool, true, false, not, ◌&&◌, List, [], ◌∷◌, ◌++◌, take, drop, Option, None, if◌then◌else◌}
use Rattle.ra_model.specs.Endpoints.{shown}
use Rattle.ra_values.specs.Tree.{Tree}
use Rattle.ra_session.specs.Sessions.{Session}
use Rattle.ra_session.specs.Saying.{dialling}
use Rattle.ra_session.specs.SessionCalls.{take_out}
use Rattle.ra_dial.specs.declared.values.DialEnd.TheVariants as dial_ends
use Rattle.ra_dial.specs.declared.values.DialEvent.{DialEvent}
use Rattle.ra_dial.specs.declared.values.DialEvent.TheVariants as events
use Rattle.ra_dial.specs.declared.stage.Stage.{Stage}
use Rattle.ra_dial.specs.declared.stage.Stage.TheVariants as stages
use Rattle.ra_dial.specs.Clients.{Settings}
use Rattle.ra_dial.specs.Handshakes.{Head}
use Rattle.ra_dial.specs.Dialers.{Dialer}
use Rattle.ra_dial.specs.Acts.{nothing, ends}
use Rattle.ra_dial.specs.Attempts.{Step, finishes, fails, waits_until, waits_since, begins, gives_up}
use Rattle.ra_dial.specs.Links.{loses, shakes, feeds_shaking, feeds_attached, turns, ticks, leaves}

-- a dialer that begins: its first attempt is due at once
abbrev pub new_dialer : Settings → Tree → ℕ → Dialer
new_dialer settings context now = record {
  settings = settings;
  stage = stages.Resting now;
  attempt = 0;
  lost = now;
  pending = [];
  session = dialling settings.key.kind context now;
  read = 0;
}

-- ---- one event, by how far the dialer is

abbrev pub is_shaking : Stage → Bool
is_shaking (stages.Resting until) = false
is_shaking (stages.Calling since) = false
is_shaking (stages.Shaking since s) = true
is_shaking stages.Attached = false
is_shaking (stages.Over end) = false

abbrev pub is_attached : Stage → Bool
is_attached (stages.Resting until) = false
is_attached (stages.Calling since) = false
is_attached (stages.Shaking since s) = false
is_attached stages.Attached = true
is_attached (stages.Over end) = false

abbrev pub on_tick : Stage → ℕ → Dialer → Step
on_tick (stages.Resting until) now d = waits_until until now d
on_tick (stages.Calling since) now d = waits_since false since now d
on_tick (stages.Shaking since s) now d = waits_since true since now d
on_tick stages.Attached now d = ticks now d
on_tick (stages.Over end) now d = (nothing, d)

-- the link is there; two draws are taken
abbrev pub on_linked : Stage → (draw : ℕ → List ℕ) → Dialer → Step
on_linked (stages.Resting until) draw d = (nothing, d)
on_linked (stages.Calling since) draw d = begins since (draw 0) (draw 1) d
on_linked (stages.Shaking since s) draw d = (nothing, d)
on_linked stages.Attached draw d = (nothing, d)
on_linked (stages.Over end) draw d = (nothing, d)

abbrev pub on_no_link : Stage → ℕ → Dialer → Step
on_no_link (stages.Resting until) now d = (nothing, d)
on_no_link (stages.Calling since) now d = fails false now d
on_no_link (stages.Shaking since s) now d = (nothing, d)
on_no_link stages.Attached now d = (nothing, d)
on_no_link (stages.Over end) now d = (nothing, d)

abbrev pub on_piece : Stage → List ℕ → ℕ → Dialer → Step
on_piece (stages.Resting until) piece now d = (nothing, d)
on_piece (stages.Calling since) piece now d = (nothing, d)
on_piece (stages.Shaking since s) piece now d = feeds_shaking since s piece d
on_piece stages.Attached piece now d = feeds_attached piece now d
on_piece (stages.Over end) piece now d = (nothing, d)

abbrev pub on_frame : Stage → Head → ℕ → Dialer → Step
on_frame (stages.Resting until) head now d = (nothing, d)
on_frame (stages.Calling since) head now d = (nothing, d)
on_frame (stages.Shaking since s) head now d = shakes since s head now d
on_frame stages.Attached head now d = turns now d
on_frame (stages.Over end) head now d = (nothing, d)

abbrev pub on_link_lost : Stage → ℕ → Dialer → Step
on_link_lost (stages.Resting until) now d = (nothing, d)
on_link_lost (stages.Calling since) now d = (nothing, d)
on_link_lost (stages.Shaking since s) now d = fails false now d
on_link_lost stages.Attached now d = loses false now d
on_link_lost (stages.Over end) now d = (nothing, d)

abbrev pub on_stop : Stage → Dialer → Step
on_stop (stages.Resting until) d = finishes dial_ends.Stopped d
on_stop (stages.Calling since) d = finishes dial_ends.Stopped d
on_stop (stages.Shaking since s) d = finishes dial_ends.Stopped d
on_stop stages.Attached d = leaves d
on_stop (stages.Over end) d = (nothing, d)

-- ---- any event

abbrev pub by_event : Head → (ℕ → List ℕ) → DialEvent → ℕ → Dialer → Step
by_event head draw events.Tick now d = on_tick d.stage now d
by_event head draw events.Linked now d = on_linked d.stage draw d
by_event head draw events.NoLink now d = on_no_link d.stage now d
by_event head draw (events.Piece piece) now d = on_piece d.stage piece now d
by_event head draw events.Frame now d = on_frame d.stage head now d
by_event head draw events.LinkLost now d = on_link_lost d.stage now d
by_event head draw events.Stop now d = on_stop d.stage d

-- it is time to give up; a stop counts all the same
abbrev pub is_late : DialEvent → Stage → ℕ → ℕ → Bool
is_late events.Tick stage lost now = gives_up stage lost now
is_late events.Linked stage lost now = gives_up stage lost now
is_late events.NoLink stage lost now = gives_up stage lost now
is_late (events.Piece piece) stage lost now = gives_up stage lost now
is_late events.Frame stage lost now = gives_up stage lost now
is_late events.LinkLost stage lost now = gives_up stage lost now
is_late events.Stop stage lost now = false

unfoldable pub on_event : Head → (ℕ → List ℕ) → DialEvent → ℕ → Dialer → Step
on_event head draw event now d =
    if is_late event d.stage d.lost now then finishes (dial_ends.GraceOver d.lost now) d else by_event head draw event now d

-- a dialer that is over answers its end again
abbrev pub unless_over : Stage → Step → Dialer → Step
unless_over (stages.Resting until) step d = step
unless_over (stages.Calling since) step d = step
unless_over (stages.Shaking since s) step d = step
unless_over stages.Attached step d = step
unless_over (stages.Over end) step d = (ends end, d)

-- What a dialer does at an event, and the dialer after it. It takes what the answer head says, and the draws to come.
unfoldable pub step : Head → (draw : ℕ → List ℕ) → DialEvent → ℕ → Dialer → Step
step head draw event now d = unless_over d.stage (on_event head draw event now d) d

-- ---- draws

abbrev pub draws_when_linked : Stage → ℕ
draws_when_linked (stages.Resting until) = 0
draws_when_linked (stages.Calling since) = 2
draws_when_linked (stages.Shaking since s) = 0
draws_when_linked stages.Attached = 0
draws_when_linked (stages.Over end) = 0

abbrev pub draws_at : DialEvent → Stage → ℕ
draws_at events.Tick stage = 0
draws_at events.Linked stage = draws_when_linked stage
draws_at events.NoLink stage = 0
draws_at (events.Piece piece) stage = 0
draws_at events.Frame stage = 0
draws_at events.LinkLost stage = 0
draws_at events.Stop stage = 0

-- how many draws an event takes
abbrev pub draws_by : DialEvent → ℕ → Stage → ℕ → ℕ
draws_by event now stage lost = if is_late event stage lost now then 0 else draws_at event stage

-- ---- answer heads

abbrev pub is_frame : DialEvent → Bool
is_frame events.Tick = false
is_frame events.Linked = false
is_frame events.NoLink = false
is_frame (events.Piece piece) = false
is_frame events.Frame = true
is_frame events.LinkLost = false
is_frame events.Stop = false

-- the event lets an answer head be looked at, where one is waited for
abbrev pub looks_by : DialEvent → ℕ → Stage → ℕ → Bool
looks_by event now stage lost = is_frame event && not (is_late event stage lost now)

-- ---- bytes that are handed out

abbrev pub shown_at : Stage → Dialer → List ℕ
shown_at (stages.Resting until) d = []
shown_at (stages.Calling since) d = []
shown_at (stages.Shaking since s) d = []
shown_at stages.Attached d = shown d.session.peer.endpoint
shown_at (stages.Over end) d = []

-- all that may be put on the link
abbrev pub out : Dialer → List ℕ
out d = d.pending ++ shown_at d.stage d

-- bytes go out that wait, so many of them, or else all that the attached session shows
abbrev pub next_of : List ℕ → ℕ → Dialer → List ℕ
next_of [] n d = shown_at d.stage d
next_of (b ∷ bs) n d = take n (b ∷ bs)

abbrev pub next_out : ℕ → Dialer → List ℕ
next_out n d = next_of d.pending n d

abbrev pub session_after : Stage → Session → Session
session_after (stages.Resting until) s = s
session_after (stages.Calling since) s = s
session_after (stages.Shaking since shaking) s = s
session_after stages.Attached s = take_out s
session_after (stages.Over end) s = s

abbrev pub without_next : List ℕ → ℕ → Dialer → Dialer
without_next [] n d = record d { session = session_after d.stage d.session }
without_next (b ∷ bs) n d = record d { pending = drop n (b ∷ bs) }

-- the dialer once they are out
abbrev pub handed_out : ℕ → Dialer → Dialer
handed_out n d = without_next d.pending n d

-- ---- what is handed over to the link

abbrev pub rest_at : Stage → Option (List ℕ)
rest_at (stages.Resting until) = None
rest_at (stages.Calling since) = None
rest_at (stages.Shaking since s) = s.rest
rest_at stages.Attached = None
rest_at (stages.Over end) = None

abbrev pub without_rest : Stage → Stage
without_rest (stages.Resting until) = stages.Resting until
without_rest (stages.Calling since) = stages.Calling since
without_rest (stages.Shaking since s) = stages.Shaking since (record s { rest = None })
without_rest stages.Attached = stages.Attached
without_rest (stages.Over end) = stages.Over end

-- the rest behind the answer is handed over, and frames are read from now on
abbrev pub framed : Dialer → Dialer
framed d = record d { stage = without_rest d.stage }
