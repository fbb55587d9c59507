-- The calls of a hub that a link makes, as events: what each makes of a hub, the jobs that it gives, the bytes that the link writes for it,
-- and the seat that the link has then.
use Rattle.std.specs.Prelude.{ℕ, List, [], ◌∷◌, ◌++◌, Option, Some, None}
use Rattle.ra_base.specs.declared.handshake.Reason.{Reason}
use Rattle.ra_base.specs.declared.handshake.Request.{Request}
use Rattle.ra_base.specs.declared.key.Cause.{Cause}
use Rattle.ra_base.specs.declared.key.Key.{Key}
use Rattle.ra_base.specs.declared.key.Seat.{Seat}
use Rattle.ra_opening.specs.Verdicts.{refusal_bytes, acceptance_bytes}
use Rattle.ra_registry.specs.Admission.{admission_refusal, seat_for}
use Rattle.ra_session.specs.Hearing.{Happening, work, host, call_settled, event_fired}
use Rattle.ra_session.specs.SessionCalls.{attach}
use Rattle.ra_session.specs.SessionRefusals.{Refusal}
use Rattle.ra_session.specs.Sessions.{Session}
use Rattle.ra_session.specs.TurnRefusals.{turn_refusal}
use Rattle.ra_session.specs.Turns.{TurnAnswer, turn, turn_answer}
use Rattle.ra_hub.specs.Hubs.{Hub, at_key, admitted, refused, seat_lost, seat_closed}
use Rattle.ra_hub.specs.Jobs.{SeenJob}

pub data HubEvent : Type 0 where
  Admit : Request → ℕ → HubEvent
  Attach : Seat → List ℕ → ℕ → HubEvent
  Turn : Seat → List ℕ → ℕ → HubEvent
  Lose : Seat → ℕ → HubEvent
  Close : Seat → Cause → ℕ → HubEvent

abbrev pub judged_by : Option Reason → Request → ℕ → Hub → Hub
judged_by None ask now h = admitted ask now h
judged_by (Some reason) ask now h = refused ask now reason h

-- what is made of a hub by its session, where there is one
abbrev pub on_session : Option Session → (Session → Hub) → Hub → Hub
on_session None change h = h
on_session (Some s) change h = change s

unfoldable pub event_done : HubEvent → Hub → Hub
event_done (Admit ask now) h = judged_by (admission_refusal h.registry ask now) ask now h
event_done (Attach seat chunk now) h = on_session (h.session seat.key) (λ s. at_key seat.key (attach seat.epoch chunk now s) h) h
event_done (Turn seat piece now) h = on_session (h.session seat.key) (λ s. at_key seat.key (turn seat.epoch piece now s) h) h
event_done (Lose seat now) h = on_session (h.session seat.key) (λ s. seat_lost seat now s h) h
event_done (Close seat cause now) h = on_session (h.session seat.key) (λ s. seat_closed seat cause now s h) h

-- work is a job
abbrev pub jobs_of : Key → Option Happening → List SeenJob
jobs_of key None = []
jobs_of key (Some (work call)) = record { key = key; work = work call } ∷ []
jobs_of key (Some (host body)) = record { key = key; work = host body } ∷ []
jobs_of key (Some (call_settled id outcome)) = []
jobs_of key (Some (event_fired id body)) = []

-- a turn that is refused gives none
abbrev pub turn_jobs : Option Refusal → TurnAnswer → Key → List SeenJob
turn_jobs None answer key = jobs_of key answer.happening
turn_jobs (Some refusal) answer key = []

abbrev pub session_jobs : Option Session → Seat → List ℕ → ℕ → List SeenJob
session_jobs None seat piece now = []
session_jobs (Some s) seat piece now = turn_jobs (turn_refusal seat.epoch piece now s) (turn_answer seat.epoch piece now s) seat.key

unfoldable pub event_jobs : HubEvent → Hub → List SeenJob
event_jobs (Admit ask now) h = []
event_jobs (Attach seat chunk now) h = []
event_jobs (Turn seat piece now) h = session_jobs (h.session seat.key) seat piece now
event_jobs (Lose seat now) h = []
event_jobs (Close seat cause now) h = []

-- ---- bytes

-- a request is accepted or refused
abbrev pub admission_bytes : Option Reason → Seat → List ℕ
admission_bytes None given = acceptance_bytes given.key.kind
admission_bytes (Some reason) given = refusal_bytes reason

-- a turn that is refused writes none
abbrev pub turn_bytes : Option Refusal → TurnAnswer → List ℕ
turn_bytes None answer = answer.out
turn_bytes (Some refusal) answer = []

abbrev pub session_bytes : Option Session → Seat → List ℕ → ℕ → List ℕ
session_bytes None seat piece now = []
session_bytes (Some s) seat piece now = turn_bytes (turn_refusal seat.epoch piece now s) (turn_answer seat.epoch piece now s)

-- what the link writes for this call
unfoldable pub event_bytes : HubEvent → Hub → List ℕ
event_bytes (Admit ask now) h = admission_bytes (admission_refusal h.registry ask now) (seat_for h.registry ask)
event_bytes (Attach seat chunk now) h = []
event_bytes (Turn seat piece now) h = session_bytes (h.session seat.key) seat piece now
event_bytes (Lose seat now) h = []
event_bytes (Close seat cause now) h = []

-- ---- events one after the other

abbrev pub events_done : List HubEvent → Hub → Hub
events_done [] h = h
events_done (e ∷ es) h = events_done es (event_done e h)

abbrev pub events_jobs : List HubEvent → Hub → List SeenJob
events_jobs [] h = []
events_jobs (e ∷ es) h = event_jobs e h ++ events_jobs es (event_done e h)

abbrev pub events_bytes : List HubEvent → Hub → List ℕ
events_bytes [] h = []
events_bytes (e ∷ es) h = event_bytes e h ++ events_bytes es (event_done e h)

-- ---- seats

-- an admission that is not refused gives its seat
abbrev pub seat_judged_by : Option Reason → Seat → Option Seat → Option Seat
seat_judged_by None given seat = Some given
seat_judged_by (Some reason) given seat = seat

-- a link that is lost or closed has no seat
abbrev pub seat_by : HubEvent → Hub → Option Seat → Option Seat
seat_by (Admit ask now) h seat = seat_judged_by (admission_refusal h.registry ask now) (seat_for h.registry ask) seat
seat_by (Attach own chunk now) h seat = seat
seat_by (Turn own piece now) h seat = seat
seat_by (Lose own now) h seat = None
seat_by (Close own cause now) h seat = None

abbrev pub seats_by : List HubEvent → Hub → Option Seat → Option Seat
seats_by [] h seat = seat
seats_by (e ∷ es) h seat = seats_by es (event_done e h) (seat_by e h seat)
