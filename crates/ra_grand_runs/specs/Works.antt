-- A job that is done by the tools, and told to its session.
use Rattle.std.specs.Prelude.{ℕ, ◌-◌, Option, Some, None, option_map, List, ◌++◌, take, drop, codes}
use Rattle.ra_base.specs.declared.key.Key.{Key}
use Rattle.ra_model.specs.Links.{at_number}
use Rattle.ra_values.specs.Tree.{object}
use Rattle.ra_ipc.specs.Messages.{Reply, error}
use Rattle.ra_app.specs.Effects.{Effect, Event}
use Rattle.ra_app.specs.ToolsTable.{tools}
use Rattle.ra_session.specs.Hearing.{Happening, work, host, call_settled, event_fired}
use Rattle.ra_session.specs.SessionCalls.{Firing, answer, say_body}
use Rattle.ra_session.specs.SessionRefusals.{Refusal, ended, stale, no_link, too_long, bad_ipc, too_large, ids_spent, no_such_call, wrong_kind, answer_refusal, say_refusal}
use Rattle.ra_session.specs.Sessions.{Session}
use Rattle.ra_registry.specs.declared.row.Row.{Row}
use Rattle.ra_hub.specs.Hubs.{at_key, row, missed}
use Rattle.ra_hub.specs.Jobs.{SeenJob}
use Rattle.ra_grand_runs.specs.Grands.{Grand}

-- what a session is told: an answer and an event, or a message
pub data Telling : Type 0 where
  answers : (id : ℕ) → Reply → Option Firing → Telling
  speaks : (body : List ℕ) → Telling

abbrev pub fired_on : List ℕ → Event → Firing
fired_on channel e = record { channel = channel; event = e.name; body = e.body }

abbrev pub answered_by : ℕ → List ℕ → Effect → Telling
answered_by id channel done = answers id done.answer (option_map (fired_on channel) done.event)

-- what the tools make of work
abbrev pub telling : Happening → Option Telling
telling (work call) = Some (answered_by call.id call.channel (tools call.name call.arg call.cancelled))
telling (host body) = Some (speaks body)
telling (call_settled id outcome) = None
telling (event_fired id body) = None

abbrev pub told : Telling → ℕ → Session → Session
told (answers id reply fire) now s = answer id reply fire now s
told (speaks body) now s = say_body body now s

abbrev pub telling_refusal : Telling → Session → Option Refusal
telling_refusal (answers id reply fire) s = answer_refusal id reply fire s
telling_refusal (speaks body) s = say_refusal body s

-- ---- answers that are too large

abbrev pub large_answer : Telling → Telling
large_answer (answers id reply fire) = answers id (error (object (codes "{\"message\":\"answer too large\",\"name\":\"Error\"}"))) None
large_answer (speaks body) = speaks body

-- another answer stands in for one that is refused as too large
abbrev pub unless_large : Option Refusal → Telling → Telling
unless_large None t = t
unless_large (Some (too_large len)) t = large_answer t
unless_large (Some (ended cause)) t = t
unless_large (Some (stale current)) t = t
unless_large (Some no_link) t = t
unless_large (Some (too_long stated)) t = t
unless_large (Some (bad_ipc bad message)) t = t
unless_large (Some ids_spent) t = t
unless_large (Some (no_such_call id)) t = t
unless_large (Some wrong_kind) t = t

abbrev pub sayable : Telling → Session → Telling
sayable t s = unless_large (telling_refusal t s) t

-- ---- one job

-- the session that is told, where the key has a row
abbrev pub session_by : Option Row → Option Session → Option Session
session_by None session = None
session_by (Some row) session = session

-- the telling of a job, and the session that is told
pub record Told : Type 0 where
  pub telling : Telling
  pub session : Session

abbrev pub told_to : Option Telling → Option Session → Option Told
told_to None session = None
told_to (Some t) None = None
told_to (Some t) (Some s) = Some (record { telling = sayable t s; session = s })

abbrev pub told_by : SeenJob → Grand → Option Told
told_by job w = told_to (telling job.work) (session_by (row w.hub job.key) (w.hub.session job.key))

-- nobody is told of a job whose session has ended
abbrev pub if_told : Option Refusal → Option Refusal
if_told None = None
if_told (Some (ended cause)) = None
if_told (Some (stale current)) = Some (stale current)
if_told (Some no_link) = Some no_link
if_told (Some (too_long stated)) = Some (too_long stated)
if_told (Some (bad_ipc bad message)) = Some (bad_ipc bad message)
if_told (Some (too_large len)) = Some (too_large len)
if_told (Some ids_spent) = Some ids_spent
if_told (Some (no_such_call id)) = Some (no_such_call id)
if_told (Some wrong_kind) = Some wrong_kind

abbrev pub told_refusal : Option Told → Option Refusal
told_refusal None = None
told_refusal (Some t) = if_told (telling_refusal t.telling t.session)

-- a session that has not ended is told
abbrev pub unless_ended : Option Refusal → Key → Telling → Session → Grand → Grand
unless_ended None key t s w = record w { hub = at_key key (told t w.now s) w.hub }
unless_ended (Some refusal) key t s w = w

-- a key that has no row is entered
abbrev pub misses : Option Row → Key → Grand → Grand
misses None key w = record w { hub = missed key w.now w.hub }
misses (Some row) key w = w

abbrev pub tells : Key → Option Told → Grand → Grand
tells key None w = misses (row w.hub key) key w
tells key (Some t) w = unless_ended (telling_refusal t.telling t.session) key t.telling t.session w

-- the n-th job is done, and waits no more
abbrev pub without_job : ℕ → Grand → Grand
without_job n w = record w { jobs = take (n - 1) w.jobs ++ drop n w.jobs }

abbrev pub work_by : Option SeenJob → ℕ → Grand → Grand
work_by None n w = w
work_by (Some job) n w = tells job.key (told_by job w) (without_job n w)

unfoldable pub worked : ℕ → Grand → Grand
worked n w = work_by (at_number w.jobs n) n w
