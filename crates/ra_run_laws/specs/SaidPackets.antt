-- The packets that a session of the server has said, and where they come from: the tools' answers that it was told, with the events that they
-- fired, and the answers to calls that waited too long for their channel.
use Rattle.std.specs.Prelude.{ℕ, Bool, if◌then◌else◌, Option, Some, None, List, [], ◌∷◌, ◌++◌}
use Rattle.std.specs.List.{list_any}
use Rattle.std.specs.Option.{is_some}
use Rattle.ra_base.specs.declared.key.Key.{Key}
use Rattle.ra_model.specs.Links.{at_number}
use Rattle.ra_ipc.specs.ChannelServers.{timeout_answers}
use Rattle.ra_ipc.specs.Messages.{Message, promise, promise_cancel, event_listen, event_dispose, initialize, response, event_fire}
use Rattle.ra_registry.specs.Rows.{same_key}
use Rattle.ra_session.specs.SessionCalls.{answer_packets}
use Rattle.ra_session.specs.SessionRefusals.{tick_refusal, Refusal as SessionRefusal}
use Rattle.ra_session.specs.Sessions.{Session}
use Rattle.ra_hub.specs.Jobs.{SeenJob}
use Rattle.ra_hub.specs.Sweeps.{grace_is_over}
use Rattle.ra_script.specs.declared.grand_line.GrandEvent.{GrandEvent}
use Rattle.ra_script.specs.declared.grand_line.GrandEvent.TheVariants as events
use Rattle.ra_grand_runs.specs.GrandRefusals.{refusal}
use Rattle.ra_grand_runs.specs.GrandRuns.{after}
use Rattle.ra_grand_runs.specs.GrandSweeps.{left_by}
use Rattle.ra_grand_runs.specs.Grands.{Grand}
use Rattle.ra_grand_runs.specs.Marks.{Mark, Entry}
use Rattle.ra_grand_runs.specs.Works.{Telling, answers, speaks, Told, told_by, telling_refusal}
use Rattle.ra_run_laws.specs.Runs.{unless}

-- all packets but Initialize, which a session says when it has heard the context
abbrev pub without_initialize : List Message → List Message
without_initialize [] = []
without_initialize (promise id channel name arg ∷ ms) = promise id channel name arg ∷ without_initialize ms
without_initialize (promise_cancel id ∷ ms) = promise_cancel id ∷ without_initialize ms
without_initialize (event_listen id channel event arg ∷ ms) = event_listen id channel event arg ∷ without_initialize ms
without_initialize (event_dispose id ∷ ms) = event_dispose id ∷ without_initialize ms
without_initialize (initialize ∷ ms) = without_initialize ms
without_initialize (response id reply ∷ ms) = response id reply ∷ without_initialize ms
without_initialize (event_fire id body ∷ ms) = event_fire id body ∷ without_initialize ms

-- ---- a job

-- an answer that is told, behind the events that it fires for the listeners of that moment
abbrev pub packets_told : Telling → Session → List Message
packets_told (answers id reply fire) s = answer_packets s.server id reply fire
packets_told (speaks body) s = []

-- a session that refuses it says nothing
abbrev pub unless_refused : Option SessionRefusal → List Message → List Message
unless_refused None said = said
unless_refused (Some refused) said = []

abbrev pub packets_of : Option Told → List Message
packets_of None = []
packets_of (Some t) = unless_refused (telling_refusal t.telling t.session) (packets_told t.telling t.session)

abbrev pub job_packets : Key → Option SeenJob → Grand → List Message
job_packets key None w = []
job_packets key (Some job) w = if same_key key job.key then packets_of (told_by job w) else []

-- ---- a sweep

-- a session that has not ended answers the calls that waited too long
abbrev pub late_packets : (over left : Bool) → ℕ → Session → List Message
late_packets over left now s =
    if over then [] else (if left then [] else (if is_some (tick_refusal now s) then [] else (if is_some s.cause then [] else timeout_answers s.server now)))

abbrev pub late_of : (over left : Bool) → ℕ → Option Session → List Message
late_of over left now None = []
late_of over left now (Some s) = late_packets over left now s

-- ---- a run

unfoldable pub packets_by : Key → Mark → GrandEvent → Grand → List Message
packets_by key mark (events.Work n) w = job_packets key (at_number w.jobs n) w
packets_by key mark events.Sweep w = late_of (grace_is_over w.hub w.now key) (list_any (same_key key) (left_by mark)) w.now (w.hub.session key)
packets_by key mark _ w = []

-- in order
abbrev pub packets_over : Key → List Entry → Grand → List Message
packets_over key [] w = []
packets_over key (entry ∷ entries) w = unless (refusal entry.event w) (packets_by key entry.mark entry.event w) ++ packets_over key entries (after entry w)
