-- What a client hands up over a run: the outcomes of its calls, and the events of its listeners.
use Rattle.std.specs.Prelude.{ℕ, ◌==◌, if◌then◌else◌, Option, Some, None, List, [], ◌∷◌, ◌++◌}
use Rattle.ra_model.specs.Links.{at_number}
use Rattle.ra_values.specs.Tree.{Tree}
use Rattle.ra_ipc.specs.ChannelPairs.{Outcome, cancelled}
use Rattle.ra_ipc.specs.View.{id_of}
use Rattle.ra_session.specs.Hearing.{Happening}
use Rattle.ra_dial.specs.Acts.{Act, nothing, quiet, rest_until, connect, drop_link, happened, ends}
use Rattle.ra_dial.specs.declared.values.DialEvent.TheVariants as dial_events
use Rattle.ra_channel_laws.specs.Channels.{settled_in, fired_in}
use Rattle.ra_script.specs.declared.grand_line.GrandEvent.{GrandEvent}
use Rattle.ra_script.specs.declared.grand_line.GrandEvent.TheVariants as events
use Rattle.ra_grand_runs.specs.GrandClients.{Client, dials}
use Rattle.ra_grand_runs.specs.GrandRefusals.{refusal}
use Rattle.ra_grand_runs.specs.GrandRuns.{after}
use Rattle.ra_grand_runs.specs.Grands.{Grand}
use Rattle.ra_grand_runs.specs.Marks.{Entry}
use Rattle.ra_run_laws.specs.Runs.{unless}

-- what a dialer's act hands up
abbrev pub happening_of : Act → Option Happening
happening_of nothing = None
happening_of quiet = None
happening_of (rest_until until) = None
happening_of connect = None
happening_of drop_link = None
happening_of (happened h) = Some h
happening_of (ends end) = None

-- a frame is looked at by this client
abbrev pub framed : ℕ → Option Client → Option Happening
framed now None = None
framed now (Some c) = happening_of (dials dial_events.Frame now c).0

-- the outcomes that an event gives the client with this number: that of a call whose answer it hears, and that of one which it cancels
unfoldable pub settled_by : ℕ → GrandEvent → Grand → List (ℕ × Outcome)
settled_by n (events.Frame m) w = if m == n then settled_in (framed w.now (at_number w.clients m)) else []
settled_by n (events.Cancel m id) w = if m == n then (id_of id, cancelled) ∷ [] else []
settled_by n _ w = []

-- and the events of its listeners
unfoldable pub fired_by : ℕ → GrandEvent → Grand → List (ℕ × Tree)
fired_by n (events.Frame m) w = if m == n then fired_in (framed w.now (at_number w.clients m)) else []
fired_by n _ w = []

-- over a run, in order
abbrev pub settled : ℕ → List Entry → Grand → List (ℕ × Outcome)
settled n [] w = []
settled n (entry ∷ entries) w = unless (refusal entry.event w) (settled_by n entry.event w) ++ settled n entries (after entry w)

abbrev pub fired : ℕ → List Entry → Grand → List (ℕ × Tree)
fired n [] w = []
fired n (entry ∷ entries) w = unless (refusal entry.event w) (fired_by n entry.event w) ++ fired n entries (after entry w)
