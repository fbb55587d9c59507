-- What `replay` prints for a script, and `soak` for its words.
use Rattle.std.specs.Prelude.{ℕ, zero, suc, ◌+◌, nat_lt, if◌then◌else◌, Option, Some, None, Result, Ok, Err, List, [], ◌∷◌, ◌++◌, length, codes}
use Rattle.ra_base.specs.declared.event.Side.{Side}
use Rattle.ra_base.specs.declared.event.Side.TheVariants.{A, B}
use Rattle.ra_base.specs.declared.event.Event.{Event}
use Rattle.ra_base.specs.declared.event.Event.TheVariants.{Take}
use Rattle.ra_model.specs.declared.session.Up.{Up as Delivery}
use Rattle.ra_model.specs.declared.fault.EventFault.{EventFault}
use Rattle.ra_model.specs.Endpoints.{owed}
use Rattle.ra_model.specs.Taking.{delivery}
use Rattle.ra_model.specs.Worlds.{World, new_world, peer}
use Rattle.ra_model.specs.Refusals.{refusal}
use Rattle.ra_model.specs.Events.{after, effect}
use Rattle.ra_script.specs.declared.line.Line.{Line}
use Rattle.ra_script.specs.declared.line.Line.TheVariants.{Base, Do, Drain}
use Rattle.ra_script.specs.declared.line.ScriptFault.{ScriptFault}
use Rattle.ra_script.specs.declared.line.ScriptFault.TheVariants as unread
use Rattle.ra_script.specs.Causes.{cause_name}
use Rattle.ra_script.specs.Reading.{script_at}
use Rattle.ra_endpoint_commands.specs.declared.report.Ending.TheVariants.{Done, Refused}
use Rattle.ra_endpoint_commands.specs.declared.read_whole.Input.{Input}
use Rattle.ra_endpoint_commands.specs.declared.read_whole.Input.TheVariants.{Whole, Over}
use Rattle.ra_endpoint_commands.specs.Lines.{line}
use Rattle.ra_endpoint_commands.specs.ReplayLines.{side_of, effect_line, base_line, fault_line, unread_line, script_over_line, side_counts}
use Rattle.ra_endpoint_commands.specs.Receive.{Report, prefixed}

-- the most bytes of a script
abbrev pub script_limit : ℕ
script_limit = 67108864

-- ---- one line

-- what a line prints, and the world behind it; a fault where it is refused, behind what it printed before
pub record Step : Type 0 where
  pub text : List ℕ
  pub world : World
  pub fault : Option EventFault

abbrev pub refused_or : Option EventFault → List ℕ → World → World → Step
refused_or None text next w = record { text = text; world = next; fault = None }
refused_or (Some fault) text next w = record { text = []; world = w; fault = Some fault }

-- an event
unfoldable pub event_step : Event → World → Step
event_step event w = refused_or (refusal w event) (effect_line (side_of event) (effect w event)) (after event w) w

-- a side takes a frame, and goes on where there was one
abbrev pub and_then : List ℕ → Step → Step
and_then text s = record { text = text ++ s.text; world = s.world; fault = s.fault }

abbrev pub take_on : Option EventFault → Option Delivery → Side → World → (World → Step) → Step
take_on (Some fault) up side w others = record { text = []; world = w; fault = Some fault }
take_on None None side w others = record { text = effect_line side (effect w (Take side)); world = after (Take side) w; fault = None }
take_on None (Some up) side w others = and_then (effect_line side (effect w (Take side))) (others (after (Take side) w))

-- a side takes frames until there is none, at most n of them
unfoldable pub drain_within : ℕ → Side → World → Step
drain_within zero side w = record { text = []; world = w; fault = None }
drain_within (suc n) side w = take_on (refusal w (Take side)) (delivery (peer side w).endpoint) side w (drain_within n side)

-- there are no more frames than unread bytes
unfoldable pub drain_step : Side → World → Step
drain_step side w = drain_within (suc (length (peer side w).endpoint.unread)) side w

unfoldable pub line_step : Line → World → Step
line_step (Base base) w = record { text = base_line base; world = w; fault = None }
line_step (Do event) w = event_step event w
line_step (Drain side) w = drain_step side w

-- ---- a script

-- what a side said, heard and has still to be acknowledged
unfoldable pub side_line : Side → World → List ℕ
side_line side w =
    let p = peer side w in
    side_counts side (length p.endpoint.said) (length p.heard) (length (owed p.endpoint))

-- the last line
unfoldable pub world_line : World → List ℕ
world_line w = line (codes "end " ++ side_line A w ++ codes " " ++ side_line B w)

abbrev pub step_then : Option EventFault → ℕ → List ℕ → Report → Report
step_then None n text others = prefixed text others
step_then (Some fault) n text others = record { text = text ++ fault_line n fault; ending = Refused }

-- the lines of a script from the n-th on, in a world
unfoldable pub lines_report : ℕ → List Line → World → Report
lines_report n [] w = record { text = world_line w; ending = Done }
lines_report n (l ∷ lines) w =
    let s = line_step l w in
    step_then s.fault n s.text (lines_report (n + 1) lines s.world)

-- the base of a script
abbrev pub base_of : List Line → ℕ
base_of [] = 0
base_of (Base base ∷ lines) = base
base_of (Do event ∷ lines) = 0
base_of (Drain side ∷ lines) = 0

abbrev pub script_report : Result (List Line) ScriptFault → Report
script_report (Ok lines) = lines_report 1 lines (new_world (base_of lines))
script_report (Err (unread.At n what)) = record { text = unread_line n (cause_name what); ending = Refused }
script_report (Err unread.NoMemory) = record { text = []; ending = Refused }

-- what is printed for an input
abbrev pub over_report : Report
over_report = record { text = script_over_line; ending = Refused }

abbrev pub input_report : Input → Report
input_report (Whole bytes) = script_report (script_at bytes.items)
input_report Over = over_report

unfoldable pub replay_report : List ℕ → Report
replay_report input = if nat_lt script_limit (length input) then over_report else script_report (script_at input)
