-- What `grand` prints for a script.
use Rattle.std.specs.Prelude.{ℕ, zero, suc, ◌+◌, ◌^◌, nat_lt, if◌then◌else◌, Bool, true, false, Option, Some, None, Result, Ok, Err, List, [], ◌∷◌, ◌++◌, length}
use Rattle.ra_dial.specs.Acts.{Act, nothing, quiet, rest_until, connect, drop_link, happened, ends}
use Rattle.ra_script.specs.declared.grand_line.GrandEvent.{GrandEvent}
use Rattle.ra_script.specs.declared.grand_line.GrandEvent.TheVariants.{Frame}
use Rattle.ra_script.specs.declared.grand_line.GrandLine.{GrandLine}
use Rattle.ra_script.specs.declared.grand_line.GrandLine.TheVariants.{Do, Drain}
use Rattle.ra_script.specs.declared.line.ScriptFault.{ScriptFault}
use Rattle.ra_script.specs.declared.line.ScriptFault.TheVariants as unread
use Rattle.ra_script.specs.Causes.{cause_name}
use Rattle.ra_script.specs.GrandReading.{grand_script_at}
use Rattle.ra_grand_runs.specs.GrandEffects.{Effect, done, made, acts, moved, broke, swept, issued, outcome, effect}
use Rattle.ra_grand_runs.specs.GrandRefusals.{Refusal, refusal}
use Rattle.ra_grand_runs.specs.GrandRuns.{happens}
use Rattle.ra_grand_runs.specs.Grands.{Grand, new_grand}
use Rattle.ra_grand_runs.specs.Marks.{whole}
use Rattle.ra_endpoint_commands.specs.declared.report.Ending.TheVariants.{Done, Refused}
use Rattle.ra_endpoint_commands.specs.declared.read_whole.Input.{Input}
use Rattle.ra_endpoint_commands.specs.declared.read_whole.Input.TheVariants.{Whole, Over}
use Rattle.ra_commands.specs.GrandLines.{made_word, effect_text, grand_fault_line, grand_end_line}
use Rattle.ra_endpoint_commands.specs.Lines.{line}
use Rattle.ra_endpoint_commands.specs.Receive.{Report, prefixed}
use Rattle.ra_endpoint_commands.specs.Replay.{script_limit, over_report}
use Rattle.ra_endpoint_commands.specs.ReplayLines.{unread_line}

-- ---- one line

-- what a line prints, and the world behind it; a cause where it is refused, behind what it printed before
pub record GrandStep : Type 0 where
  pub text : List ℕ
  pub world : Grand
  pub cause : Option Refusal

abbrev pub refused_or : Option Refusal → List ℕ → Grand → Grand → GrandStep
refused_or None text next w = record { text = text; world = next; cause = None }
refused_or (Some cause) text next w = record { text = []; world = w; cause = Some cause }

-- an event, applied whole
unfoldable pub event_step : GrandEvent → Grand → GrandStep
event_step event w = refused_or (refusal event w) (line (effect_text (made_word event) (effect whole event w))) (happens whole event w) w

-- whether a drain goes on after this
abbrev pub goes_on_after : Act → Bool
goes_on_after nothing = false
goes_on_after quiet = true
goes_on_after (rest_until until) = false
goes_on_after connect = true
goes_on_after drop_link = false
goes_on_after (happened happening) = true
goes_on_after (ends cause) = false

abbrev pub goes_on : Effect → Bool
goes_on done = false
goes_on (made number) = false
goes_on (acts act) = goes_on_after act
goes_on (moved bytes end) = false
goes_on (broke bytes) = false
goes_on (swept expired short) = false
goes_on (issued id) = false
goes_on (outcome result) = false

abbrev pub and_then : List ℕ → GrandStep → GrandStep
and_then text s = record { text = text ++ s.text; world = s.world; cause = s.cause }

abbrev pub frame_on : Option Refusal → Bool → List ℕ → Grand → Grand → (Grand → GrandStep) → GrandStep
frame_on (Some cause) more text next w others = record { text = []; world = w; cause = Some cause }
frame_on None false text next w others = record { text = text; world = next; cause = None }
frame_on None true text next w others = and_then text (others next)

-- frames of a client, at most n of them
unfoldable pub drain_within : ℕ → ℕ → Grand → GrandStep
drain_within zero client w = record { text = []; world = w; cause = None }
drain_within (suc n) client w =
    let event = Frame client in
    let done = effect whole event w in
    frame_on (refusal event w) (goes_on done) (line (effect_text (made_word event) done)) (happens whole event w) w (drain_within n client)

-- as many as a count of 64 bits can tell
unfoldable pub drain_step : ℕ → Grand → GrandStep
drain_step client w = drain_within (2 ^ 64) client w

unfoldable pub line_step : GrandLine → Grand → GrandStep
line_step (Do event) w = event_step event w
line_step (Drain client) w = drain_step client w

-- ---- a script

unfoldable pub world_line : Grand → List ℕ
world_line w = grand_end_line (length w.clients) (length w.places) (length w.jobs)

abbrev pub step_then : Option Refusal → ℕ → List ℕ → Report → Report
step_then None n text others = prefixed text others
step_then (Some cause) n text others = record { text = text ++ grand_fault_line n cause; ending = Refused }

-- the lines of a script from the n-th on, in a world
unfoldable pub lines_report : ℕ → List GrandLine → Grand → Report
lines_report n [] w = record { text = world_line w; ending = Done }
lines_report n (l ∷ lines) w =
    let s = line_step l w in
    step_then s.cause n s.text (lines_report (n + 1) lines s.world)

abbrev pub script_report : Result (List GrandLine) ScriptFault → Report
script_report (Ok lines) = lines_report 1 lines new_grand
script_report (Err (unread.At n what)) = record { text = unread_line n (cause_name what); ending = Refused }
script_report (Err unread.NoMemory) = record { text = []; ending = Refused }

-- what is printed for an input
abbrev pub input_report : Input → Report
input_report (Whole bytes) = script_report (grand_script_at bytes.items)
input_report Over = over_report

unfoldable pub grand_report : List ℕ → Report
grand_report input = if nat_lt script_limit (length input) then over_report else script_report (grand_script_at input)
