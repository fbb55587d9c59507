-- What a line of a grand script does in a world in memory.
use Rattle.std.specs.Prelude.{◌≡◌, ◌≢◌, ◌≤◌, Bool, None, List, ℕ, ◌++◌, length, Result, Ok, Err}
use Rattle.ra_script.specs.declared.grand_line.GrandEvent.TheVariants.{Frame}
use Rattle.ra_grand_runs.specs.declared.effect.GrandEffect.{GrandEffect}
use Rattle.ra_grand_runs.specs.declared.fault.GrandFault.{GrandFault}
use Rattle.ra_grand_runs.specs.declared.fault.GrandFault.TheVariants.{NoMemory}
use Rattle.ra_grand.specs.declared.world.GrandWorld.{GrandWorld}
use Rattle.ra_grand_runs.specs.GrandEffects.{effect}
use Rattle.ra_grand_runs.specs.GrandRefusals.{refusal}
use Rattle.ra_grand_runs.specs.GrandRuns.{happens}
use Rattle.ra_grand_runs.specs.Grands.{Grand}
use Rattle.ra_grand.specs.GrandStates.{StandsForGrand}
use Rattle.ra_grand_runs.specs.GrandViews.{IsCause, effect_of}
use Rattle.ra_grand_runs.specs.Marks.{whole}
use Rattle.ra_endpoint_commands.specs.declared.read_whole.Input.{Input}
use Rattle.ra_endpoint_commands.specs.declared.read_whole.Input.TheVariants.{Whole, Over}
use Rattle.ra_commands.specs.Grand.{GrandStep, goes_on}
use Rattle.ra_commands.specs.GrandLines.{effect_text, made_word}
use Rattle.ra_endpoint_commands.specs.Lines.{line}
use Rattle.ra_endpoint_commands.specs.Replay.{script_limit}

-- the world behind it stands for the step's, and the text has its lines
pub record GrandMakes (world : GrandWorld) (before behind : List ℕ) (step : GrandStep) : Type 0 where
  pub stands : StandsForGrand world step.world
  pub text : behind ≡ before ++ step.text

-- the same, unless memory ran out
abbrev pub GrandSteps : Result (Unit {0}) GrandFault → GrandWorld → List ℕ → List ℕ → GrandStep → Type 0
GrandSteps (Ok u) world before behind step = GrandMakes world before behind step × (step.cause ≡ None)
GrandSteps (Err fault) world before behind step = fault ≢ NoMemory → GrandMakes world before behind step × IsCause fault step.cause

-- whether a drain goes on after that
abbrev pub goes_on_in : GrandEffect → Bool
goes_on_in answer = goes_on (effect_of answer)

-- a frame was taken
pub record TakesOneFrame (client : ℕ) (more : Bool) (world : GrandWorld) (before behind : List ℕ) (w : Grand) : Type 0 where
  pub free : refusal (Frame client) w ≡ None
  pub stands : StandsForGrand world (happens whole (Frame client) w)
  pub text : behind ≡ before ++ line (effect_text (made_word (Frame client)) (effect whole (Frame client) w))
  pub on : more ≡ goes_on (effect whole (Frame client) w)

-- it could not, and nothing changed
pub record RefusesFrame (client : ℕ) (fault : GrandFault) (world : GrandWorld) (before behind : List ℕ) (w : Grand) : Type 0 where
  pub cause : IsCause fault (refusal (Frame client) w)
  pub stands : StandsForGrand world w
  pub text : behind ≡ before

abbrev pub TakesFrame : Result Bool GrandFault → ℕ → GrandWorld → List ℕ → List ℕ → Grand → Type 0
TakesFrame (Ok more) client world before behind w = TakesOneFrame client more world before behind w
TakesFrame (Err fault) client world before behind w = fault ≢ NoMemory → RefusesFrame client fault world before behind w

-- an input that was read whole is within the limit of a script
abbrev pub IsWithinLimit : Input → Type 0
IsWithinLimit (Whole bytes) = length bytes.items ≤ script_limit
IsWithinLimit Over = Unit {0}
