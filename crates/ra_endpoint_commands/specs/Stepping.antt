-- What a line of a script does in a world in memory.
use Rattle.std.specs.Prelude.{◌≡◌, Bool, true, false, is_some, Option, Some, None, List, ℕ, ◌++◌, Result, Ok, Err}
use Rattle.ra_base.specs.declared.event.Side.{Side}
use Rattle.ra_base.specs.declared.event.Event.TheVariants.{Take}
use Rattle.ra_model.specs.declared.effect.Effect.{Effect}
use Rattle.ra_model.specs.declared.effect.Effect.TheVariants.{Nothing}
use Rattle.ra_model.specs.declared.fault.EventFault.{EventFault}
use Rattle.ra_model.specs.declared.fault.EventFault.TheVariants.{NoSuchLink, TooMany, End, NoMemory}
use Rattle.ra_model.specs.Taking.{delivery}
use Rattle.ra_model.specs.Worlds.{World, peer}
use Rattle.ra_model.specs.Refusals.{refusal}
use Rattle.ra_model.specs.Events.{after, effect}
use Rattle.ra_world.specs.WorldStates.{WorldState, StandsForWorld, IsEvent}
use Rattle.ra_script.specs.declared.line.Line.{Line}
use Rattle.ra_script.specs.declared.line.Line.TheVariants.{Base, Do, Drain}
use Rattle.ra_endpoint_commands.specs.ReplayLines.{effect_line}
use Rattle.ra_endpoint_commands.specs.declared.report.Ending.{Ending}
use Rattle.ra_endpoint_commands.specs.Receive.{Report}
use Rattle.ra_endpoint_commands.specs.Replay.{Step}

-- the moment of each At is below 2^53
abbrev pub IsLine : Line → Type 0
IsLine (Base base) = Unit {0}
IsLine (Do event) = IsEvent event
IsLine (Drain side) = Unit {0}

-- the world behind it stands for the step's, and the text has its lines
pub record Makes (fault : Option EventFault) (world : WorldState) (before behind : List ℕ) (step : Step) : Type 0 where
  pub stands : StandsForWorld world step.world
  pub text : behind ≡ before ++ step.text
  pub is : step.fault ≡ fault

-- the same, unless memory ran out
abbrev pub Steps : Result (Unit {0}) EventFault → WorldState → List ℕ → List ℕ → Step → Type 0
Steps (Ok _) world before behind step = Makes None world before behind step
Steps (Err NoMemory) world before behind step = Unit {0}
Steps (Err (NoSuchLink link)) world before behind step = Makes (Some (NoSuchLink link)) world before behind step
Steps (Err (TooMany asked there)) world before behind step = Makes (Some (TooMany asked there)) world before behind step
Steps (Err (End fault)) world before behind step = Makes (Some (End fault)) world before behind step

-- a side took a frame, or there was none
abbrev pub is_frame : Effect → Bool
is_frame Nothing = false
is_frame _ = true

pub record TakesOne (side : Side) (more : Bool) (world : WorldState) (before behind : List ℕ) (w : World) : Type 0 where
  pub free : refusal w (Take side) ≡ None
  pub stands : StandsForWorld world (after (Take side) w)
  pub text : behind ≡ before ++ effect_line side (effect w (Take side))
  pub there : more ≡ is_some (delivery (peer side w).endpoint)

-- it could not, and nothing changed
pub record RefusesOne (side : Side) (fault : EventFault) (world : WorldState) (before behind : List ℕ) (w : World) : Type 0 where
  pub is : refusal w (Take side) ≡ Some fault
  pub stands : StandsForWorld world w
  pub text : behind ≡ before

abbrev pub Takes : Result Bool EventFault → Side → WorldState → List ℕ → List ℕ → World → Type 0
Takes (Ok more) side world before behind w = TakesOne side more world before behind w
Takes (Err NoMemory) side world before behind w = Unit {0}
Takes (Err (NoSuchLink link)) side world before behind w = RefusesOne side (NoSuchLink link) world before behind w
Takes (Err (TooMany asked there)) side world before behind w = RefusesOne side (TooMany asked there) world before behind w
Takes (Err (End fault)) side world before behind w = RefusesOne side (End fault) world before behind w

-- a report was added to a text, and this is its ending
pub record Adds (report : Report) (before behind : List ℕ) (end : Ending) : Type 0 where
  pub text : behind ≡ before ++ report.text
  pub ending : end ≡ report.ending
