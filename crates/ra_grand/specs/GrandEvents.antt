-- Which events a world takes, and the runs of a list of events.
use Rattle.std.specs.Prelude.{◌≡◌, ℕ, true, Some, List, map, take, slice_get}
use Rattle.ra_script.specs.GrandLines.{IsNoTunnel, IsMomentInRange, GrandEventFits}
use Rattle.ra_script.specs.declared.grand_line.GrandEvent.{GrandEvent}
use Rattle.ra_grand_runs.specs.declared.fault.GrandFault.{GrandFault}
use Rattle.ra_grand.specs.declared.world.GrandWorld.{GrandWorld}
use Rattle.ra_grand_runs.specs.Fits.{RunFits}
use Rattle.ra_grand_runs.specs.GrandRefusals.{refusal}
use Rattle.ra_grand_runs.specs.GrandRuns.{run, is_accepted}
use Rattle.ra_grand.specs.GrandStates.{StandsForGrand}
use Rattle.ra_grand_runs.specs.GrandViews.{IsCause}
use Rattle.ra_grand_runs.specs.Grands.{new_grand}
use Rattle.ra_grand_runs.specs.Marks.{Entry}

-- no client is one of a tunnel, the moment is below 2^53, and what a call or a listener carries can be written
abbrev pub IsGrandEvent : GrandEvent → Type 0
IsGrandEvent event = IsNoTunnel event × IsMomentInRange event × GrandEventFits event

-- These events were applied, each with its mark, which fits the world before it, and the world stands for the run.
pub record Ran (events : List GrandEvent) (world : GrandWorld) : Type 0 where
  pub entries : List Entry
  pub events_are : map (λ e. e.event) entries ≡ events
  pub accepted : is_accepted entries new_grand ≡ true
  pub fits : RunFits entries new_grand
  pub stands : StandsForGrand world (run entries new_grand)

-- the events before this place were applied, and the one there was refused
pub record WasRefused (events : List GrandEvent) (at : ℕ) (fault : GrandFault) : Type 0 where
  pub entries : List Entry
  pub events_are : map (λ e. e.event) entries ≡ take at events
  pub accepted : is_accepted entries new_grand ≡ true
  pub fits : RunFits entries new_grand
  pub event : GrandEvent
  pub there : slice_get events at ≡ Some event
  pub cause : IsCause fault (refusal event (run entries new_grand))
