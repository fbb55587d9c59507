-- A run that ends early.
use Rattle.std.specs.Prelude.{◌≡◌, ◌≢◌, ℕ, true, take, slice_get, Some, List}
use Rattle.ra_base.specs.declared.event.Event.{Event}
use Rattle.ra_model.specs.declared.fault.EventFault.{EventFault}
use Rattle.ra_model.specs.declared.fault.EventFault.TheVariants.{NoMemory}
use Rattle.ra_model.specs.Worlds.{World}
use Rattle.ra_model.specs.Events.{run, is_accepted}
use Rattle.ra_model.specs.Refusals.{refusal}

-- No event before this place is refused. The one at this place is refused with this fault, or it met want of memory.
pub record IsRefusedAt (at : ℕ) (fault : EventFault) (events : List Event) (w : World) : Type 0 where
  pub event : Event
  pub there : slice_get events at ≡ Some event
  pub before : is_accepted (take at events) w ≡ true
  pub refused : fault ≢ NoMemory → refusal (run (take at events) w) event ≡ Some fault
