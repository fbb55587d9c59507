-- What an event answers. Want of memory is the one answer that no cause decides.
use Rattle.std.specs.Prelude.{◌≡◌, ◌≢◌, Option, Some, None, Result, Ok, Err}
use Rattle.ra_model.specs.declared.effect.Effect.{Effect}
use Rattle.ra_model.specs.declared.effect.Effect.TheVariants.{Done}
use Rattle.ra_model.specs.declared.fault.EndFault.{EndFault}
use Rattle.ra_model.specs.declared.fault.EndFault.TheVariants.{Ended, Stale, NoLink, NotJoining, TooLarge, IdsSpent, TooLong, NoMemory}
use Rattle.ra_model.specs.declared.fault.EventFault.{EventFault}
use Rattle.ra_model.specs.declared.fault.EventFault.TheVariants.{End, NoMemory as WantOfMemory}

-- no cause refused the event, or this one did
abbrev pub RefusedBy : {X : Type 0} → Result X EventFault → Option EventFault → Type 0
RefusedBy (Ok value) cause = cause ≡ None
RefusedBy (Err fault) cause = fault ≢ WantOfMemory → cause ≡ Some fault

-- no cause refused the event, it answers this, and this holds then; or the cause refused it
abbrev pub Answers : Result Effect EventFault → Option EventFault → Effect → Type 0 → Type 0
Answers (Ok answer) cause effect Then = (cause ≡ None) × (answer ≡ effect) × Then
Answers (Err fault) cause effect Then = fault ≢ WantOfMemory → cause ≡ Some fault

-- the fault of an event whose end refuses
abbrev pub event_fault : EndFault → EventFault
event_fault Ended = End Ended
event_fault (Stale current) = End (Stale current)
event_fault NoLink = End NoLink
event_fault NotJoining = End NotJoining
event_fault (TooLarge len) = End (TooLarge len)
event_fault IdsSpent = End IdsSpent
event_fault (TooLong stated) = End (TooLong stated)
event_fault NoMemory = WantOfMemory

-- the answer of a call that has nothing to tell
abbrev pub done_of : {X : Type 0} → Result X EndFault → Result Effect EventFault
done_of (Ok value) = Ok Done
done_of (Err fault) = Err (event_fault fault)
