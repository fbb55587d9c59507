-- A call that answers as its causes say. Want of memory is the one answer that no cause decides.
use Rattle.std.specs.Prelude.{◌≡◌, ◌≢◌, ℕ, Option, Some, None, Result, Ok, Err}
use Rattle.ra_model.specs.declared.fault.EndFault.{EndFault}
use Rattle.ra_model.specs.declared.fault.EndFault.TheVariants.{NoMemory}
use Rattle.ra_proto.specs.declared.saying.SayFault.{SayFault}

-- no cause refused it, or this one did
abbrev pub RefusedBy : {X : Type 0} → Result X EndFault → Option EndFault → Type 0
RefusedBy (Ok value) cause = cause ≡ None
RefusedBy (Err fault) cause = fault ≢ NoMemory → cause ≡ Some fault

-- the same of a say
abbrev pub SayRefusedBy : Result ℕ SayFault → Option EndFault → Type 0
SayRefusedBy (Ok id) cause = cause ≡ None
SayRefusedBy (Err refused) cause = refused.fault ≢ NoMemory → cause ≡ Some refused.fault
