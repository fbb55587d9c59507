-- Which faults the calls of a hub answer, and what those of the registry and of a session are to it.
use Rattle.std.specs.Prelude.{Bool, true, false}
use Rattle.ra_registry.specs.declared.fault.AdmitFault.{AdmitFault}
use Rattle.ra_registry.specs.declared.fault.AdmitFault.TheVariants as admission
use Rattle.ra_session.specs.Carried.{AttachCarries, TurnCarries}
use Rattle.ra_session.specs.declared.values.SessionFault.{SessionFault}
use Rattle.ra_session.specs.declared.values.SessionFault.TheVariants as session
use Rattle.ra_hub.specs.declared.fault.HubFault.{HubFault}
use Rattle.ra_hub.specs.declared.fault.HubFault.TheVariants as faults

abbrev pub of_admission : AdmitFault → HubFault
of_admission (admission.Refused reason) = faults.Refused reason
of_admission admission.KeepFault = faults.KeepFault
of_admission admission.NoMemory = faults.NoMemory

abbrev pub of_session : SessionFault → HubFault
of_session fault = faults.Session fault

-- a request is refused, or its record is not kept, or memory ran out
abbrev pub IsOfAdmission : HubFault → Type 0
IsOfAdmission (faults.Refused reason) = Unit {0}
IsOfAdmission faults.NoSession = ⊥
IsOfAdmission (faults.Session fault) = ⊥
IsOfAdmission faults.KeepFault = Unit {0}
IsOfAdmission faults.NoMemory = Unit {0}

-- the session of a seat has ended, or has a newer link, or memory ran out
abbrev pub IsOfAttach : HubFault → Type 0
IsOfAttach (faults.Refused reason) = ⊥
IsOfAttach faults.NoSession = ⊥
IsOfAttach (faults.Session fault) = AttachCarries fault
IsOfAttach faults.KeepFault = ⊥
IsOfAttach faults.NoMemory = Unit {0}

-- the session of a seat refuses the turn, for a cause that is true of what it carries, or memory ran out
abbrev pub IsOfTurn : HubFault → Type 0
IsOfTurn (faults.Refused reason) = ⊥
IsOfTurn faults.NoSession = ⊥
IsOfTurn (faults.Session fault) = TurnCarries fault
IsOfTurn faults.KeepFault = ⊥
IsOfTurn faults.NoMemory = Unit {0}

-- a key has no session, or its session refuses the call, or memory ran out
abbrev pub IsOfKey : HubFault → Type 0
IsOfKey (faults.Refused reason) = ⊥
IsOfKey faults.NoSession = Unit {0}
IsOfKey (faults.Session fault) = Unit {0}
IsOfKey faults.KeepFault = ⊥
IsOfKey faults.NoMemory = Unit {0}

-- memory ran out in the session
abbrev pub is_no_memory : SessionFault → Bool
is_no_memory (session.Ended cause) = false
is_no_memory (session.Stale current) = false
is_no_memory session.NoLink = false
is_no_memory (session.TooLong stated) = false
is_no_memory (session.BadIpc fault message) = false
is_no_memory (session.TooLarge len) = false
is_no_memory session.IdsSpent = false
is_no_memory (session.NoSuchCall id) = false
is_no_memory session.WrongKind = false
is_no_memory session.NoMemory = true

-- memory ran out, in the hub or in the session
abbrev pub is_short : HubFault → Bool
is_short (faults.Refused reason) = false
is_short faults.NoSession = false
is_short (faults.Session fault) = is_no_memory fault
is_short faults.KeepFault = false
is_short faults.NoMemory = true
