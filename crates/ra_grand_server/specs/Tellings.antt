-- How a contract sees what a session is told for a job, and what comes of it at a hub.
use Rattle.std.specs.Prelude.{◌≡◌, ℕ, Bool, true, false, Option, Some, None, option_map, Result, Ok, Err}
use Rattle.ra_base.specs.declared.key.Key.{Key}
use Rattle.ra_ipc.specs.View.{id_of, reply}
use Rattle.ra_registry.specs.declared.row.Row.{Row}
use Rattle.ra_session.specs.View.{firing_of, TellFits}
use Rattle.ra_session.specs.declared.values.SessionFault.{SessionFault}
use Rattle.ra_session.specs.declared.values.SessionFault.TheVariants as session_faults
use Rattle.ra_session.specs.declared.values.Tell.{Tell}
use Rattle.ra_session.specs.declared.values.Tell.TheVariants as tells
use Rattle.ra_session.specs.Sessions.{Session}
use Rattle.ra_hub.specs.Hubs.{Hub, at_key, row}
use Rattle.ra_hub.specs.HubCalls.{Answers, GivesNothing, Misses, Stops}
use Rattle.ra_hub.specs.declared.fault.HubFault.{HubFault}
use Rattle.ra_hub.specs.declared.fault.HubFault.TheVariants as faults
use Rattle.ra_grand_runs.specs.Works.{Telling, answers, speaks, told, telling_refusal, large_answer, sayable}

abbrev pub telling_of : Tell → Telling
telling_of (tells.Answer id given fire) = answers (id_of id) (reply given) (option_map firing_of fire)
telling_of (tells.Say body) = speaks body

-- what is told in place of an answer that is too large, where there is another
abbrev pub IsReplacement : Option Tell → Telling → Type 0
IsReplacement None t = large_answer t ≡ t
IsReplacement (Some tell) t = telling_of tell ≡ large_answer t

abbrev pub ReplacementFits : Option Tell → Type 0
ReplacementFits None = Unit {0}
ReplacementFits (Some tell) = TellFits tell

-- what comes of a telling: the key has no row, its session stopped before the start, or its session is told
abbrev pub ToldIn : {X : Type 0} → Hub → Key → Telling → ℕ → Option Row → Option Session → Result X HubFault → (Hub → Type 0) → Type 0
ToldIn h key t now None session result After = Misses h key now result After
ToldIn h key t now (Some row) None result After = Stops h result After
ToldIn h key t now (Some row) (Some s) result After =
    Answers (telling_refusal (sayable t s) s) GivesNothing (at_key key (told (sayable t s) now s) h) (λ fault. h) h result After

abbrev pub ToldAt : {X : Type 0} → Hub → Key → Telling → ℕ → Result X HubFault → (Hub → Type 0) → Type 0
ToldAt h key t now result After = ToldIn h key t now (row h key) (h.session key) result After

-- it is told again where it was too large
abbrev pub is_too_large : HubFault → Bool
is_too_large (faults.Session (session_faults.TooLarge len)) = true
is_too_large (faults.Session (session_faults.Ended cause)) = false
is_too_large (faults.Session (session_faults.Stale current)) = false
is_too_large (faults.Session session_faults.NoLink) = false
is_too_large (faults.Session (session_faults.TooLong n)) = false
is_too_large (faults.Session (session_faults.BadIpc fault message)) = false
is_too_large (faults.Session session_faults.IdsSpent) = false
is_too_large (faults.Session (session_faults.NoSuchCall id)) = false
is_too_large (faults.Session session_faults.WrongKind) = false
is_too_large (faults.Session session_faults.NoMemory) = false
is_too_large (faults.Refused reason) = false
is_too_large faults.NoSession = false
is_too_large faults.KeepFault = false
is_too_large faults.NoMemory = false

-- A job is done where its session has ended or is not there. What no telling answers counts as want of memory.
abbrev pub settled_by : SessionFault → Result (Unit {0}) SessionFault
settled_by (session_faults.Ended cause) = Ok tt
settled_by (session_faults.Stale current) = Err (session_faults.Stale current)
settled_by session_faults.NoLink = Err session_faults.NoLink
settled_by (session_faults.TooLong n) = Err (session_faults.TooLong n)
settled_by (session_faults.BadIpc fault message) = Err (session_faults.BadIpc fault message)
settled_by (session_faults.TooLarge len) = Err (session_faults.TooLarge len)
settled_by session_faults.IdsSpent = Err session_faults.IdsSpent
settled_by (session_faults.NoSuchCall id) = Err (session_faults.NoSuchCall id)
settled_by session_faults.WrongKind = Err session_faults.WrongKind
settled_by session_faults.NoMemory = Err session_faults.NoMemory

abbrev pub settled : Result (Unit {0}) HubFault → Result (Unit {0}) SessionFault
settled (Ok u) = Ok u
settled (Err (faults.Session fault)) = settled_by fault
settled (Err faults.NoSession) = Ok tt
settled (Err faults.NoMemory) = Err session_faults.NoMemory
settled (Err (faults.Refused reason)) = Err session_faults.NoMemory
settled (Err faults.KeepFault) = Err session_faults.NoMemory
