-- What the calls of a hub answer, and the hub after each. That hub is told by a predicate, since a hub need not tell.
use Rattle.std.specs.Prelude.{◌≡◌, ℕ, List, Option, Some, None, Result, Ok, Err, if◌then◌else◌}
use Rattle.ra_base.specs.declared.handshake.Request.{Request}
use Rattle.ra_base.specs.declared.key.Cause.{Cause}
use Rattle.ra_base.specs.declared.key.Cause.TheVariants.{Stopped}
use Rattle.ra_base.specs.declared.key.Key.{Key}
use Rattle.ra_base.specs.declared.key.Seat.{Seat}
use Rattle.ra_registry.specs.declared.row.Row.{Row}
use Rattle.ra_registry.specs.Admission.{admission_refusal, seat_for}
use Rattle.ra_session.specs.declared.values.SessionFault.{SessionFault}
use Rattle.ra_session.specs.declared.values.Tell.{Tell}
use Rattle.ra_session.specs.declared.values.Turn.{Turn}
use Rattle.ra_session.specs.SessionCalls.{attach}
use Rattle.ra_session.specs.SessionRefusals.{Refusal, ended, IsRefusal, attach_refusal}
use Rattle.ra_session.specs.Sessions.{Session}
use Rattle.ra_session.specs.TurnRefusals.{turn_refusal, is_bad_ipc}
use Rattle.ra_session.specs.Turns.{turn, turn_answer}
use Rattle.ra_session.specs.View.{turn_of, told, tell_refusal}
use Rattle.ra_hub.specs.Hubs.{Hub, row, at_key, admitted, refused, missed, seat_lost, seat_closed}
use Rattle.ra_hub.specs.declared.fault.HubFault.{HubFault}
use Rattle.ra_hub.specs.declared.fault.HubFault.TheVariants as faults

-- ---- requests

abbrev pub Admits : Hub → Request → ℕ → Result Seat HubFault → (Hub → Type 0) → Type 0
Admits h ask now (Ok seat) After = (admission_refusal h.registry ask now ≡ None) × (seat ≡ seat_for h.registry ask) × After (admitted ask now h)
Admits h ask now (Err (faults.Refused reason)) After =
    (admission_refusal h.registry ask now ≡ Some reason) × After (refused ask now reason h)
Admits h ask now (Err faults.NoSession) After = ⊥
Admits h ask now (Err (faults.Session fault)) After = ⊥
Admits h ask now (Err faults.KeepFault) After = After h
Admits h ask now (Err faults.NoMemory) After = After h

-- ---- calls of one session

-- It is refused exactly where its session refuses it, or memory ran out; else the hub is `made`. A fault leaves what `left` says.
abbrev pub Answers : {X : Type 0} → Option Refusal → (X → Type 0) → (made : Hub) → (left : SessionFault → Hub) → (same : Hub) → Result X HubFault
    → (Hub → Type 0) → Type 0
Answers refusal Gives made left same (Ok x) After = (refusal ≡ None) × Gives x × After made
Answers refusal Gives made left same (Err (faults.Session fault)) After = IsRefusal fault refusal × After (left fault)
Answers refusal Gives made left same (Err faults.NoMemory) After = After same
Answers refusal Gives made left same (Err (faults.Refused reason)) After = ⊥
Answers refusal Gives made left same (Err faults.NoSession) After = ⊥
Answers refusal Gives made left same (Err faults.KeepFault) After = ⊥

abbrev pub GivesNothing : {X : Type 0} → X → Type 0
GivesNothing x = Unit {0}

-- the session of this key is there
abbrev pub WithSession : Hub → Key → (Session → Type 0) → Type 0
WithSession h key P = (s : Session) × (h.session key ≡ Some s) × P s

abbrev pub Attaches : {X : Type 0} → Hub → Seat → List ℕ → ℕ → Result X HubFault → (Hub → Type 0) → Type 0
Attaches h seat chunk now result After =
    WithSession h seat.key (λ s. Answers (attach_refusal seat.epoch s) GivesNothing (at_key seat.key (attach seat.epoch chunk now s) h) (λ fault. h) h result After)

-- a bad message is heard, and ends its session
abbrev pub after_fault : (made same : Hub) → SessionFault → Hub
after_fault made same fault = if is_bad_ipc fault then made else same

abbrev pub Turns : Hub → Seat → List ℕ → ℕ → Result Turn HubFault → (Hub → Type 0) → Type 0
Turns h seat piece now result After =
    WithSession h seat.key (λ s.
    let made = at_key seat.key (turn seat.epoch piece now s) h in
    Answers (turn_refusal seat.epoch piece now s) (λ t. turn_of t ≡ turn_answer seat.epoch piece now s) made (after_fault made h) h result After)

-- ---- what an application tells

-- no row has the key, which is entered
abbrev pub Misses : {X : Type 0} → Hub → Key → ℕ → Result X HubFault → (Hub → Type 0) → Type 0
Misses h key now (Err faults.NoSession) After = After (missed key now h)
Misses h key now (Err faults.NoMemory) After = After h
Misses h key now (Err (faults.Refused reason)) After = ⊥
Misses h key now (Err (faults.Session fault)) After = ⊥
Misses h key now (Err faults.KeepFault) After = ⊥
Misses h key now (Ok x) After = ⊥

-- the row is that of a start record: its session has stopped
abbrev pub Stops : {X : Type 0} → Hub → Result X HubFault → (Hub → Type 0) → Type 0
Stops h result After = Answers (Some (ended Stopped)) GivesNothing h (λ fault. h) h result After

abbrev pub TellsAt : {X : Type 0} → Hub → Key → Tell → ℕ → Option Row → Option Session → Result X HubFault → (Hub → Type 0) → Type 0
TellsAt h key tell now None session result After = Misses h key now result After
TellsAt h key tell now (Some row) None result After = Stops h result After
TellsAt h key tell now (Some row) (Some s) result After =
    Answers (tell_refusal tell s) GivesNothing (at_key key (told tell now s) h) (λ fault. h) h result After

abbrev pub Tells : {X : Type 0} → Hub → Key → Tell → ℕ → Result X HubFault → (Hub → Type 0) → Type 0
Tells h key tell now result After = TellsAt h key tell now (row h key) (h.session key) result After

-- ---- ends of seats

abbrev pub Loses : Hub → Seat → ℕ → (Hub → Type 0) → Type 0
Loses h seat now After = WithSession h seat.key (λ s. After (seat_lost seat now s h))

abbrev pub Closes : Hub → Seat → Cause → ℕ → (Hub → Type 0) → Type 0
Closes h seat cause now After = WithSession h seat.key (λ s. After (seat_closed seat cause now s h))
