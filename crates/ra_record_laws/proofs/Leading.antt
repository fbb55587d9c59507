-- A call that leads to some hub of which a fact holds leads to that very hub.
use Rattle.std.proofs.Common.{◌≡◌, ℕ, List, Option, Some, None, Result, Ok, Err, refl}
use Rattle.ra_base.specs.declared.handshake.Request.{Request}
use Rattle.ra_base.specs.declared.key.Cause.{Cause}
use Rattle.ra_base.specs.declared.key.Key.{Key}
use Rattle.ra_base.specs.declared.key.Seat.{Seat}
use Rattle.ra_registry.specs.declared.row.Row.{Row}
use Rattle.ra_session.specs.declared.values.SessionFault.{SessionFault}
use Rattle.ra_session.specs.declared.values.Tell.{Tell}
use Rattle.ra_session.specs.declared.values.Turn.{Turn}
use Rattle.ra_session.specs.SessionRefusals.{Refusal}
use Rattle.ra_session.specs.Sessions.{Session}
use Rattle.ra_hub.specs.declared.fault.HubFault.{HubFault}
use Rattle.ra_hub.specs.declared.fault.HubFault.TheVariants as faults
use Rattle.ra_hub.specs.HubCalls.{Admits, Answers, Attaches, Turns, Misses, TellsAt, Tells, Loses, Closes}
use Rattle.ra_hub.specs.Hubs.{Hub, row, admitted, refused, missed, seat_lost, seat_closed}

module _ (P : Hub → Type 0) where
  abbrev To : ((Hub → Type 0) → Type 0) → Type 0
  To Call = (k : Hub) × P k × Call (λ h. h ≡ k)

  pub admits_to : (h : Hub) (ask : Request) (now : ℕ) (result : Result Seat HubFault) → Admits h ask now result P → To (Admits h ask now result)
  admits_to h ask now (Ok seat) a = (admitted ask now h, a.2, (a.0, a.1, refl))
  admits_to h ask now (Err (faults.Refused reason)) a = (refused ask now reason h, a.1, (a.0, refl))
  admits_to h ask now (Err faults.NoSession) a = absurd a
  admits_to h ask now (Err (faults.Session fault)) a = absurd a
  admits_to h ask now (Err faults.KeepFault) a = (h, a, refl)
  admits_to h ask now (Err faults.NoMemory) a = (h, a, refl)

  answers_to : {X : Type 0} (refusal : Option Refusal) (Gives : X → Type 0) (made : Hub) (left : SessionFault → Hub) (same : Hub) (result : Result X HubFault)
      → Answers refusal Gives made left same result P → To (Answers refusal Gives made left same result)
  answers_to refusal Gives made left same (Ok x) a = (made, a.2, (a.0, a.1, refl))
  answers_to refusal Gives made left same (Err (faults.Session fault)) a = (left fault, a.1, (a.0, refl))
  answers_to refusal Gives made left same (Err faults.NoMemory) a = (same, a, refl)
  answers_to refusal Gives made left same (Err (faults.Refused reason)) a = absurd a
  answers_to refusal Gives made left same (Err faults.NoSession) a = absurd a
  answers_to refusal Gives made left same (Err faults.KeepFault) a = absurd a

  pub attaches_to : {X : Type 0} (h : Hub) (seat : Seat) (chunk : List ℕ) (now : ℕ) (result : Result X HubFault) → Attaches h seat chunk now result P → To (Attaches h seat chunk now result)
  attaches_to h seat chunk now result a = let r = answers_to _ _ _ _ _ result a.2 in (r.0, r.1, (a.0, a.1, r.2))

  pub turns_to : (h : Hub) (seat : Seat) (piece : List ℕ) (now : ℕ) (result : Result Turn HubFault) → Turns h seat piece now result P → To (Turns h seat piece now result)
  turns_to h seat piece now result a = let r = answers_to _ _ _ _ _ result a.2 in (r.0, r.1, (a.0, a.1, r.2))

  misses_to : {X : Type 0} (h : Hub) (key : Key) (now : ℕ) (result : Result X HubFault) → Misses h key now result P → To (Misses h key now result)
  misses_to h key now (Err faults.NoSession) a = (missed key now h, a, refl)
  misses_to h key now (Err faults.NoMemory) a = (h, a, refl)
  misses_to h key now (Err (faults.Refused reason)) a = absurd a
  misses_to h key now (Err (faults.Session fault)) a = absurd a
  misses_to h key now (Err faults.KeepFault) a = absurd a
  misses_to h key now (Ok x) a = absurd a

  tells_at_to : {X : Type 0} (h : Hub) (key : Key) (word : Tell) (now : ℕ) (found : Option Row) (session : Option Session) (result : Result X HubFault)
      → TellsAt h key word now found session result P → To (TellsAt h key word now found session result)
  tells_at_to h key word now None session result a = misses_to h key now result a
  tells_at_to h key word now (Some x) None result a = answers_to _ _ _ _ _ result a
  tells_at_to h key word now (Some x) (Some s) result a = answers_to _ _ _ _ _ result a

  pub tells_to : {X : Type 0} (h : Hub) (key : Key) (word : Tell) (now : ℕ) (result : Result X HubFault) → Tells h key word now result P → To (Tells h key word now result)
  tells_to h key word now result a = tells_at_to h key word now (row h key) (h.session key) result a

  pub loses_to : (h : Hub) (seat : Seat) (now : ℕ) → Loses h seat now P → To (Loses h seat now)
  loses_to h seat now a = (seat_lost seat now a.0 h, a.2, (a.0, a.1, refl))

  pub closes_to : (h : Hub) (seat : Seat) (cause : Cause) (now : ℕ) → Closes h seat cause now P → To (Closes h seat cause now)
  closes_to h seat cause now a = (seat_closed seat cause now a.0 h, a.2, (a.0, a.1, refl))
