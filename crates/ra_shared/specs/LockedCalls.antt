-- Calls of a session under its lock. What the session was like before and after one nobody but the caller can say: there are two states,
-- and the session's own call takes the one to the other.
use Rattle.std.specs.Prelude.{◌≡◌, ℕ, List, Bool, Result, OnOk, OnErr, IfOk, IfErr}
use Rattle.ra_model.specs.EndpointStates.{IsConsistent}
use Rattle.ra_hub.specs.Standing.{Ticked}
use Rattle.ra_hub.specs.declared.entry.SessionEntry.TheVariants.{Going}
use Rattle.ra_session.specs.Carried.{SayCarries}
use Rattle.ra_session.specs.SessionCalls.{attach}
use Rattle.ra_session.specs.SessionRefusals.{Refuses, attach_refusal}
use Rattle.ra_session.specs.SessionStates.{SessionState, StandsForSome, OfEachSession, SessionBecomes}
use Rattle.ra_session.specs.TurnRefusals.{TurnLeaves, turn_refusal}
use Rattle.ra_session.specs.Turns.{turn, turn_answer}
use Rattle.ra_session.specs.View.{told, tell_refusal, bodies_told, is_asked, turn_of}
use Rattle.ra_session.specs.declared.values.SessionFault.{SessionFault}
use Rattle.ra_session.specs.declared.values.Tell.{Tell}
use Rattle.ra_session.specs.declared.values.Turn.{Turn}
use Rattle.ra_shared.specs.declared.answers.LastState.{LastState}

pub record Attached (epoch : ℕ) (chunk : List ℕ) (now : ℕ) (result : Result (Unit {0}) SessionFault) (x y : SessionState) : Type 0 where
  pub stands : OnOk result (SessionBecomes x y (attach epoch chunk now))
  pub refused : OfEachSession x (λ s. Refuses result (attach_refusal epoch s))
  pub same : OnErr result (y ≡ x)

pub record Turned (epoch : ℕ) (piece : List ℕ) (now : ℕ) (result : Result Turn SessionFault) (x y : SessionState) : Type 0 where
  pub leaves : TurnLeaves result (SessionBecomes x y (turn epoch piece now)) (y ≡ x)
  pub answered : IfOk result (λ t. OfEachSession x (λ s. turn_of t ≡ turn_answer epoch piece now s))
  pub refused : OfEachSession x (λ s. Refuses result (turn_refusal epoch piece now s))

pub record WasTold (tell : Tell) (now : ℕ) (result : Result (Unit {0}) SessionFault) (x y : SessionState) : Type 0 where
  pub stands : OnOk result (SessionBecomes x y (told tell now))
  pub refused : OfEachSession x (λ s. Refuses result (tell_refusal tell s))
  pub carries : IfErr result (SayCarries (is_asked tell x.kind) (bodies_told tell x.server))
  pub same : OnErr result (y ≡ x)

abbrev pub AttachesSome : ℕ → List ℕ → ℕ → Result (Unit {0}) SessionFault → Type 0
AttachesSome epoch chunk now result = (x : SessionState) × (y : SessionState) × Attached epoch chunk now result x y

abbrev pub TurnsSome : ℕ → List ℕ → ℕ → Result Turn SessionFault → Type 0
TurnsSome epoch piece now result = (x : SessionState) × (y : SessionState) × Turned epoch piece now result x y

abbrev pub TellsSome : Tell → ℕ → Result (Unit {0}) SessionFault → Type 0
TellsSome tell now result = (x : SessionState) × (y : SessionState) × WasTold tell now result x y

abbrev pub TicksSome : ℕ → Bool → Type 0
TicksSome now ticked = (x : SessionState) × (y : SessionState) × Ticked now ticked (Going x) (Going y)

-- the state of some session, whose queue has the ids from the last acknowledged one to the last given one
abbrev pub IsStateOfSome : LastState → Type 0
IsStateOfSome last =
    (x : SessionState) × StandsForSome x × IsConsistent x.endpoint
    × (last ≡ record {
      epoch = x.endpoint.epoch;
      marks = record { sent = x.endpoint.sent; received = x.endpoint.received; acknowledged = x.endpoint.acknowledged };
      cause = x.cause;
    })
