-- What a moment that passes tells of a session, and what it makes of an endpoint in memory.
use Rattle.std.specs.Prelude.{◌≡◌, ◌≢◌, ℕ, List, Bool, false, Some, None, if◌then◌else◌}
use Rattle.std.specs.Option.{is_some}
use Rattle.ra_model.specs.declared.fault.EndFault.{EndFault}
use Rattle.ra_model.specs.declared.fault.EndFault.TheVariants.{NoMemory}
use Rattle.ra_model.specs.Calls.{tick, times_out}
use Rattle.ra_model.specs.Endpoints.{Endpoint}
use Rattle.ra_model.specs.EndpointStates.{EndpointState, StandsFor}
use Rattle.ra_proto.specs.SayAll.{say_all, say_all_fault}
use Rattle.ra_session.specs.Sessions.{Session}
use Rattle.ra_session.specs.SessionRefusals.{tick_refusal}
use Rattle.ra_session.specs.SessionStates.{SessionState, OfEachSession}

-- whether this tick of the session tells that its peer is silent
abbrev pub timeout_of : ℕ → Session → Bool
timeout_of now s = if is_some s.cause then false else times_out now s.peer.endpoint

-- the session has not ended, and ids are left for the answers to the calls that waited too long
abbrev pub AdmitsTick : ℕ → SessionState → Type 0
AdmitsTick now h = (h.cause ≡ None) × OfEachSession h (λ s. tick_refusal now s ≡ None)

-- the endpoint after its tick
abbrev pub TicksTo : EndpointState → EndpointState → ℕ → Type 0
TicksTo old new now = (e : Endpoint) → StandsFor old e → StandsFor new (tick now e)

-- the endpoint after its tick, and then these bodies, which may be said
pub record IsTicked (old new : EndpointState) (bodies : List (List ℕ)) (now : ℕ) : Type 0 where
  pub between : EndpointState
  pub ticks : TicksTo old between now
  pub says : (e : Endpoint) → StandsFor between e → StandsFor new (say_all bodies now e)
  pub admitted : say_all_fault between.phase between.sent bodies ≡ None

-- after the tick these bodies may not be said, or memory ran out
abbrev pub TickRefused : EndFault → EndpointState → List (List ℕ) → ℕ → Type 0
TickRefused fault old bodies now = fault ≢ NoMemory → (x : EndpointState) × TicksTo old x now × (say_all_fault x.phase x.sent bodies ≡ Some fault)
