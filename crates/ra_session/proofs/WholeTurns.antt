-- A whole turn, from the bytes that come to what is answered.
use Rattle.std.proofs.Common.{◌≡◌, ℕ, true, Option, None, List, ap, sym, subst}
use Rattle.std.proofs.lemmas.Bool.{false≢true}
use Rattle.std.specs.Prelude.{Err}
use Rattle.ra_model.specs.Refusals.{or_fault, feed_fault}
use Rattle.ra_model.specs.EndpointStates.{EndpointState}
use Rattle.ra_model.specs.Calls.{feed}
use Rattle.ra_session.specs.SessionCalls.{feed_session}
use Rattle.ra_session.specs.declared.values.SessionFault.{SessionFault}
use Rattle.ra_session.specs.declared.values.SessionFault.TheVariants as faults
use Rattle.ra_session.specs.Turns.{take_turn, turn, TurnAnswer, turn_answer, taken_answer}
use Rattle.ra_session.specs.SessionRefusals.{Refusal, feed_refusal, IsRefusal}
use Rattle.ra_session.specs.TurnRefusals.{turn_refusal, TurnLeaves, is_bad_ipc, taken_refusal}
use Rattle.ra_session.specs.SessionStates.{SessionState, OfEachSession, SessionBecomes}
use Rattle.ra_session.specs.declared.values.Turn.{Turn}
use Rattle.ra_session.proofs.Standing.{Becomes, fed}
use Rattle.ra_session.proofs.Refusing.{feed_admits}

pub made_there : (fault : SessionFault) (made same : Type 0) → is_bad_ipc fault ≡ true → TurnLeaves {X = Turn} (Err fault) made same → made
made_there (faults.BadIpc fault message) made same is h = h
made_there (faults.Ended cause) made same is h = absurd (false≢true is)
made_there (faults.Stale current) made same is h = absurd (false≢true is)
made_there faults.NoLink made same is h = absurd (false≢true is)
made_there (faults.TooLong n) made same is h = absurd (false≢true is)
made_there (faults.TooLarge len) made same is h = absurd (false≢true is)
made_there faults.IdsSpent made same is h = absurd (false≢true is)
made_there (faults.NoSuchCall id) made same is h = absurd (false≢true is)
made_there faults.WrongKind made same is h = absurd (false≢true is)
made_there faults.NoMemory made same is h = absurd (false≢true is)

pub leaves_made : (fault : SessionFault) (made same : Type 0) → is_bad_ipc fault ≡ true → made → TurnLeaves {X = Turn} (Err fault) made same
leaves_made (faults.BadIpc fault message) made same is h = h
leaves_made (faults.Ended cause) made same is h = absurd (false≢true is)
leaves_made (faults.Stale current) made same is h = absurd (false≢true is)
leaves_made faults.NoLink made same is h = absurd (false≢true is)
leaves_made (faults.TooLong n) made same is h = absurd (false≢true is)
leaves_made (faults.TooLarge len) made same is h = absurd (false≢true is)
leaves_made faults.IdsSpent made same is h = absurd (false≢true is)
leaves_made (faults.NoSuchCall id) made same is h = absurd (false≢true is)
leaves_made faults.WrongKind made same is h = absurd (false≢true is)
leaves_made faults.NoMemory made same is h = absurd (false≢true is)

-- bytes come, and then a frame is applied
pub turn_to : (h h' : SessionState) (x : EndpointState) (epoch : ℕ) (piece : List ℕ) (now : ℕ) → Becomes h.endpoint x (feed epoch piece now)
    → SessionBecomes (record h { endpoint = x }) h' (take_turn now) → SessionBecomes h h' (turn epoch piece now)
unfolding turn
turn_to h h' x epoch piece now feeds takes s stands = takes (feed_session epoch piece now s) (fed h x epoch piece now feeds s stands)

pub turn_answers : (h : SessionState) (x : EndpointState) (epoch : ℕ) (piece : List ℕ) (now : ℕ) (a : TurnAnswer) → Becomes h.endpoint x (feed epoch piece now)
    → OfEachSession (record h { endpoint = x }) (λ s. a ≡ taken_answer now s) → OfEachSession h (λ s. a ≡ turn_answer epoch piece now s)
unfolding turn_answer
turn_answers h x epoch piece now a feeds takes s stands = takes (feed_session epoch piece now s) (fed h x epoch piece now feeds s stands)

turn_judged : (h : SessionState) (x : EndpointState) (epoch : ℕ) (piece : List ℕ) (now : ℕ) (P : Option Refusal → Type 0) → h.cause ≡ None
    → Becomes h.endpoint x (feed epoch piece now) → feed_fault h.endpoint.phase h.endpoint.epoch epoch ≡ None
    → OfEachSession (record h { endpoint = x }) (λ s. P (taken_refusal now s)) → OfEachSession h (λ s. P (turn_refusal epoch piece now s))
unfolding turn_refusal
turn_judged h x epoch piece now P none feeds admits takes s stands =
    subst (λ (r : Option Refusal). P (or_fault r (taken_refusal now (feed_session epoch piece now s)))) (sym (feed_admits h epoch none admits s stands))
    (takes (feed_session epoch piece now s) (fed h x epoch piece now feeds s stands))

pub turn_refuses : (h : SessionState) (x : EndpointState) (epoch : ℕ) (piece : List ℕ) (now : ℕ) (fault : SessionFault) → h.cause ≡ None
    → Becomes h.endpoint x (feed epoch piece now) → feed_fault h.endpoint.phase h.endpoint.epoch epoch ≡ None
    → OfEachSession (record h { endpoint = x }) (λ s. IsRefusal fault (taken_refusal now s)) → OfEachSession h (λ s. IsRefusal fault (turn_refusal epoch piece now s))
turn_refuses h x epoch piece now fault none feeds admits takes = turn_judged h x epoch piece now (λ r. IsRefusal fault r) none feeds admits takes

pub turn_admits : (h : SessionState) (x : EndpointState) (epoch : ℕ) (piece : List ℕ) (now : ℕ) → h.cause ≡ None
    → Becomes h.endpoint x (feed epoch piece now) → feed_fault h.endpoint.phase h.endpoint.epoch epoch ≡ None
    → OfEachSession (record h { endpoint = x }) (λ s. taken_refusal now s ≡ None) → OfEachSession h (λ s. turn_refusal epoch piece now s ≡ None)
turn_admits h x epoch piece now none feeds admits takes = turn_judged h x epoch piece now (λ r. r ≡ None) none feeds admits takes

pub refused_first : (fault : SessionFault) (r next : Option Refusal) → IsRefusal fault r → IsRefusal fault (or_fault r next)
refused_first (faults.BadIpc fault message) r next is = ap (λ (x : Option Refusal). or_fault x next) is
refused_first (faults.Ended cause) r next is = ap (λ (x : Option Refusal). or_fault x next) is
refused_first (faults.Stale current) r next is = ap (λ (x : Option Refusal). or_fault x next) is
refused_first faults.NoLink r next is = ap (λ (x : Option Refusal). or_fault x next) is
refused_first (faults.TooLong n) r next is = ap (λ (x : Option Refusal). or_fault x next) is
refused_first (faults.TooLarge len) r next is = ap (λ (x : Option Refusal). or_fault x next) is
refused_first faults.IdsSpent r next is = ap (λ (x : Option Refusal). or_fault x next) is
refused_first (faults.NoSuchCall id) r next is = ap (λ (x : Option Refusal). or_fault x next) is
refused_first faults.WrongKind r next is = ap (λ (x : Option Refusal). or_fault x next) is
refused_first faults.NoMemory r next is = tt

-- the turn is refused as feeding is
pub turn_unfed : (h : SessionState) (epoch : ℕ) (piece : List ℕ) (now : ℕ) (fault : SessionFault)
    → OfEachSession h (λ s. IsRefusal fault (feed_refusal epoch s)) → OfEachSession h (λ s. IsRefusal fault (turn_refusal epoch piece now s))
unfolding turn_refusal
turn_unfed h epoch piece now fault is s stands = refused_first fault (feed_refusal epoch s) (taken_refusal now (feed_session epoch piece now s)) (is s stands)
