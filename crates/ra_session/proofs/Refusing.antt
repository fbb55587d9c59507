-- Refusals of a session, from its end and from faults of its endpoint.
use Rattle.std.proofs.Common.{◌≡◌, ◌≢◌, ℕ, Bool, true, false, Option, Some, None, List, [], ◌∷◌, refl, ap, sym, ◌∙◌, subst, not, eqb, leb, ltb, suc, ◌-◌, ◌≤◌, length, map, arith, inl, inr}
use Rattle.std.specs.List.{AllByRecursion}
use Rattle.std.proofs.lemmas.Bool.{cases_Bool}
use Rattle.std.proofs.lemmas.Bool.Decides.{nat_tests}
use Rattle.ra_model.specs.Frames.{body_limit, last_id}
use Rattle.ra_proto.specs.SayAll.{say_all_fault, first_large}
use Rattle.ra_ipc.specs.Packets.{message_bytes}
use Rattle.std.specs.Prelude.{option_map}
use Rattle.ra_base.specs.declared.key.Cause.{Cause}
use Rattle.ra_base.specs.declared.key.Cause.TheVariants.{Disconnected}
use Rattle.ra_model.specs.declared.fault.EndFault.{EndFault}
use Rattle.ra_model.specs.declared.fault.EndFault.TheVariants.{Ended, Stale, NoLink, NotJoining, TooLarge, IdsSpent, TooLong, NoMemory}
use Rattle.ra_model.specs.declared.session.Phase.{Phase}
use Rattle.ra_model.specs.Endpoints.{Endpoint, is_ended, is_linked}
use Rattle.ra_model.specs.EndpointStates.{EndpointState, StandsFor}
use Rattle.ra_model.specs.Refusals.{or_fault, fault_if, begin_fault, feed_fault}
use Rattle.ra_model.specs.Worlds.{Peer}
use Rattle.ra_ipc.specs.Messages.{Message}
use Rattle.ra_ipc.specs.ChannelPairs.{Entry}
use Rattle.ra_session.specs.Faults.{fault_of}
use Rattle.ra_session.specs.Sessions.{Session}
use Rattle.ra_session.specs.SessionRefusals.{Refusal, ended, stale, no_link, too_long, too_large, ids_spent, if_ended, if_unlinked, if_large as large, IsRefusal, IsEnd, attach_refusal, feed_refusal}
use Rattle.ra_session.specs.declared.values.SessionFault.{SessionFault}
use Rattle.ra_session.specs.declared.values.SessionFault.TheVariants as faults
use Rattle.ra_session.specs.SessionStates.{SessionState, with_past, Sayable, StandsForSession, OfEachSession}
use Rattle.ra_session.proofs.Standing.{of_sessions, phase_is}

-- ---- a session that has ended, and one that has not

ended_first : (h : SessionState) (cause : Cause) (rest : Session → Option Refusal) → h.cause ≡ Some cause
    → OfEachSession h (λ s. or_fault (if_ended s) (rest s) ≡ Some (ended cause))
ended_first h cause rest is = of_sessions h (λ s. or_fault (if_ended s) (rest s) ≡ Some (ended cause)) (λ p ms es stands.
    ap (λ (c : Option Cause). or_fault (option_map (λ (x : Cause). ended x) c) (rest (with_past p ms es h))) is)

pub refused_ended : (h : SessionState) (fault : SessionFault) (rest : Session → Option Refusal) → IsEnd fault h.cause
    → OfEachSession h (λ s. IsRefusal fault (or_fault (if_ended s) (rest s)))
refused_ended h (faults.Ended cause) rest is = ended_first h cause rest is
refused_ended h (faults.Stale current) rest is = absurd is
refused_ended h faults.NoLink rest is = absurd is
refused_ended h (faults.TooLong stated) rest is = absurd is
refused_ended h (faults.BadIpc fault message) rest is = absurd is
refused_ended h (faults.TooLarge len) rest is = absurd is
refused_ended h faults.IdsSpent rest is = absurd is
refused_ended h (faults.NoSuchCall id) rest is = absurd is
refused_ended h faults.WrongKind rest is = absurd is
refused_ended h faults.NoMemory rest is = absurd is

pub running : (h : SessionState) (P : Option Refusal → Type 0) (rest : Session → Option Refusal) → h.cause ≡ None
    → ((p : Peer) (ms : List Message) (es : List Entry) → StandsForSession h (with_past p ms es h) → P (rest (with_past p ms es h)))
    → OfEachSession h (λ s. P (or_fault (if_ended s) (rest s)))
running h P rest is step = of_sessions h (λ s. P (or_fault (if_ended s) (rest s))) (λ p ms es stands.
    subst (λ (c : Option Cause). P (or_fault (option_map (λ (x : Cause). ended x) c) (rest (with_past p ms es h)))) (sym is) (step p ms es stands))

-- ---- faults of the endpoint

abbrev pub refusal_of : EndFault → Refusal
refusal_of Ended = ended Disconnected
refusal_of (Stale current) = stale current
refusal_of NoLink = no_link
refusal_of NotJoining = no_link
refusal_of (TooLarge len) = too_large len
refusal_of IdsSpent = ids_spent
refusal_of (TooLong n) = too_long n
refusal_of NoMemory = no_link

pub is_refusal : (fault : EndFault) (r : Option Refusal) → (fault ≢ NoMemory → r ≡ Some (refusal_of fault)) → IsRefusal (fault_of fault) r
is_refusal Ended r h = h (λ same. cc)
is_refusal (Stale current) r h = h (λ same. cc)
is_refusal NoLink r h = h (λ same. cc)
is_refusal NotJoining r h = h (λ same. cc)
is_refusal (TooLarge len) r h = h (λ same. cc)
is_refusal IdsSpent r h = h (λ same. cc)
is_refusal (TooLong n) r h = h (λ same. cc)
is_refusal NoMemory r h = tt

pub refuses_end : (fault : EndFault) (cause : Option EndFault) (r : Option Refusal) → r ≡ option_map refusal_of cause
    → (fault ≢ NoMemory → cause ≡ Some fault) → IsRefusal (fault_of fault) r
refuses_end fault cause r is h = is_refusal fault r (λ other. is ∙ ap (λ (x : Option EndFault). option_map refusal_of x) (h other))

pub refuses_none : (cause : Option EndFault) (r : Option Refusal) → r ≡ option_map refusal_of cause → cause ≡ None → r ≡ None
refuses_none cause r is h = is ∙ ap (λ (x : Option EndFault). option_map refusal_of x) h

map_fault : (b : Bool) (fault : EndFault) → fault_if b (refusal_of fault) ≡ option_map refusal_of (fault_if b fault)
map_fault true fault = refl
map_fault false fault = refl

map_or : (a b : Option EndFault) → or_fault (option_map refusal_of a) (option_map refusal_of b) ≡ option_map refusal_of (or_fault a b)
map_or None b = refl
map_or (Some fault) b = refl

-- ---- links

epoch_is : (x : EndpointState) (e : Endpoint) → StandsFor x e → e.epoch ≡ x.epoch
epoch_is x e stands = ap (λ (y : Endpoint). y.epoch) stands.same

begin_is : (phase : Phase) (current epoch : ℕ) → is_ended phase ≡ false
    → fault_if (leb epoch current) (stale current) ≡ option_map refusal_of (begin_fault phase current epoch)
begin_is phase current epoch going = rw going (map_fault (leb epoch current) (Stale current))

feed_is : (phase : Phase) (current epoch : ℕ) → is_ended phase ≡ false
    → or_fault (fault_if (not (eqb epoch current)) (stale current)) (fault_if (not (is_linked phase)) no_link) ≡ option_map refusal_of (feed_fault phase current epoch)
feed_is phase current epoch going =
    rw (going, map_fault (not (eqb epoch current)) (Stale current), map_fault (not (is_linked phase)) NoLink)
    (map_or (fault_if (not (eqb epoch current)) (Stale current)) (fault_if (not (is_linked phase)) NoLink))

pub attach_ended : (h : SessionState) (fault : SessionFault) (epoch : ℕ) → IsEnd fault h.cause → OfEachSession h (λ s. IsRefusal fault (attach_refusal epoch s))
unfolding attach_refusal
attach_ended h fault epoch is = refused_ended h fault (λ s. fault_if (leb epoch s.peer.endpoint.epoch) (stale s.peer.endpoint.epoch)) is

pub attach_running : (h : SessionState) (epoch : ℕ) (P : Option Refusal → Type 0) → h.cause ≡ None
    → ((r : Option Refusal) → r ≡ option_map refusal_of (begin_fault h.endpoint.phase h.endpoint.epoch epoch) → P r)
    → OfEachSession h (λ s. P (attach_refusal epoch s))
unfolding attach_refusal
attach_running h epoch P is leads =
    running h P (λ s. fault_if (leb epoch s.peer.endpoint.epoch) (stale s.peer.endpoint.epoch)) is (λ p ms es stands.
    leads (fault_if (leb epoch p.endpoint.epoch) (stale p.endpoint.epoch))
    (rw (sym (phase_is h.endpoint p.endpoint stands.endpoint), sym (epoch_is h.endpoint p.endpoint stands.endpoint))
    (begin_is p.endpoint.phase p.endpoint.epoch epoch (stands.runs is))))

pub feed_ended : (h : SessionState) (fault : SessionFault) (epoch : ℕ) → IsEnd fault h.cause → OfEachSession h (λ s. IsRefusal fault (feed_refusal epoch s))
unfolding feed_refusal
feed_ended h fault epoch is =
    refused_ended h fault (λ s. or_fault (fault_if (not (eqb epoch s.peer.endpoint.epoch)) (stale s.peer.endpoint.epoch)) (if_unlinked s.peer.endpoint)) is

pub feed_running : (h : SessionState) (epoch : ℕ) (P : Option Refusal → Type 0) → h.cause ≡ None
    → ((r : Option Refusal) → r ≡ option_map refusal_of (feed_fault h.endpoint.phase h.endpoint.epoch epoch) → P r)
    → OfEachSession h (λ s. P (feed_refusal epoch s))
unfolding feed_refusal
feed_running h epoch P is leads =
    running h P (λ s. or_fault (fault_if (not (eqb epoch s.peer.endpoint.epoch)) (stale s.peer.endpoint.epoch)) (if_unlinked s.peer.endpoint)) is (λ p ms es stands.
    leads (or_fault (fault_if (not (eqb epoch p.endpoint.epoch)) (stale p.endpoint.epoch)) (if_unlinked p.endpoint))
    (rw (sym (phase_is h.endpoint p.endpoint stands.endpoint), sym (epoch_is h.endpoint p.endpoint stands.endpoint))
    (feed_is p.endpoint.phase p.endpoint.epoch epoch (stands.runs is))))

pub attach_refuses : (h : SessionState) (epoch : ℕ) (fault : EndFault) → h.cause ≡ None
    → (fault ≢ NoMemory → begin_fault h.endpoint.phase h.endpoint.epoch epoch ≡ Some fault)
    → OfEachSession h (λ s. IsRefusal (fault_of fault) (attach_refusal epoch s))
attach_refuses h epoch fault is by = attach_running h epoch (λ r. IsRefusal (fault_of fault) r) is (λ r same. refuses_end fault _ r same by)

pub attach_admits : (h : SessionState) (epoch : ℕ) → h.cause ≡ None → begin_fault h.endpoint.phase h.endpoint.epoch epoch ≡ None
    → OfEachSession h (λ s. attach_refusal epoch s ≡ None)
attach_admits h epoch is by = attach_running h epoch (λ r. r ≡ None) is (λ r same. refuses_none _ r same by)

pub feed_refuses : (h : SessionState) (epoch : ℕ) (fault : EndFault) → h.cause ≡ None
    → (fault ≢ NoMemory → feed_fault h.endpoint.phase h.endpoint.epoch epoch ≡ Some fault)
    → OfEachSession h (λ s. IsRefusal (fault_of fault) (feed_refusal epoch s))
feed_refuses h epoch fault is by = feed_running h epoch (λ r. IsRefusal (fault_of fault) r) is (λ r same. refuses_end fault _ r same by)

pub feed_admits : (h : SessionState) (epoch : ℕ) → h.cause ≡ None → feed_fault h.endpoint.phase h.endpoint.epoch epoch ≡ None
    → OfEachSession h (λ s. feed_refusal epoch s ≡ None)
feed_admits h epoch is by = feed_running h epoch (λ r. r ≡ None) is (λ r same. refuses_none _ r same by)

-- ---- what is said

le_not_lt : (m n : ℕ) → m ≤ n → ltb n m ≡ false
le_not_lt m n h = grind (arith, nat_tests)

large_is : (bodies : List (List ℕ)) → large bodies ≡ option_map refusal_of (first_large bodies)
large_is [] = refl
large_is (body ∷ bodies) = elim (cases_Bool (ltb body_limit (length body))) [
  | inl t ↦ rw t refl
  | inr f ↦ rw f (large_is bodies)
]

length_said : (ms : List Message) → length (map message_bytes ms) ≡ length ms
length_said [] = refl
length_said (m ∷ ms) = ap (λ (n : ℕ). suc n) (length_said ms)

-- packets that can't be said, and the fault of saying them
pub unsayable_is : (phase : Phase) (last : ℕ) (ms : List Message) → is_ended phase ≡ false
    → or_fault (large (map message_bytes ms)) (fault_if (ltb (last_id - last) (length ms)) ids_spent)
    ≡ option_map refusal_of (say_all_fault phase last (map message_bytes ms))
unsayable_is phase last ms going =
    rw (going, large_is (map message_bytes ms), length_said ms, map_fault (ltb (last_id - last) (length ms)) IdsSpent)
    (map_or (first_large (map message_bytes ms)) (fault_if (ltb (last_id - last) (length ms)) IdsSpent))

pub none_large : (ms : List Message) → AllByRecursion Sayable ms → large (map message_bytes ms) ≡ None
none_large [] fit = refl
none_large (m ∷ ms) fit = rw (le_not_lt (length (message_bytes m)) body_limit fit.0) (none_large ms fit.1)

pub spent_is : (phase : Phase) (last : ℕ) (ms : List Message) → is_ended phase ≡ false → AllByRecursion Sayable ms
    → fault_if (ltb (last_id - last) (length ms)) ids_spent ≡ option_map refusal_of (say_all_fault phase last (map message_bytes ms))
spent_is phase last ms going fit =
    sym (ap (λ (r : Option Refusal). or_fault r (fault_if (ltb (last_id - last) (length ms)) ids_spent)) (none_large ms fit)) ∙ unsayable_is phase last ms going
