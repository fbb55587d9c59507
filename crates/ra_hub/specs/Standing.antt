-- What a hub in memory stands for.
use Rattle.std.specs.Prelude.{◌≡◌, ℕ, List, Bool, true, false, Option, Some, None, nat_lt, Result, Ok, Err, IfOk, if◌then◌else◌}
use Rattle.std.specs.List.{list_any}
use Rattle.std.specs.Option.{is_some}
use Rattle.std.specs.BTreeMap.{BTreeMap, get}
use Rattle.ra_base.specs.Keys.{key_cmp}
use Rattle.ra_base.specs.declared.key.Key.{Key}
use Rattle.ra_registry.specs.Rows.{same_key}
use Rattle.ra_registry.specs.RegistryStates.{RegistryState}
use Rattle.ra_registry.specs.Seats.{admissions_of}
use Rattle.ra_session.specs.Sessions.{Session}
use Rattle.ra_session.specs.declared.values.SessionFault.{SessionFault}
use Rattle.ra_session.specs.declared.values.Turn.{Turn}
use Rattle.ra_session.specs.Saying.{serving}
use Rattle.ra_session.specs.SessionRefusals.{Refusal, IsRefusal, Refuses}
use Rattle.ra_hub.specs.declared.entry.SessionEntry.{SessionEntry}
use Rattle.ra_hub.specs.Entries.{EntryStands, OfEachStanding, EntryBecomes, EntryAdmits, cause_in}
use Rattle.ra_session.specs.TurnRefusals.{TurnLeaves, turn_refusal}
use Rattle.ra_session.specs.Turns.{turn, turn_answer}
use Rattle.ra_session.specs.View.{turn_of}
use Rattle.ra_hub.specs.Hubs.{Hub}
use Rattle.ra_hub.specs.Sweeps.{AreDistinct, tick_one}

-- there is a session on both sides, and the one stands for the other; or there is none
abbrev pub BothStand : Option SessionEntry → Option Session → Type 0
BothStand None None = Unit {0}
BothStand None (Some s) = ⊥
BothStand (Some x) None = ⊥
BothStand (Some x) (Some s) = EntryStands x s

abbrev pub SessionsStand : BTreeMap Key SessionEntry → (Key → Option Session) → Type 0
SessionsStand sessions session = (key : Key) → BothStand (get key_cmp sessions key) (session key)

-- these are keys of sessions, each once, and among them those of all sessions that have not ended
pub record AreKeys (keys : List Key) (sessions : BTreeMap Key SessionEntry) : Type 0 where
  pub once : AreDistinct keys
  pub there : (key : Key) → list_any (same_key key) keys ≡ true → is_some (get key_cmp sessions key) ≡ true
  pub going : (key : Key) (x : SessionEntry) → get key_cmp sessions key ≡ Some x → cause_in x ≡ None → list_any (same_key key) keys ≡ true

-- a key has a session where it was ever admitted
abbrev pub HasSessions : Hub → Type 0
HasSessions h = (key : Key) → is_some (h.session key) ≡ nat_lt 0 (admissions_of key h.registry.history)

pub record StandsForHub (registry : RegistryState) (sessions : BTreeMap Key SessionEntry) (keys : List Key) (h : Hub) : Type 0 where
  pub registry_is : registry ≡ h.registry
  pub sessions_stand : SessionsStand sessions h.session
  pub keys_are : AreKeys keys sessions
  pub sessions_are : HasSessions h

-- ---- calls of one session of a map

-- the new map has this at the key, and else what the old one has
abbrev pub Sets : BTreeMap Key SessionEntry → BTreeMap Key SessionEntry → Key → SessionEntry → Type 0
Sets old new key x = (other : Key) → get key_cmp new other ≡ (if same_key key other then Some x else get key_cmp old other)

-- The session of this key, where there is one, was called, and the others stay.
pub record AtSession (old new : BTreeMap Key SessionEntry) (key : Key) (Called : SessionEntry → SessionEntry → Type 0) : Type 0 where
  pub there : (x : SessionEntry) → get key_cmp old key ≡ Some x → (y : SessionEntry) × Sets old new key y × Called x y
  pub none : get key_cmp old key ≡ None → (other : Key) → get key_cmp new other ≡ get key_cmp old other

-- what a call of a session ensures: it is refused exactly where it has to be, and a refusal leaves it as it was
abbrev pub Called : {X : Type 0} → (Session → Option Refusal) → (Session → Session) → Result X SessionFault → SessionEntry → SessionEntry → Type 0
Called refusal step (Ok r) x y = OfEachStanding x (λ s. (refusal s ≡ None) × EntryStands y (step s))
Called refusal step (Err fault) x y = (y ≡ x) × OfEachStanding x (λ s. IsRefusal fault (refusal s))

-- what a turn ensures
pub record Turned (epoch : ℕ) (piece : List ℕ) (now : ℕ) (result : Result Turn SessionFault) (x y : SessionEntry) : Type 0 where
  pub leaves : TurnLeaves result (EntryBecomes x y (turn epoch piece now)) (y ≡ x)
  pub answered : IfOk result (λ t. OfEachStanding x (λ s. turn_of t ≡ turn_answer epoch piece now s))
  pub refused : OfEachStanding x (λ s. Refuses result (turn_refusal epoch piece now s))

-- what a tick ensures, where memory was found, and where not: then it is not refused otherwise
abbrev pub Ticked : ℕ → Bool → SessionEntry → SessionEntry → Type 0
Ticked now true x y = EntryBecomes x y (tick_one now)
Ticked now false x y = (y ≡ x) × EntryAdmits now x

-- ---- sessions that come and go

-- a session of this key begins, and the others stay
abbrev pub AddsSession : BTreeMap Key SessionEntry → BTreeMap Key SessionEntry → Key → ℕ → Type 0
AddsSession old new key now = (x : SessionEntry) × EntryStands x (serving key.kind now) × Sets old new key x

abbrev pub RemovesSession : BTreeMap Key SessionEntry → BTreeMap Key SessionEntry → Key → Type 0
RemovesSession old new key = (other : Key) → get key_cmp new other ≡ (if same_key key other then None else get key_cmp old other)

abbrev pub SameSessions : BTreeMap Key SessionEntry → BTreeMap Key SessionEntry → Type 0
SameSessions old new = (key : Key) → get key_cmp new key ≡ get key_cmp old key
