-- What a hub in memory stands for, after one piece of a call.
use Rattle.std.proofs.Common.{◌≡◌, ℕ, ◌<◌, Bool, true, false, cond, ◌||◌, List, Option, None, Some, is_some, refl, sym, ap, subst, ◌∙◌}
use Rattle.std.specs.Prelude.{nat_lt}
use Rattle.std.specs.BTreeMap.{BTreeMap}
use Rattle.ra_base.specs.declared.key.Key.{Key}
use Rattle.ra_base.specs.declared.key.Seat.{Seat}
use Rattle.ra_registry.specs.declared.past.Past.{Past}
use Rattle.ra_registry.specs.RegistryStates.{RegistryState, with_entry}
use Rattle.ra_registry.specs.Rows.{same_key, start_row}
use Rattle.ra_registry.specs.Seats.{admits, unspent, admissions_of}
use Rattle.ra_registry.proofs.SameKeys.{same_key_is}
use Rattle.ra_session.specs.Sessions.{Session}
use Rattle.ra_hub.specs.declared.entry.SessionEntry.{SessionEntry}
use Rattle.ra_hub.specs.declared.entry.SessionEntry.TheVariants.{Going, Over}
use Rattle.ra_hub.specs.Entries.{EntryStands}
use Rattle.ra_session.specs.SessionStates.{Runs}
use Rattle.ra_hub.specs.Hubs.{Hub, row, with_session, at_key, enter}
use Rattle.ra_hub.specs.Standing.{AtSession, SessionsStand, StandsForHub}
use Rattle.ra_hub.specs.Running.{HubRuns}
use Rattle.ra_hub.proofs.AdmittedRows.{rows_are, seat_admitted, admissions_stay}
use Rattle.ra_hub.proofs.KeyLists.{follows_itself, follows_set, keys_follow}
use Rattle.ra_hub.proofs.SessionMaps.{in_memory, stand_set, stand_same}

-- ---- sessions

set_there : (f : Key → Option Session) (key other : Key) (s t : Session) → f key ≡ Some s → is_some (with_session key t f other) ≡ is_some (f other)
set_there f key other s t is = here (same_key key other) refl
  where
    here : (b : Bool) → same_key key other ≡ b → is_some (cond b (Some t) (f other)) ≡ is_some (f other)
    here true same = sym (ap (λ (k : Key). is_some (f k)) (sym (same_key_is key other same)) ∙ ap is_some is)
    here false apart = refl

-- a call of one session
pub hub_set : (registry : RegistryState) (old new : BTreeMap Key SessionEntry) (keys : List Key) (h : Hub) (key : Key) (P : SessionEntry → SessionEntry → Type 0) (s t : Session)
    → StandsForHub registry old keys h → AtSession old new key P → h.session key ≡ Some s
    → ((x y : SessionEntry) → EntryStands x s → P x y → EntryStands y t) → (t.cause ≡ None → s.cause ≡ None)
    → StandsForHub registry new keys (at_key key t h)
hub_set registry old new keys h key P s t stands called is becomes back = record {
  registry_is = stands.registry_is;
  sessions_stand = after;
  keys_are = keys_follow keys old new h.session (with_session key t h.session) stands.sessions_stand after (λ other. follows_set h.session key other s t is back) stands.keys_are;
  sessions_are = λ other. set_there h.session key other s t is ∙ stands.sessions_are other;
}
  where
    after : SessionsStand new (with_session key t h.session)
    after = stand_set old new key P h.session s t called stands.sessions_stand is becomes

-- a call that leaves its session as it was
pub hub_same : (registry : RegistryState) (old new : BTreeMap Key SessionEntry) (keys : List Key) (h : Hub) (key : Key) (P : SessionEntry → SessionEntry → Type 0)
    → StandsForHub registry old keys h → AtSession old new key P → ((x y : SessionEntry) → P x y → y ≡ x) → StandsForHub registry new keys h
hub_same registry old new keys h key P stands called same = record {
  registry_is = stands.registry_is;
  sessions_stand = after;
  keys_are = keys_follow keys old new h.session h.session stands.sessions_stand after (λ other. follows_itself (h.session other)) stands.keys_are;
  sessions_are = stands.sessions_are;
}
  where
    after : SessionsStand new h.session
    after = stand_same old new key P h.session called stands.sessions_stand same

-- ---- the registry

-- an entry that admits nobody
pub hub_entered : (registry after : RegistryState) (sessions : BTreeMap Key SessionEntry) (keys : List Key) (h : Hub) (entry : Past)
    → StandsForHub registry sessions keys h → after ≡ with_entry registry entry → admits entry.did ≡ false → StandsForHub after sessions keys (enter entry h)
hub_entered registry after sessions keys h entry stands is none = record {
  registry_is = is ∙ ap (λ (r : RegistryState). with_entry r entry) stands.registry_is;
  sessions_stand = stands.sessions_stand;
  keys_are = stands.keys_are;
  sessions_are = λ key. stands.sessions_are key ∙ ap (λ (n : ℕ). nat_lt 0 n) (sym (admissions_stay key h.registry.history entry none));
}

-- the same registry
pub hub_kept : (registry after : RegistryState) (sessions : BTreeMap Key SessionEntry) (keys : List Key) (h : Hub)
    → StandsForHub registry sessions keys h → after ≡ registry → StandsForHub after sessions keys h
hub_kept registry after sessions keys h stands same = subst (λ (r : RegistryState). StandsForHub r sessions keys h) (sym same) stands

-- ---- who has a session

some_there : (p : Option Session) → is_some p ≡ true → (s : Session) × (p ≡ Some s)
some_there None there = cc
some_there (Some s) there = (s, refl)

-- a seat that is not spent has a session
pub seat_has : (registry : RegistryState) (sessions : BTreeMap Key SessionEntry) (keys : List Key) (h : Hub) (seat : Seat)
    → StandsForHub registry sessions keys h → 0 < unspent seat registry.history → (s : Session) × (h.session seat.key ≡ Some s)
seat_has registry sessions keys h seat stands some =
    some_there (h.session seat.key)
    (stands.sessions_are seat.key ∙ seat_admitted seat h.registry.history (subst (λ (r : RegistryState). 0 < unspent seat r.history) stands.registry_is some))

or_right : (a b : Bool) → b ≡ true → (a || b) ≡ true
or_right true b e = refl
or_right false b e = e

-- a session has a row
pub session_row : (registry : RegistryState) (sessions : BTreeMap Key SessionEntry) (keys : List Key) (h : Hub) (key : Key) (s : Session)
    → StandsForHub registry sessions keys h → h.session key ≡ Some s → is_some (row h key) ≡ true
session_row registry sessions keys h key s stands is =
    rows_are h.registry key ∙ or_right (is_some (start_row h.registry.start key)) (nat_lt 0 (admissions_of key h.registry.history)) (sym (stands.sessions_are key) ∙ ap is_some is)

entry_runs : (x : SessionEntry) (s : Session) → EntryStands x s → Runs s.cause s.peer.endpoint
entry_runs (Going x) s stands = stands.runs
entry_runs (Over c) s stands = λ none. some_none (sym stands ∙ none)
  where
    some_none : {T : Type 0} → Some c ≡ None → T
    some_none e = cc

-- the sessions of a hub in memory run
pub sessions_run : (registry : RegistryState) (sessions : BTreeMap Key SessionEntry) (keys : List Key) (h : Hub) → StandsForHub registry sessions keys h → HubRuns h
sessions_run registry sessions keys h stands key s is = let x = in_memory sessions h.session key s stands.sessions_stand is in entry_runs x.0 s x.2
