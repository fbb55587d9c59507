-- A hub in memory after a request.
use Rattle.std.proofs.Common.{◌≡◌, ℕ, Bool, true, false, cond, ◌||◌, List, [], ◌∷◌, ◌++◌, Option, None, Some, is_some, Ok, Err, refl, sym, ap, subst, ◌∙◌}
use Rattle.std.specs.Prelude.{nat_lt}
use Rattle.std.specs.BTreeMap.{BTreeMap, get}
use Rattle.std.specs.List.{list_any}
use Rattle.std.proofs.lemmas.List.Folds.{list_any-append}
use Rattle.ra_base.specs.Keys.{key_cmp}
use Rattle.ra_base.specs.declared.handshake.Request.{Request}
use Rattle.ra_base.specs.declared.key.Key.{Key}
use Rattle.ra_base.specs.declared.key.Seat.{Seat}
use Rattle.ra_registry.specs.declared.fault.AdmitFault.{AdmitFault}
use Rattle.ra_registry.specs.declared.fault.AdmitFault.TheVariants as admission
use Rattle.ra_registry.specs.declared.row.Row.{Row}
use Rattle.ra_registry.specs.Admission as registry_calls
use Rattle.ra_registry.specs.Admission.{key_of, admission_entry, refusal_entry, admission_refusal}
use Rattle.ra_registry.specs.Legal.{IsLegal}
use Rattle.ra_registry.specs.RegistryStates.{RegistryState, with_entry}
use Rattle.ra_registry.specs.RowChanges.{is_open}
use Rattle.ra_registry.specs.Rows.{same_key, row_of, start_row}
use Rattle.ra_registry.specs.Seats.{admissions_of}
use Rattle.ra_registry.proofs.Accepted.{accepted_new, accepted_again, again_open}
use Rattle.ra_registry.proofs.Epochs.{stays_closed}
use Rattle.ra_registry.proofs.SameKeys.{same_key_is, same_key_other_way}
use Rattle.ra_session.specs.Saying.{serving}
use Rattle.ra_session.specs.Sessions.{Session}
use Rattle.ra_hub.specs.declared.entry.SessionEntry.{SessionEntry}
use Rattle.ra_hub.specs.Entries.{cause_in}
use Rattle.ra_hub.specs.Faults.{of_admission}
use Rattle.ra_hub.specs.Hubs.{Hub, row, at_key, enter, admitted, refused}
use Rattle.ra_hub.specs.HubCalls.{Admits}
use Rattle.ra_hub.specs.Standing.{AddsSession, RemovesSession, SameSessions, BothStand, SessionsStand, StandsForHub}
use Rattle.ra_hub.proofs.AdmittedRows.{rows_are, admissions_grow}
use Rattle.ra_hub.proofs.HubLemmas.{hub_entered, hub_kept, session_row}
use Rattle.ra_hub.proofs.KeyLists.{follows_itself, keys_follow}
use Rattle.ra_hub.proofs.SweepLemmas.{distinct_more}

no_row : {T : Type 0} (r : Option Row) → r ≡ None → is_some r ≡ true → T
no_row None is there = cc
no_row (Some row) is there = cc

true_false : {T : Type 0} (b : Bool) → b ≡ true → b ≡ false → T
true_false true a b = cc
true_false false a b = cc

open_some : (r : Option Row) → is_open r ≡ true → is_some r ≡ true
open_some None e = cc
open_some (Some row) e = refl

or_left : (a b : Bool) → a ≡ false → (a || b) ≡ true → b ≡ true
or_left true b e f = cc
or_left false b e f = f

or_same : (a b : Bool) → (a ≡ true → b ≡ true) → b ≡ (a || b)
or_same true b h = h refl
or_same false b h = refl

or_nothing : (b : Bool) → (b || false) ≡ b
or_nothing true = refl
or_nothing false = refl

or_true : (b : Bool) → (b || true) ≡ true
or_true true = refl
or_true false = refl

not_true : (b : Bool) → (b ≡ true → ⊥) → b ≡ false
not_true true no_way = absurd (no_way refl)
not_true false no_way = refl

is_there : (o : Option SessionEntry) → o ≡ None → is_some o ≡ true → ⊥
is_there None none there = cc
is_there (Some x) none there = cc

-- ---- requests that are not admitted

-- the registry's answer to one
pub not_admitted : (registry after : RegistryState) (sessions : BTreeMap Key SessionEntry) (keys : List Key) (h : Hub) (ask : Request) (now : ℕ) (fault : AdmitFault)
    → StandsForHub registry sessions keys h → registry_calls.Admits registry ask now (Err fault) after
    → Admits h ask now (Err (of_admission fault)) (StandsForHub after sessions keys)
unfolding refused
not_admitted registry after sessions keys h ask now (admission.Refused reason) stands admits = (
  ap (λ (r : RegistryState). admission_refusal r ask now) (sym stands.registry_is) ∙ admits.0,
  hub_entered registry after sessions keys h (refusal_entry ask now reason) stands admits.1 refl,
)
not_admitted registry after sessions keys h ask now admission.KeepFault stands admits = hub_kept registry after sessions keys h stands admits
not_admitted registry after sessions keys h ask now admission.NoMemory stands admits = hub_kept registry after sessions keys h stands admits

-- ---- reconnections

-- what is reconnected was admitted before
again_there : (r : RegistryState) (ask : Request) (now : ℕ) → IsLegal r → admission_refusal r ask now ≡ None → ask.reconnection ≡ true
    → nat_lt 0 (admissions_of (key_of ask) r.history) ≡ true
again_there r ask now legal accepted again =
    let open_row = again_open r ask now (accepted_again r ask now accepted again) in
    let not_started : (b : Bool) → is_some (start_row r.start (key_of ask)) ≡ b → is_some (start_row r.start (key_of ask)) ≡ false =
    elim [
      | true ↦ λ e. true_false (is_open (row_of r (key_of ask))) open_row (stays_closed r (key_of ask) legal e).1
      | false ↦ λ e. e
    ] in
    or_left (is_some (start_row r.start (key_of ask))) (nat_lt 0 (admissions_of (key_of ask) r.history)) (not_started (is_some (start_row r.start (key_of ask))) refl)
    (sym (rows_are r (key_of ask)) ∙ open_some (row_of r (key_of ask)) open_row)

-- each session stays, and so do the keys that were admitted
pub again_admitted : (registry after : RegistryState) (sessions : BTreeMap Key SessionEntry) (keys : List Key) (h : Hub) (ask : Request) (now : ℕ) (seat : Seat)
    → StandsForHub registry sessions keys h → IsLegal registry → ask.reconnection ≡ true → registry_calls.Admits registry ask now (Ok seat) after
    → Admits h ask now (Ok seat) (StandsForHub after sessions keys)
unfolding admitted
again_admitted registry after sessions keys h ask now seat stands legal again admits = (
  accepted,
  admits.1 ∙ ap (λ (r : RegistryState). registry_calls.seat_for r ask) stands.registry_is,
  subst (λ (b : Bool). StandsForHub after sessions keys (enter (admission_entry h.registry ask now) (cond b h (at_key (key_of ask) (serving (key_of ask).kind now) h)))) (sym again) standing,
)
  where
    accepted : admission_refusal h.registry ask now ≡ None
    accepted = ap (λ (r : RegistryState). admission_refusal r ask now) (sym stands.registry_is) ∙ admits.0

    legal_there : IsLegal h.registry
    legal_there = subst (λ (r : RegistryState). IsLegal r) stands.registry_is legal

    there : (key : Key) → same_key (key_of ask) key ≡ true → nat_lt 0 (admissions_of key h.registry.history) ≡ true
    there key same =
        subst (λ (k : Key). nat_lt 0 (admissions_of k h.registry.history) ≡ true) (same_key_is (key_of ask) key same) (again_there h.registry ask now legal_there accepted again)

    standing : StandsForHub after sessions keys (enter (admission_entry h.registry ask now) h)
    standing = record {
      registry_is = admits.2 ∙ ap (λ (r : RegistryState). with_entry r (admission_entry r ask now)) stands.registry_is;
      sessions_stand = stands.sessions_stand;
      keys_are = stands.keys_are;
      sessions_are = λ key.
          stands.sessions_are key ∙ or_same (same_key (key_of ask) key) (nat_lt 0 (admissions_of key h.registry.history)) (there key)
          ∙ sym (admissions_grow key h.registry.history (admission_entry h.registry ask now) refl);
    }

-- a new session whose key has one is never admitted
pub known_new : (registry after : RegistryState) (sessions : BTreeMap Key SessionEntry) (keys : List Key) (h : Hub) (ask : Request) (now : ℕ) (seat : Seat)
    → StandsForHub registry sessions keys h → ask.reconnection ≡ false → is_some (get key_cmp sessions (key_of ask)) ≡ true
    → registry_calls.Admits registry ask now (Ok seat) after → {T : Type 0} → T
known_new registry after sessions keys h ask now seat stands new there admits =
    no_row (row_of registry (key_of ask)) (accepted_new registry ask now admits.0 new)
    (ap (λ (r : RegistryState). is_some (row_of r (key_of ask))) stands.registry_is ∙ session_row registry sessions keys h (key_of ask) (found).0 stands (found).1)
  where
    session_of : (o : Option SessionEntry) (p : Option Session) → is_some o ≡ true → BothStand o p → (s : Session) × (p ≡ Some s)
    session_of None p is both = cc
    session_of (Some x) None is both = absurd both
    session_of (Some x) (Some s) is both = (s, refl)

    found : (s : Session) × (h.session (key_of ask) ≡ Some s)
    found = session_of (get key_cmp sessions (key_of ask)) (h.session (key_of ask)) there (stands.sessions_stand (key_of ask))

-- either way
pub known_admitted : (registry after : RegistryState) (sessions : BTreeMap Key SessionEntry) (keys : List Key) (h : Hub) (ask : Request) (now : ℕ) (seat : Seat)
    → StandsForHub registry sessions keys h → IsLegal registry → (ask.reconnection || is_some (get key_cmp sessions (key_of ask))) ≡ true
    → registry_calls.Admits registry ask now (Ok seat) after
    → Admits h ask now (Ok seat) (StandsForHub after sessions keys)
known_admitted registry after sessions keys h ask now seat stands legal known admits = here ask.reconnection refl
  where
    here : (b : Bool) → ask.reconnection ≡ b → Admits h ask now (Ok seat) (StandsForHub after sessions keys)
    here true again = again_admitted registry after sessions keys h ask now seat stands legal again admits
    here false new =
        known_new registry after sessions keys h ask now seat stands new
        (or_left ask.reconnection (is_some (get key_cmp sessions (key_of ask))) new known) admits

-- ---- new sessions

-- a session that was added and taken out again
pub undone : (old between new : BTreeMap Key SessionEntry) (key : Key) (now : ℕ) → get key_cmp old key ≡ None → AddsSession old between key now
    → RemovesSession between new key → SameSessions old new
undone old between new key now none adds removes other = removes other ∙ here (same_key key other) refl
  where
    here : (b : Bool) → same_key key other ≡ b → cond b None (get key_cmp between other) ≡ get key_cmp old other
    here true same = sym none ∙ ap (λ (k : Key). get key_cmp old k) (same_key_is key other same)
    here false apart = adds.2 other ∙ ap (λ (b : Bool). cond b (Some adds.0) (get key_cmp old other)) apart

pub same_hub : (registry : RegistryState) (old new : BTreeMap Key SessionEntry) (keys : List Key) (h : Hub) → SameSessions old new
    → StandsForHub registry old keys h → StandsForHub registry new keys h
same_hub registry old new keys h same stands = record {
  registry_is = stands.registry_is;
  sessions_stand = after;
  keys_are = keys_follow keys old new h.session h.session stands.sessions_stand after (λ key. follows_itself (h.session key)) stands.keys_are;
  sessions_are = stands.sessions_are;
}
  where
    after : SessionsStand new h.session
    after key = subst (λ (o : Option SessionEntry). BothStand o (h.session key)) (sym (same key)) (stands.sessions_stand key)

pub new_admitted : (registry after : RegistryState) (old between : BTreeMap Key SessionEntry) (keys : List Key) (h : Hub) (ask : Request) (now : ℕ) (seat : Seat)
    → StandsForHub registry old keys h → ask.reconnection ≡ false → get key_cmp old (key_of ask) ≡ None → AddsSession old between (key_of ask) now
    → registry_calls.Admits registry ask now (Ok seat) after
    → Admits h ask now (Ok seat) (StandsForHub after between (keys ++ key_of ask ∷ []))
unfolding admitted
new_admitted registry after old between keys h ask now seat stands new none adds admits = (
  ap (λ (r : RegistryState). admission_refusal r ask now) (sym stands.registry_is) ∙ admits.0,
  admits.1 ∙ ap (λ (r : RegistryState). registry_calls.seat_for r ask) stands.registry_is,
  subst (λ (b : Bool). StandsForHub after between (keys ++ key_of ask ∷ []) (enter (admission_entry h.registry ask now) (cond b h (at_key (key_of ask) (serving (key_of ask).kind now) h)))) (sym new) standing,
)
  where
    key : Key
    key = key_of ask

    s : Session
    s = serving (key_of ask).kind now

    at : (other : Key) (b : Bool) → same_key key other ≡ b → BothStand (cond b (Some adds.0) (get key_cmp old other)) (cond b (Some s) (h.session other))
    at other true same = adds.1
    at other false apart = stands.sessions_stand other

    grown : (other : Key) (b : Bool) → same_key key other ≡ b → is_some (cond b (Some s) (h.session other)) ≡ (b || nat_lt 0 (admissions_of other h.registry.history))
    grown other true same = refl
    grown other false apart = stands.sessions_are other

    among : (other : Key) → list_any (same_key other) (keys ++ key ∷ []) ≡ (list_any (same_key other) keys || same_key key other)
    among other =
        list_any-append (same_key other) keys (key ∷ []) ∙ ap (λ (b : Bool). list_any (same_key other) keys || b) (or_nothing (same_key other key) ∙ same_key_other_way other key)

    fresh : list_any (same_key key) keys ≡ false
    fresh = not_true (list_any (same_key key) keys) (λ in_keys. is_there (get key_cmp old key) none (stands.keys_are.there key in_keys))

    there : (other : Key) (b : Bool) → same_key key other ≡ b → (list_any (same_key other) keys || b) ≡ true → is_some (cond b (Some adds.0) (get key_cmp old other)) ≡ true
    there other true same in_keys = refl
    there other false apart in_keys = stands.keys_are.there other (sym (or_nothing (list_any (same_key other) keys)) ∙ in_keys)

    going : (other : Key) (b : Bool) (x : SessionEntry) → cond b (Some adds.0) (get key_cmp old other) ≡ Some x → cause_in x ≡ None → (list_any (same_key other) keys || b) ≡ true
    going other true x is goes = or_true (list_any (same_key other) keys)
    going other false x is goes = or_nothing (list_any (same_key other) keys) ∙ stands.keys_are.going other x is goes

    standing : StandsForHub after between (keys ++ key ∷ []) (enter (admission_entry h.registry ask now) (at_key key s h))
    standing = record {
      registry_is = admits.2 ∙ ap (λ (r : RegistryState). with_entry r (admission_entry r ask now)) stands.registry_is;
      sessions_stand = λ other.
          subst (λ (o : Option SessionEntry). BothStand o (cond (same_key key other) (Some s) (h.session other))) (sym (adds.2 other)) (at other (same_key key other) refl);
      keys_are = record {
        once = distinct_more keys key stands.keys_are.once fresh;
        there = λ other in_keys. ap is_some (adds.2 other) ∙ there other (same_key key other) refl (sym (among other) ∙ in_keys);
        going = λ other x is goes. among other ∙ going other (same_key key other) x (sym (adds.2 other) ∙ is) goes;
      };
      sessions_are = λ other.
          grown other (same_key key other) refl ∙ sym (admissions_grow other h.registry.history (admission_entry h.registry ask now) refl);
    }

-- the same, where the key and the list of keys are given
pub new_admits : (registry after : RegistryState) (old between : BTreeMap Key SessionEntry) (keys new_keys : List Key) (h : Hub) (ask : Request) (key : Key) (now : ℕ) (seat : Seat)
    → StandsForHub registry old keys h → ask.reconnection ≡ false → key ≡ key_of ask → get key_cmp old key ≡ None → AddsSession old between key now
    → new_keys ≡ keys ++ key ∷ [] → registry_calls.Admits registry ask now (Ok seat) after
    → Admits h ask now (Ok seat) (StandsForHub after between new_keys)
new_admits registry after old between keys new_keys h ask key now seat stands new is none adds keys_are admits =
    subst (λ (ks : List Key). Admits h ask now (Ok seat) (StandsForHub after between ks)) (sym (keys_are ∙ ap (λ (k : Key). keys ++ k ∷ []) is))
    (new_admitted registry after old between keys h ask now seat stands new
    (subst (λ (k : Key). get key_cmp old k ≡ None) is none) (subst (λ (k : Key). AddsSession old between k now) is adds) admits)

pub new_refused : (registry after : RegistryState) (old between new : BTreeMap Key SessionEntry) (keys new_keys : List Key) (h : Hub) (ask : Request) (key : Key) (now : ℕ) (fault : AdmitFault)
    → StandsForHub registry old keys h → get key_cmp old key ≡ None → AddsSession old between key now → RemovesSession between new key
    → new_keys ≡ keys → registry_calls.Admits registry ask now (Err fault) after
    → Admits h ask now (Err (of_admission fault)) (StandsForHub after new new_keys)
new_refused registry after old between new keys new_keys h ask key now fault stands none adds removes same admits =
    subst (λ (ks : List Key). Admits h ask now (Err (of_admission fault)) (StandsForHub after new ks)) (sym same)
    (not_admitted registry after new keys h ask now fault (same_hub registry old new keys h (undone old between new key now none adds removes) stands) admits)
