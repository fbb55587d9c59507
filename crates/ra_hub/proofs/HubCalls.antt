-- Calls of one session, as calls of a hub.
use Rattle.std.proofs.Common.{◌≡◌, ◌⊎◌, inl, inr, ℕ, ◌<◌, Bool, true, false, cond, List, Option, None, Some, is_some, Result, Ok, Err, refl, sym, ap, subst, ◌∙◌}
use Rattle.std.specs.BTreeMap.{BTreeMap, get}
use Rattle.ra_base.specs.declared.key.Cause.{Cause}
use Rattle.ra_base.specs.declared.key.Key.{Key}
use Rattle.ra_base.specs.declared.key.Seat.{Seat}
use Rattle.ra_registry.specs.declared.past.Did.TheVariants.{Lost, Closed, Missed}
use Rattle.ra_registry.specs.declared.row.Row.{Row}
use Rattle.ra_registry.specs.RegistryStates.{RegistryState, with_entry}
use Rattle.ra_registry.specs.Rows.{row_of}
use Rattle.ra_registry.specs.Seats.{unspent}
use Rattle.ra_session.specs.Sessions.{Session}
use Rattle.ra_session.specs.SessionCalls.{lose_session, end_session}
use Rattle.ra_session.specs.SessionRefusals.{Refusal}
use Rattle.ra_hub.specs.declared.entry.SessionEntry.{SessionEntry}
use Rattle.ra_hub.specs.Entries.{EntryStands, EntryBecomes}
use Rattle.ra_session.specs.TurnRefusals.{TurnLeaves, is_bad_ipc}
use Rattle.ra_session.specs.Turns.{turn}
use Rattle.ra_session.specs.View.{told, tell_refusal}
use Rattle.ra_session.specs.declared.values.SessionFault.{SessionFault}
use Rattle.ra_session.specs.declared.values.SessionFault.TheVariants as faults
use Rattle.ra_session.specs.declared.values.Tell.{Tell}
use Rattle.ra_session.specs.declared.values.Turn.{Turn}
use Rattle.ra_hub.specs.declared.fault.HubFault.{HubFault}
use Rattle.ra_hub.specs.declared.fault.HubFault.TheVariants as hub
use Rattle.ra_hub.specs.Hubs.{Hub, row, at_key, entry_of, missed, seat_lost, seat_closed, with_end, closes}
use Rattle.ra_hub.specs.HubCalls.{Answers, GivesNothing, Turns, TellsAt, Tells, Loses, Closes}
use Rattle.ra_base.specs.Keys.{key_cmp}
use Rattle.ra_hub.specs.Standing.{AtSession, Sets, BothStand, Called, Turned, StandsForHub, SessionsStand}
use Rattle.ra_hub.specs.Tellings.{TellsNobody}
use Rattle.ra_hub.proofs.HubLemmas.{hub_set, hub_same, hub_entered, hub_kept, seat_has, session_row}
use Rattle.ra_hub.proofs.Endings.{GoesBack, turn_back, told_back, lose_back, end_back}
use Rattle.ra_hub.proofs.SessionMaps.{in_memory}

-- ---- calls that a refusal leaves as they were

pub called_ok : {X Y : Type 0} (registry : RegistryState) (old new : BTreeMap Key SessionEntry) (keys : List Key) (h : Hub) (key : Key) (s : Session)
    (refusal : Session → Option Refusal) (step : Session → Session) (r : X) (y : Y)
    → StandsForHub registry old keys h → h.session key ≡ Some s → AtSession old new key (Called refusal step (Ok r)) → GoesBack step
    → Answers (refusal s) GivesNothing (at_key key (step s) h) (λ (fault : SessionFault). h) h (Ok y) (StandsForHub registry new keys)
called_ok registry old new keys h key s refusal step r y stands is called back =
    let x = in_memory old h.session key s stands.sessions_stand is in
    let done = called.there x.0 x.1 in
    ((done.2 s x.2).0, tt, hub_set registry old new keys h key _ s (step s) stands called is (λ a b to holds. (holds s to).1) (back s))

pub called_err : (X Y : Type 0) (registry : RegistryState) (old new : BTreeMap Key SessionEntry) (keys : List Key) (h : Hub) (key : Key) (s : Session)
    (refusal : Session → Option Refusal) (step : Session → Session) (fault : SessionFault)
    → StandsForHub registry old keys h → h.session key ≡ Some s → AtSession old new key (Called {X = X} refusal step (Err fault))
    → Answers {X = Y} (refusal s) GivesNothing (at_key key (step s) h) (λ (f : SessionFault). h) h (Err (hub.Session fault)) (StandsForHub registry new keys)
called_err X Y registry old new keys h key s refusal step fault stands is called =
    let x = in_memory old h.session key s stands.sessions_stand is in
    let done = called.there x.0 x.1 in
    (done.2.1 s x.2, hub_same registry old new keys h key _ stands called (λ a b holds. holds.0))

-- ---- turns

true_false : {T : Type 0} → true ≡ false → T
true_false e = cc

left_by : (X : Type 0) (fault : SessionFault) (made same : Type 0) → TurnLeaves {X = X} (Err fault) made same
    → ((is_bad_ipc fault ≡ true) × made) ⊎ ((is_bad_ipc fault ≡ false) × same)
left_by X (faults.BadIpc fault message) made same left = inl (refl, left)
left_by X (faults.Ended cause) made same left = inr (refl, left)
left_by X (faults.Stale current) made same left = inr (refl, left)
left_by X faults.NoLink made same left = inr (refl, left)
left_by X (faults.TooLong stated) made same left = inr (refl, left)
left_by X (faults.TooLarge len) made same left = inr (refl, left)
left_by X faults.IdsSpent made same left = inr (refl, left)
left_by X (faults.NoSuchCall id) made same left = inr (refl, left)
left_by X faults.WrongKind made same left = inr (refl, left)
left_by X faults.NoMemory made same left = inr (refl, left)

pub turned_ok : (registry : RegistryState) (old new : BTreeMap Key SessionEntry) (keys : List Key) (h : Hub) (seat : Seat) (piece : List ℕ) (now : ℕ) (t : Turn)
    → StandsForHub registry old keys h → 0 < unspent seat registry.history → AtSession old new seat.key (Turned seat.epoch piece now (Ok t))
    → Turns h seat piece now (Ok t) (StandsForHub registry new keys)
turned_ok registry old new keys h seat piece now t stands some called =
    let has = seat_has registry old keys h seat stands some in
    let x = in_memory old h.session seat.key has.0 stands.sessions_stand has.1 in
    let done = called.there x.0 x.1 in (
      has.0,
      has.1,
      (
        done.2.refused has.0 x.2,
        done.2.answered has.0 x.2,
        hub_set registry old new keys h seat.key _ has.0 (turn seat.epoch piece now has.0) stands called has.1 (λ a b to holds. holds.leaves has.0 to) (turn_back seat.epoch piece now has.0),
      ),
    )

pub turned_err : (registry : RegistryState) (old new : BTreeMap Key SessionEntry) (keys : List Key) (h : Hub) (seat : Seat) (piece : List ℕ) (now : ℕ) (fault : SessionFault)
    → StandsForHub registry old keys h → 0 < unspent seat registry.history → AtSession old new seat.key (Turned seat.epoch piece now (Err fault))
    → Turns h seat piece now (Err (hub.Session fault)) (StandsForHub registry new keys)
turned_err registry old new keys h seat piece now fault stands some called =
    (has.0, has.1, (done.2.refused has.0 x.2, after (is_bad_ipc fault) refl))
  where
    has : (s : Session) × (h.session seat.key ≡ Some s)
    has = seat_has registry old keys h seat stands some

    x : (x : SessionEntry) × (get key_cmp old seat.key ≡ Some x) × EntryStands x has.0
    x = in_memory old h.session seat.key has.0 stands.sessions_stand has.1

    done : (y : SessionEntry) × Sets old new seat.key y × Turned seat.epoch piece now (Err fault) x.0 y
    done = called.there x.0 x.1

    made : Hub
    made = at_key seat.key (turn seat.epoch piece now has.0) h

    bad : (a b : SessionEntry) → is_bad_ipc fault ≡ true → Turned seat.epoch piece now (Err fault) a b → EntryBecomes a b (turn seat.epoch piece now)
    bad a b is holds = elim (left_by Turn fault _ _ holds.leaves) [ inl e ↦ e.1 | inr e ↦ true_false (sym is ∙ e.0) ]

    good : (a b : SessionEntry) → is_bad_ipc fault ≡ false → Turned seat.epoch piece now (Err fault) a b → b ≡ a
    good a b is holds = elim (left_by Turn fault _ _ holds.leaves) [ inl e ↦ true_false (sym e.0 ∙ is) | inr e ↦ e.1 ]

    after : (b : Bool) → is_bad_ipc fault ≡ b → StandsForHub registry new keys (cond (is_bad_ipc fault) made h)
    after true is =
        subst (λ (b : Bool). StandsForHub registry new keys (cond b made h)) (sym is)
        (hub_set registry old new keys h seat.key _ has.0 (turn seat.epoch piece now has.0) stands called has.1 (λ a b to holds. bad a b is holds has.0 to) (turn_back seat.epoch piece now has.0))
    after false is =
        subst (λ (b : Bool). StandsForHub registry new keys (cond b made h)) (sym is)
        (hub_same registry old new keys h seat.key _ stands called (λ a b holds. good a b is holds))

-- ---- what an application tells

no_row : (r : Option Row) → r ≡ None → is_some r ≡ true → ⊥
no_row None is there = cc
no_row (Some row) is there = cc

-- a key without a session
pub nobody_told : (Y : Type 0) (registry after : RegistryState) (sessions : BTreeMap Key SessionEntry) (keys : List Key) (h : Hub) (key : Key) (tell : Tell) (now : ℕ)
    (fault : HubFault) → StandsForHub registry sessions keys h → h.session key ≡ None → TellsNobody registry after key now fault
    → Tells {X = Y} h key tell now (Err fault) (StandsForHub after sessions keys)
unfolding missed
nobody_told Y registry after sessions keys h key tell now fault stands none told_nobody =
    subst (λ (p : Option Session). TellsAt {X = Y} h key tell now (row h key) p (Err fault) (StandsForHub after sessions keys)) (sym none)
    (here (row h key) refl fault (subst (λ (r : RegistryState). TellsNobody r after key now fault) stands.registry_is told_nobody))
  where
    same : after ≡ h.registry → StandsForHub after sessions keys h
    same is = hub_kept registry after sessions keys h stands (is ∙ sym stands.registry_is)

    here : (r : Option Row) → row h key ≡ r → (f : HubFault) → TellsNobody h.registry after key now f
        → TellsAt {X = Y} h key tell now r None (Err f) (StandsForHub after sessions keys)
    here None is (hub.Session f) told_so = absurd (no_row (row h key) is told_so.0)
    here None is hub.NoSession told_so = missing
      where
        missing : StandsForHub after sessions keys (missed key now h)
        missing = hub_entered registry after sessions keys h (entry_of key now Missed) stands (told_so.1 ∙ ap (λ (r : RegistryState). with_entry r (entry_of key now Missed)) (sym stands.registry_is)) refl
    here None is hub.NoMemory told_so = same told_so
    here None is (hub.Refused reason) told_so = told_so
    here None is hub.KeepFault told_so = told_so
    here (Some r) is (hub.Session f) told_so = (told_so.1, same told_so.2)
    here (Some r) is hub.NoSession told_so = absurd (no_row (row h key) told_so.0 (ap is_some is))
    here (Some r) is hub.NoMemory told_so = same told_so
    here (Some r) is (hub.Refused reason) told_so = told_so
    here (Some r) is hub.KeepFault told_so = told_so

-- a key with a session
tells_session : {Y : Type 0} (registry : RegistryState) (sessions : BTreeMap Key SessionEntry) (keys : List Key) (h : Hub) (key : Key) (tell : Tell) (now : ℕ) (s : Session)
    (result : Result Y HubFault) (After : Hub → Type 0) → StandsForHub registry sessions keys h → h.session key ≡ Some s
    → Answers (tell_refusal tell s) GivesNothing (at_key key (told tell now s) h) (λ (fault : SessionFault). h) h result After
    → Tells h key tell now result After
tells_session registry sessions keys h key tell now s result After stands is answers =
    subst (λ (p : Option Session). TellsAt h key tell now (row h key) p result After) (sym is) (here (row h key) refl)
  where
    here : (r : Option Row) → row h key ≡ r → TellsAt h key tell now r (Some s) result After
    here None none = absurd (no_row (row h key) none (session_row registry sessions keys h key s stands is))
    here (Some r) some = answers

session_of : (o : Option SessionEntry) (p : Option Session) → is_some o ≡ true → BothStand o p → (s : Session) × (p ≡ Some s)
session_of None p there both = cc
session_of (Some x) None there both = absurd both
session_of (Some x) (Some s) there both = (s, refl)

pub told_ok : {X Y : Type 0} (registry : RegistryState) (old new : BTreeMap Key SessionEntry) (keys : List Key) (h : Hub) (key : Key) (tell : Tell) (now : ℕ) (r : X) (y : Y)
    → StandsForHub registry old keys h → is_some (get key_cmp old key) ≡ true → AtSession old new key (Called (tell_refusal tell) (told tell now) (Ok r))
    → Tells h key tell now (Ok y) (StandsForHub registry new keys)
told_ok registry old new keys h key tell now r y stands there called =
    let s = session_of (get key_cmp old key) (h.session key) there (stands.sessions_stand key) in
    tells_session registry old keys h key tell now s.0 (Ok y) _ stands s.1 (called_ok registry old new keys h key s.0 (tell_refusal tell) (told tell now) r y stands s.1 called (told_back tell now))

pub told_err : (X Y : Type 0) (registry : RegistryState) (old new : BTreeMap Key SessionEntry) (keys : List Key) (h : Hub) (key : Key) (tell : Tell) (now : ℕ) (fault : SessionFault)
    → StandsForHub registry old keys h → is_some (get key_cmp old key) ≡ true → AtSession old new key (Called {X = X} (tell_refusal tell) (told tell now) (Err fault))
    → Tells {X = Y} h key tell now (Err (hub.Session fault)) (StandsForHub registry new keys)
told_err X Y registry old new keys h key tell now fault stands there called =
    let s = session_of (get key_cmp old key) (h.session key) there (stands.sessions_stand key) in
    tells_session registry old keys h key tell now s.0 (Err (hub.Session fault)) _ stands s.1
    (called_err X Y registry old new keys h key s.0 (tell_refusal tell) (told tell now) fault stands s.1 called)

-- ---- ends of seats

pub loses : (registry after : RegistryState) (old new : BTreeMap Key SessionEntry) (keys : List Key) (h : Hub) (seat : Seat) (now : ℕ)
    → StandsForHub registry old keys h → 0 < unspent seat registry.history
    → AtSession old new seat.key (λ (x y : SessionEntry). EntryBecomes x y (lose_session seat.epoch))
    → after ≡ with_entry registry (entry_of seat.key now (Lost seat.epoch))
    → Loses h seat now (StandsForHub after new keys)
unfolding seat_lost
loses registry after old new keys h seat now stands some called is =
    let has = seat_has registry old keys h seat stands some in (
      has.0,
      has.1,
      hub_entered registry after new keys (at_key seat.key (lose_session seat.epoch has.0) h) (entry_of seat.key now (Lost seat.epoch))
          (hub_set registry old new keys h seat.key _ has.0 (lose_session seat.epoch has.0) stands called has.1 (λ x y to becomes. becomes has.0 to) (lose_back seat.epoch has.0)) is refl,
    )

ends_there : (registry : RegistryState) (old new : BTreeMap Key SessionEntry) (keys : List Key) (h : Hub) (seat : Seat) (cause : Cause) (s : Session)
    → StandsForHub registry old keys h → h.session seat.key ≡ Some s
    → (closes seat.epoch (row_of registry seat.key) ≡ true → AtSession old new seat.key (λ (x y : SessionEntry). EntryBecomes x y (end_session cause)))
    → (closes seat.epoch (row_of registry seat.key) ≡ false → new ≡ old)
    → StandsForHub registry new keys (with_end seat cause s h)
ends_there registry old new keys h seat cause s stands is closed open_still = here (closes seat.epoch (row_of registry seat.key)) refl
  where
    same : closes seat.epoch (row_of registry seat.key) ≡ closes seat.epoch (row h seat.key)
    same = ap (λ (r : RegistryState). closes seat.epoch (row_of r seat.key)) stands.registry_is

    here : (b : Bool) → closes seat.epoch (row_of registry seat.key) ≡ b
        → StandsForHub registry new keys (cond (closes seat.epoch (row h seat.key)) (at_key seat.key (end_session cause s) h) h)
    here true e =
        subst (λ (b : Bool). StandsForHub registry new keys (cond b (at_key seat.key (end_session cause s) h) h)) (sym e ∙ same)
        (hub_set registry old new keys h seat.key _ s (end_session cause s) stands (closed e) is (λ x y to becomes. becomes s to) (end_back cause s))
    here false e =
        subst (λ (b : Bool). StandsForHub registry new keys (cond b (at_key seat.key (end_session cause s) h) h)) (sym e ∙ same)
        (subst (λ (m : BTreeMap Key SessionEntry). StandsForHub registry m keys h) (sym (open_still e)) stands)

pub closes_it : (registry after : RegistryState) (old new : BTreeMap Key SessionEntry) (keys : List Key) (h : Hub) (seat : Seat) (cause : Cause) (now : ℕ)
    → StandsForHub registry old keys h → 0 < unspent seat registry.history
    → (closes seat.epoch (row_of registry seat.key) ≡ true → AtSession old new seat.key (λ (x y : SessionEntry). EntryBecomes x y (end_session cause)))
    → (closes seat.epoch (row_of registry seat.key) ≡ false → new ≡ old)
    → after ≡ with_entry registry (entry_of seat.key now (Closed seat.epoch cause))
    → Closes h seat cause now (StandsForHub after new keys)
unfolding seat_closed
closes_it registry after old new keys h seat cause now stands some closed open_still is =
    let has = seat_has registry old keys h seat stands some in (
      has.0,
      has.1,
      hub_entered registry after new keys (with_end seat cause has.0 h) (entry_of seat.key now (Closed seat.epoch cause))
          (ends_there registry old new keys h seat cause has.0 stands has.1 closed open_still) is refl,
    )

pub nobody_there : (sessions : BTreeMap Key SessionEntry) (f : Key → Option Session) (key : Key) → SessionsStand sessions f → is_some (get key_cmp sessions key) ≡ false
    → f key ≡ None
nobody_there sessions f key stand none = here (get key_cmp sessions key) (f key) none (stand key)
  where
    here : (o : Option SessionEntry) (p : Option Session) → is_some o ≡ false → BothStand o p → p ≡ None
    here None None is both = refl
    here None (Some s) is both = absurd both
    here (Some x) p is both = cc
