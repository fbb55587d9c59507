-- The sessions of a hub take nothing back, and each has a row.
use Rattle.std.proofs.Common.{◌≡◌, ℕ, Bool, true, false, true≢false, not, cond, ◌&&◌, Option, Some, None, option_map, is_some, List, [], ◌∷◌, refl, ap, sym, ◌∙◌, subst}
use Rattle.std.specs.List.{list_any}
use Rattle.std.specs.Option.{is_none}
use Rattle.ra_base.specs.Outcome.{first_that}
use Rattle.ra_base.specs.declared.handshake.Reason.{Reason}
use Rattle.ra_base.specs.declared.handshake.Reason.TheVariants.{UnknownKind, NeverSeen, SeenBefore, Duplicate}
use Rattle.ra_base.specs.declared.handshake.Request.{Request}
use Rattle.ra_base.specs.declared.key.Cause.{Cause}
use Rattle.ra_base.specs.declared.key.Cause.TheVariants.{GraceOver}
use Rattle.ra_base.specs.declared.key.Key.{Key}
use Rattle.ra_base.specs.declared.key.Seat.{Seat}
use Rattle.ra_model.specs.Pairs.{IsLater}
use Rattle.ra_model.proofs.Later.{later_refl, later_trans}
use Rattle.ra_registry.specs.declared.past.Did.TheVariants.{Closed}
use Rattle.ra_registry.specs.declared.past.Past.{Past}
use Rattle.ra_registry.specs.declared.row.Row.{Row}
use Rattle.ra_registry.specs.Admission.{key_of, is_known, can_reconnect, admission_refusal, admission_entry, refusal_entry}
use Rattle.ra_registry.specs.RegistryStates.{RegistryState, with_entry}
use Rattle.ra_registry.specs.Rows.{same_key, row_of}
use Rattle.ra_registry.proofs.SameKeys.{same_key_is}
use Rattle.ra_session.specs.Saying.{serving}
use Rattle.ra_session.specs.SessionCalls.{attach, lose_session, end_session, tick_session}
use Rattle.ra_session.specs.SessionRefusals.{tick_refusal}
use Rattle.ra_session.specs.Sessions.{Session}
use Rattle.ra_session.specs.Turns.{turn}
use Rattle.ra_views.specs.SessionViews.{SessionOnlyGrows}
use Rattle.ra_views.proofs.SessionsRise.{rises_tick, rises_lose, rises_end, rises_attach, rises_turn}
use Rattle.ra_hub.specs.Hubs.{Hub, row, enter, entry_of, at_key, closes, admitted, refused, missed, seat_lost, seat_closed}
use Rattle.ra_hub.specs.Sweeps.{swept, tick_one, grace_is_over}
use Rattle.ra_link_core.specs.HubEvents.{HubEvent, judged_by, on_session, event_done, events_done}
use Rattle.ra_link_core.specs.HubEvents.HubEvent.{Admit, Attach, Turn, Lose, Close}
use Rattle.ra_link_core.specs.LinkRuns.{hub_left}
use Rattle.ra_grand_runs.specs.GrandSweeps.{swept_hub}
use Rattle.ra_run_laws.specs.KeptRows.{RowsAgree}
use Rattle.ra_run_laws.specs.Rising.{HubRises}
use Rattle.ra_run_laws.proofs.KeptRows.{entry_agrees, own_entry, other_entry_agrees, expiries_agree}
use Rattle.ra_run_laws.proofs.Lists.{by_bool}

-- a key without a row has no session
abbrev pub HaveRows : Hub → Type 0
HaveRows h = (key : Key) → row h key ≡ None → h.session key ≡ None

-- a step of a hub
abbrev pub HubStep : Hub → Hub → Type 0
HubStep h k = HubRises h k × HaveRows k

rises_itself : (h : Hub) → HubRises h h
rises_itself h key s is = (s, is, later_refl s.peer)

pub step_itself : (h : Hub) → HaveRows h → HubStep h h
step_itself h rows = (rises_itself h, rows)

rises_trans : (h k l : Hub) → HubRises h k → HubRises k l → HubRises h l
rises_trans h k l a b key s is =
    let t = a key s is in
    let u = b key t.0 t.1 in
    (u.0, u.1, later_trans s.peer t.0.peer u.0.peer t.2 u.2)

pub step_trans : (h k l : Hub) → HubStep h k → (HaveRows k → HubStep k l) → HubStep h l
step_trans h k l a b = let c = b a.1 in (rises_trans h k l a.0 c.0, c.1)

-- ---- rows

no_row : (o p : Option Row) → RowsAgree o p → p ≡ None → o ≡ None
no_row o p agree none = by o (sym agree.there ∙ ap (λ (q : Option Row). is_some q) none)
  where
    by : (q : Option Row) → is_some q ≡ false → q ≡ None
    by None e = refl
    by (Some r) e = absurd (true≢false e)

some_row : (o : Option Row) → is_some o ≡ true → o ≡ None → ⊥
some_row None some none = absurd cc
some_row (Some r) some none = absurd cc

-- an entry that is no admission
step_entry : (h : Hub) (entry : Past) → ((key : Key) → RowsAgree (row h key) (row (enter entry h) key)) → HaveRows h → HubStep h (enter entry h)
step_entry h entry agree rows = (rises_itself h, λ key none. rows key (no_row (row h key) (row (enter entry h) key) (agree key) none))

-- ---- one session changes

pub step_at : (h : Hub) (key : Key) (s t : Session) → h.session key ≡ Some s → IsLater s.peer t.peer → HaveRows h → HubStep h (at_key key t h)
step_at h key s t is later rows = (rise, have)
  where
    rise : HubRises h (at_key key t h)
    rise other u there = by_bool (same_key key other) here elsewhere
      where
        here : same_key key other ≡ true → (x : Session) × (cond (same_key key other) (Some t) (h.session other) ≡ Some x) × IsLater u.peer x.peer
        here same =
            let both : s ≡ u = some_is (sym is ∙ ap h.session (same_key_is key other same) ∙ there) in
            (t, ap (λ (b : Bool). cond b (Some t) (h.session other)) same, subst (λ (x : Session). IsLater x.peer t.peer) both later)
          where
            some_is : {x y : Session} → ◌≡◌ {A = Option Session} (Some x) (Some y) → x ≡ y
            some_is e = cc

        elsewhere : same_key key other ≡ false → (x : Session) × (cond (same_key key other) (Some t) (h.session other) ≡ Some x) × IsLater u.peer x.peer
        elsewhere apart = (u, ap (λ (b : Bool). cond b (Some t) (h.session other)) apart ∙ there, later_refl u.peer)

    have : HaveRows (at_key key t h)
    have other none = by_bool (same_key key other)
        (λ same. absurd (some_none (sym is ∙ ap h.session (same_key_is key other same) ∙ rows other none)))
        (λ apart. ap (λ (b : Bool). cond b (Some t) (h.session other)) apart ∙ rows other none)
      where
        some_none : {x : Session} → ◌≡◌ {A = Option Session} (Some x) None → ⊥
        some_none e = absurd cc

-- a call of a session, where it is there
step_call : (o : Option Session) (h : Hub) (key : Key) (call : Session → Session) → SessionOnlyGrows call → h.session key ≡ o → HaveRows h
    → HubStep h (on_session o (λ (s : Session). at_key key (call s) h) h)
step_call None h key call grows is rows = step_itself h rows
step_call (Some s) h key call grows is rows = step_at h key s (call s) is (grows s) rows

-- ---- admissions

fourth : (a b c d : Bool) (p q r s : Reason) → first_that ((a, p) ∷ (b, q) ∷ (c, r) ∷ (d, s) ∷ []) ≡ None → d ≡ false
fourth true b c d p q r s none = absurd cc
fourth false true c d p q r s none = absurd cc
fourth false false true d p q r s none = absurd cc
fourth false false false true p q r s none = absurd cc
fourth false false false false p q r s none = refl

-- a new session is admitted only for a key without a row
pub fresh_row : (r : RegistryState) (ask : Request) (now : ℕ) → admission_refusal r ask now ≡ None → ask.reconnection ≡ false → row_of r (key_of ask) ≡ None
unfolding admission_refusal
fresh_row r ask now none fresh =
    no_some (row_of r (key_of ask))
    (sym (ap (λ (b : Bool). not b && is_some (row_of r (key_of ask))) fresh)
    ∙ fourth (is_none ask.kind) (ask.reconnection && not (is_known (row_of r) ask.token)) (ask.reconnection && not (can_reconnect r ask now))
    (not ask.reconnection && is_some (row_of r (key_of ask))) UnknownKind NeverSeen SeenBefore Duplicate none)
  where
    no_some : (o : Option Row) → is_some o ≡ false → o ≡ None
    no_some None e = refl
    no_some (Some x) e = absurd (true≢false e)

-- the row of an admission is there; the other rows were there before
admitted_rows : (h k : Hub) (ask : Request) (now : ℕ) → k.registry ≡ h.registry → (key : Key) → row (enter (admission_entry h.registry ask now) k) key ≡ None
    → (same_key (key_of ask) key ≡ false) × (row h key ≡ None)
admitted_rows h k ask now same key none = by_bool (same_key (key_of ask) key) here elsewhere
  where
    none_in : row_of (with_entry h.registry (admission_entry h.registry ask now)) key ≡ None
    none_in = ap (λ (r : RegistryState). row_of (with_entry r (admission_entry h.registry ask now)) key) (sym same) ∙ none

    here : same_key (key_of ask) key ≡ true → (same_key (key_of ask) key ≡ false) × (row h key ≡ None)
    here alike =
        absurd (some_row (row_of (with_entry h.registry (admission_entry h.registry ask now)) key)
        (subst (λ (q : Key). is_some (row_of (with_entry h.registry (admission_entry h.registry ask now)) q) ≡ true) (same_key_is (key_of ask) key alike)
        (own_entry h.registry (key_of ask) now _ ask.reconnection).1) none_in)

    elsewhere : same_key (key_of ask) key ≡ false → (same_key (key_of ask) key ≡ false) × (row h key ≡ None)
    elsewhere apart = (
      apart,
      no_row (row_of h.registry key) (row_of (with_entry h.registry (admission_entry h.registry ask now)) key)
          (other_entry_agrees h.registry (admission_entry h.registry ask now) key apart) none_in,
    )

step_admitted : (h : Hub) (ask : Request) (now : ℕ) → admission_refusal h.registry ask now ≡ None → HaveRows h → HubStep h (admitted ask now h)
unfolding admitted
step_admitted h ask now none rows = by ask.reconnection refl
  where
    by : (b : Bool) → ask.reconnection ≡ b
        → HubStep h (enter (admission_entry h.registry ask now) (cond b h (at_key (key_of ask) (serving (key_of ask).kind now) h)))
    by true claims = (rises_itself h, λ key gone. rows key (admitted_rows h h ask now refl key gone).1)
    by false fresh = (rise, have)
      where
        new : Session
        new = serving (key_of ask).kind now

        unknown : h.session (key_of ask) ≡ None
        unknown = rows (key_of ask) (fresh_row h.registry ask now none fresh)

        rise : HubRises h (enter (admission_entry h.registry ask now) (at_key (key_of ask) new h))
        rise key s is = by_bool (same_key (key_of ask) key)
            (λ alike. absurd (none_some (sym unknown ∙ ap h.session (same_key_is (key_of ask) key alike) ∙ is)))
            (λ apart. (s, ap (λ (b : Bool). cond b (Some new) (h.session key)) apart ∙ is, later_refl s.peer))
          where
            none_some : {x : Session} → ◌≡◌ {A = Option Session} None (Some x) → ⊥
            none_some e = absurd cc

        have : HaveRows (enter (admission_entry h.registry ask now) (at_key (key_of ask) new h))
        have key gone =
            let was = admitted_rows h (at_key (key_of ask) new h) ask now refl key gone in
            ap (λ (b : Bool). cond b (Some new) (h.session key)) was.0 ∙ rows key was.1

step_judged : (o : Option Reason) (ask : Request) (now : ℕ) (h : Hub) → admission_refusal h.registry ask now ≡ o → HaveRows h → HubStep h (judged_by o ask now h)
unfolding refused
step_judged None ask now h none rows = step_admitted h ask now none rows
step_judged (Some reason) ask now h none rows =
    step_entry h (refusal_entry ask now reason) (λ key. entry_agrees h.registry (refusal_entry ask now reason) key tt) rows

-- ---- any event

step_lost : (o : Option Session) (seat : Seat) (now : ℕ) (h : Hub) → h.session seat.key ≡ o → HaveRows h
    → HubStep h (on_session o (λ (s : Session). seat_lost seat now s h) h)
unfolding seat_lost
step_lost None seat now h is rows = step_itself h rows
step_lost (Some s) seat now h is rows =
    let k = at_key seat.key (lose_session seat.epoch s) h in
    step_trans h k (enter _ k) (step_at h seat.key s (lose_session seat.epoch s) is (rises_lose seat.epoch s) rows)
    (λ more. step_entry k _ (λ key. entry_agrees k.registry _ key tt) more)

step_closed : (o : Option Session) (seat : Seat) (cause : Cause) (now : ℕ) (h : Hub) → h.session seat.key ≡ o → HaveRows h
    → HubStep h (on_session o (λ (s : Session). seat_closed seat cause now s h) h)
unfolding seat_closed
step_closed None seat cause now h is rows = step_itself h rows
step_closed (Some s) seat cause now h is rows = by (closes seat.epoch (row h seat.key))
  where
    by : (b : Bool) → HubStep h (enter (entry_of seat.key now (Closed seat.epoch cause)) (cond b (at_key seat.key (end_session cause s) h) h))
    by true =
        let k = at_key seat.key (end_session cause s) h in
        step_trans h k (enter (entry_of seat.key now (Closed seat.epoch cause)) k) (step_at h seat.key s (end_session cause s) is (rises_end cause s) rows)
        (λ more. step_entry k (entry_of seat.key now (Closed seat.epoch cause)) (λ key. entry_agrees k.registry (entry_of seat.key now (Closed seat.epoch cause)) key tt) more)
    by false = step_entry h (entry_of seat.key now (Closed seat.epoch cause)) (λ key. entry_agrees h.registry (entry_of seat.key now (Closed seat.epoch cause)) key tt) rows

pub step_event : (e : HubEvent) (h : Hub) → HaveRows h → HubStep h (event_done e h)
unfolding event_done
step_event (Admit ask now) h rows = step_judged (admission_refusal h.registry ask now) ask now h refl rows
step_event (Attach seat chunk now) h rows = step_call (h.session seat.key) h seat.key (attach seat.epoch chunk now) (rises_attach seat.epoch chunk now) refl rows
step_event (Turn seat piece now) h rows = step_call (h.session seat.key) h seat.key (turn seat.epoch piece now) (rises_turn seat.epoch piece now) refl rows
step_event (Lose seat now) h rows = step_lost (h.session seat.key) seat now h refl rows
step_event (Close seat cause now) h rows = step_closed (h.session seat.key) seat cause now h refl rows

pub step_events : (es : List HubEvent) (h : Hub) → HaveRows h → HubStep h (events_done es h)
step_events [] h rows = step_itself h rows
step_events (e ∷ es) h rows = step_trans h (event_done e h) (events_done es (event_done e h)) (step_event e h rows) (λ more. step_events es (event_done e h) more)

pub step_left : (o : Option Seat) (now : ℕ) (h : Hub) → HaveRows h → HubStep h (hub_left o now h)
step_left None now h rows = step_itself h rows
step_left (Some seat) now h rows = step_event (Lose seat now) h rows

-- ---- sweeps

later_if : (b : Bool) (o s t : Session) → IsLater o.peer s.peer → IsLater o.peer t.peer → IsLater o.peer (cond b s t).peer
later_if true o s t so other = so
later_if false o s t so other = other

later_swept : (over left : Bool) (now : ℕ) (s : Session) → IsLater s.peer (swept over left now s).peer
later_swept over left now s =
    later_if over s (end_session GraceOver s) (cond left s (tick_one now s)) (rises_end GraceOver s)
    (later_if left s s (tick_one now s) (later_refl s.peer)
    (later_if (is_some (tick_refusal now s)) s s (tick_session now s) (later_refl s.peer) (rises_tick now s)))

pub step_swept : (now : ℕ) (keys left : List Key) (h : Hub) → HaveRows h → HubStep h (swept_hub now keys left h)
step_swept now keys left h rows = (rise, have)
  where
    sweep : Key → Session → Session
    sweep key = swept (grace_is_over h now key) (list_any (same_key key) left) now

    rise : HubRises h (swept_hub now keys left h)
    rise key s is = (sweep key s, ap (λ (o : Option Session). option_map (sweep key) o) is, later_swept (grace_is_over h now key) (list_any (same_key key) left) now s)

    have : HaveRows (swept_hub now keys left h)
    have key none =
        ap (λ (o : Option Session). option_map (sweep key) o)
        (rows key (no_row (row h key) (row (swept_hub now keys left h) key) (expiries_agree now keys h.registry key) none))

pub step_missed : (key : Key) (now : ℕ) (h : Hub) → HaveRows h → HubStep h (missed key now h)
unfolding missed
step_missed key now h rows = step_entry h _ (λ other. entry_agrees h.registry _ other tt) rows
