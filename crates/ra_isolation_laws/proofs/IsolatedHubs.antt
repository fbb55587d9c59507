-- Two hubs that agree on one key: the calls that are about it leave them so, and the calls that are about other keys leave it as it is.
use Rattle.std.proofs.Common.{◌≡◌, ℕ, Bool, true, false, not, cond, ◌&&◌, ◌||◌, Option, Some, None, option_map, is_some, List, [], ◌∷◌, refl, ap, sym, ◌∙◌, subst}
use Rattle.std.specs.Option.{is_none}
use Rattle.ra_base.specs.Outcome.{first_that}
use Rattle.ra_base.specs.declared.handshake.Reason.{Reason}
use Rattle.ra_base.specs.declared.handshake.Reason.TheVariants.{UnknownKind, NeverSeen, SeenBefore, Duplicate}
use Rattle.ra_base.specs.declared.handshake.Request.{Request}
use Rattle.ra_base.specs.declared.key.Cause.{Cause}
use Rattle.ra_base.specs.declared.key.Key.{Key}
use Rattle.ra_base.specs.declared.key.Seat.{Seat}
use Rattle.ra_base.specs.declared.kind.Kind.{Kind}
use Rattle.ra_base.specs.declared.kind.Kind.TheVariants.{Management, ExtensionHost, Tunnel}
use Rattle.ra_registry.specs.declared.past.Did.TheVariants.{Admitted, Refused, Lost, Closed, Missed}
use Rattle.ra_registry.specs.declared.past.Past.{Past}
use Rattle.ra_registry.specs.declared.row.Row.{Row}
use Rattle.ra_registry.specs.Admission.{key_of, is_known, is_live_row, next_epoch, entry_for, admission_entry, refusal_entry, admission_refusal, seat_for}
use Rattle.ra_registry.specs.RegistryStates.{RegistryState}
use Rattle.ra_registry.specs.RowChanges.{shorten}
use Rattle.ra_registry.specs.Rows.{same_key, own_change, other_change, change, row_of}
use Rattle.ra_registry.proofs.HistoryRows.{row_of-push, change_is, refusal_shortens}
use Rattle.ra_session.specs.Saying.{serving}
use Rattle.ra_session.specs.SessionCalls.{attach, lose_session, end_session}
use Rattle.ra_session.specs.Sessions.{Session}
use Rattle.ra_session.specs.Turns.{turn}
use Rattle.ra_hub.specs.Hubs.{Hub, row, enter, entry_of, at_key, admitted, refused, missed, seat_lost, seat_closed, closes}
use Rattle.ra_hub.specs.OtherSessions.{IsSame}
use Rattle.ra_hub.proofs.OthersLemmas.{others_called, others_lost, others_closed}
use Rattle.ra_link_core.specs.HubEvents.{judged_by, on_session, event_done}
use Rattle.ra_link_core.specs.HubEvents.HubEvent.{Admit, Attach, Turn, Lose, Close}
use Rattle.ra_link_core.specs.LinkRuns.{hub_left}

-- a registry without its history
abbrev pub bare : RegistryState → RegistryState
bare r = record r { history = [] }

-- the session and the row of this key are the same, and so are the grace times
pub record Agree (key : Key) (h k : Hub) : Type 0 where
  pub session : h.session key ≡ k.session key
  pub row_is : row h key ≡ row k key
  pub times : bare h.registry ≡ bare k.registry

pub agree_itself : (key : Key) (h : Hub) → Agree key h h
agree_itself key h = record { session = refl; row_is = refl; times = refl }

pub agree_trans : (key : Key) (h k l : Hub) → Agree key h k → Agree key k l → Agree key h l
agree_trans key h k l a b = record { session = a.session ∙ b.session; row_is = a.row_is ∙ b.row_is; times = a.times ∙ b.times }

-- ---- calls about the key

pub agree_enter : (e : Past) (key : Key) (h k : Hub) → Agree key h k → Agree key (enter e h) (enter e k)
agree_enter e key h k agree = record {
  session = agree.session;
  row_is = row_of-push h.registry e key ∙ ap (λ (o : Option Row). change key o e) agree.row_is ∙ sym (row_of-push k.registry e key);
  times = agree.times;
}

pub agree_at : (key : Key) (s : Session) (h k : Hub) → Agree key h k → Agree key (at_key key s h) (at_key key s k)
agree_at key s h k agree = record {
  session = ap (λ (o : Option Session). cond (same_key key key) (Some s) o) agree.session;
  row_is = agree.row_is;
  times = agree.times;
}

agree_on : (o : Option Session) (f : Session → Hub → Hub) (key : Key) (h k : Hub) → ((s : Session) → Agree key (f s h) (f s k)) → Agree key h k
    → Agree key (on_session o (λ (s : Session). f s h) h) (on_session o (λ (s : Session). f s k) k)
agree_on None f key h k each agree = agree
agree_on (Some s) f key h k each agree = each s

agree_by : (f : Session → Hub → Hub) (key : Key) (h k : Hub) → ((s : Session) → Agree key (f s h) (f s k)) → Agree key h k
    → Agree key (on_session (h.session key) (λ (s : Session). f s h) h) (on_session (k.session key) (λ (s : Session). f s k) k)
agree_by f key h k each agree =
    subst (λ (o : Option Session). Agree key (on_session (h.session key) (λ (s : Session). f s h) h) (on_session o (λ (s : Session). f s k) k)) agree.session
    (agree_on (h.session key) f key h k each agree)

agree_lost : (seat : Seat) (now : ℕ) (s : Session) (h k : Hub) → Agree seat.key h k → Agree seat.key (seat_lost seat now s h) (seat_lost seat now s k)
unfolding seat_lost
agree_lost seat now s h k agree =
    agree_enter (entry_of seat.key now (Lost seat.epoch)) seat.key (at_key seat.key (lose_session seat.epoch s) h) (at_key seat.key (lose_session seat.epoch s) k)
    (agree_at seat.key (lose_session seat.epoch s) h k agree)

-- both end, or none does
agree_if : (b c : Bool) (key : Key) (s : Session) (h k : Hub) → b ≡ c → Agree key h k → Agree key (cond b (at_key key s h) h) (cond c (at_key key s k) k)
agree_if true true key s h k same agree = agree_at key s h k agree
agree_if true false key s h k same agree = absurd cc
agree_if false true key s h k same agree = absurd cc
agree_if false false key s h k same agree = agree

agree_closed : (seat : Seat) (cause : Cause) (now : ℕ) (s : Session) (h k : Hub) → Agree seat.key h k → Agree seat.key (seat_closed seat cause now s h) (seat_closed seat cause now s k)
unfolding seat_closed
agree_closed seat cause now s h k agree =
    agree_enter (entry_of seat.key now (Closed seat.epoch cause)) seat.key
    (cond (closes seat.epoch (row h seat.key)) (at_key seat.key (end_session cause s) h) h)
    (cond (closes seat.epoch (row k seat.key)) (at_key seat.key (end_session cause s) k) k)
    (agree_if (closes seat.epoch (row h seat.key)) (closes seat.epoch (row k seat.key)) seat.key (end_session cause s) h k
    (ap (λ (o : Option Row). closes seat.epoch o) agree.row_is) agree)

-- ---- requests for the key

-- the reasons by the grace times, by whether the token is known, and by the row that is asked for
abbrev reason_by : Request → ℕ → Bool → (long short : ℕ) → Bool → Option Row → Option Reason
reason_by ask now reconnection long short known own = first_that (
    (is_none ask.kind, UnknownKind)
    ∷ (reconnection && not known, NeverSeen)
    ∷ (reconnection && not (is_live_row long short (option_map (shorten now) own) now), SeenBefore)
    ∷ (not reconnection && is_some own, Duplicate)
    ∷ [])

-- the token of a row that is there is known
known_kind : (rows : Key → Option Row) (token : List ℕ) (kind : Kind) → is_some (rows (record { kind = kind; token = token })) ≡ true → is_known rows token ≡ true
known_kind rows token Management there = ap (λ (b : Bool). b || (is_some (rows (record { kind = ExtensionHost; token = token })) || (is_some (rows (record { kind = Tunnel; token = token })) || false))) there
known_kind rows token ExtensionHost there =
    second (is_some (rows (record { kind = Management; token = token }))) _ (is_some (rows (record { kind = Tunnel; token = token })) || false) there
  where
    second : (a b c : Bool) → b ≡ true → (a || (b || c)) ≡ true
    second true b c is = refl
    second false true c is = refl
    second false false c is = absurd cc
known_kind rows token Tunnel there =
    third (is_some (rows (record { kind = Management; token = token }))) (is_some (rows (record { kind = ExtensionHost; token = token }))) _ there
  where
    third : (a b c : Bool) → c ≡ true → (a || (b || (c || false))) ≡ true
    third true b c is = refl
    third false true c is = refl
    third false false true is = refl
    third false false false is = absurd cc

reasons_alike : (ask : Request) (now : ℕ) (r : Bool) (long short : ℕ) (a b : Bool) (own : Option Row) → (r ≡ true → a ≡ true) → (r ≡ true → b ≡ true)
    → reason_by ask now r long short a own ≡ reason_by ask now r long short b own
reasons_alike ask now true long short a b own one other =
    ap (λ (x : Bool). reason_by ask now true long short x own) (one refl ∙ sym (other refl))
reasons_alike ask now false long short a b own one other = refl

-- The answer is the same. A reconnection is only asked for where the row is there.
pub same_answer : (ask : Request) (now : ℕ) (h k : Hub) → Agree (key_of ask) h k → (ask.reconnection ≡ true → is_some (row h (key_of ask)) ≡ true)
    → admission_refusal h.registry ask now ≡ admission_refusal k.registry ask now
unfolding admission_refusal
same_answer ask now h k agree there =
    let knows : (g : Hub) → is_some (row g (key_of ask)) ≡ true → is_known (row_of g.registry) ask.token ≡ true =
    λ g some. known_kind (row_of g.registry) ask.token (key_of ask).kind some in
    reasons_alike ask now ask.reconnection h.registry.long_grace h.registry.short_grace (is_known (row_of h.registry) ask.token) (is_known (row_of k.registry) ask.token)
    (row h (key_of ask)) (λ so. knows h (there so)) (λ so. knows k (ap (λ (o : Option Row). is_some o) (sym agree.row_is) ∙ there so))
    ∙ ap (λ (r : RegistryState). reason_by ask now ask.reconnection r.long_grace r.short_grace (is_known (row_of k.registry) ask.token) (row h (key_of ask))) agree.times
    ∙ ap (λ (o : Option Row). reason_by ask now ask.reconnection k.registry.long_grace k.registry.short_grace (is_known (row_of k.registry) ask.token) o) agree.row_is

pub same_seat : (ask : Request) (h k : Hub) → Agree (key_of ask) h k → seat_for h.registry ask ≡ seat_for k.registry ask
same_seat ask h k agree = ap with_row agree.row_is
  where
    with_row : Option Row → Seat
    with_row o = record { key = key_of ask; epoch = next_epoch o }

agree_new : (b : Bool) (key : Key) (s : Session) (h k : Hub) → Agree key h k → Agree key (cond b h (at_key key s h)) (cond b k (at_key key s k))
agree_new true key s h k agree = agree
agree_new false key s h k agree = agree_at key s h k agree

agree_admitted : (ask : Request) (now : ℕ) (h k : Hub) → Agree (key_of ask) h k → Agree (key_of ask) (admitted ask now h) (admitted ask now k)
unfolding admitted
agree_admitted ask now h k agree =
    let new : Hub → Hub = λ g. cond ask.reconnection g (at_key (key_of ask) (serving (key_of ask).kind now) g) in
    subst (λ (e : Past). Agree (key_of ask) (enter (admission_entry h.registry ask now) (new h)) (enter e (new k)))
    (ap (λ (o : Option Row). entry_for ask now (Admitted (next_epoch o) ask.reconnection)) agree.row_is)
    (agree_enter (admission_entry h.registry ask now) (key_of ask) (new h) (new k)
    (agree_new ask.reconnection (key_of ask) (serving (key_of ask).kind now) h k agree))

agree_refused : (ask : Request) (now : ℕ) (reason : Reason) (h k : Hub) → Agree (key_of ask) h k → Agree (key_of ask) (refused ask now reason h) (refused ask now reason k)
unfolding refused
agree_refused ask now reason h k agree = agree_enter (refusal_entry ask now reason) (key_of ask) h k agree

agree_judged : (o : Option Reason) (ask : Request) (now : ℕ) (h k : Hub) → Agree (key_of ask) h k → Agree (key_of ask) (judged_by o ask now h) (judged_by o ask now k)
agree_judged None ask now h k agree = agree_admitted ask now h k agree
agree_judged (Some reason) ask now h k agree = agree_refused ask now reason h k agree

-- ---- events about the key

pub agree_admit : (ask : Request) (now : ℕ) (h k : Hub) → Agree (key_of ask) h k → (ask.reconnection ≡ true → is_some (row h (key_of ask)) ≡ true)
    → Agree (key_of ask) (event_done (Admit ask now) h) (event_done (Admit ask now) k)
unfolding event_done
agree_admit ask now h k agree there =
    subst (λ (o : Option Reason). Agree (key_of ask) (judged_by (admission_refusal h.registry ask now) ask now h) (judged_by o ask now k)) (same_answer ask now h k agree there)
    (agree_judged (admission_refusal h.registry ask now) ask now h k agree)

pub agree_attach : (seat : Seat) (chunk : List ℕ) (now : ℕ) (h k : Hub) → Agree seat.key h k → Agree seat.key (event_done (Attach seat chunk now) h) (event_done (Attach seat chunk now) k)
unfolding event_done
agree_attach seat chunk now h k agree =
    agree_by (λ (s : Session) (g : Hub). at_key seat.key (attach seat.epoch chunk now s) g) seat.key h k (λ s. agree_at seat.key (attach seat.epoch chunk now s) h k agree) agree

pub agree_turn : (seat : Seat) (piece : List ℕ) (now : ℕ) (h k : Hub) → Agree seat.key h k → Agree seat.key (event_done (Turn seat piece now) h) (event_done (Turn seat piece now) k)
unfolding event_done
agree_turn seat piece now h k agree =
    agree_by (λ (s : Session) (g : Hub). at_key seat.key (turn seat.epoch piece now s) g) seat.key h k (λ s. agree_at seat.key (turn seat.epoch piece now s) h k agree) agree

pub agree_close : (seat : Seat) (cause : Cause) (now : ℕ) (h k : Hub) → Agree seat.key h k → Agree seat.key (event_done (Close seat cause now) h) (event_done (Close seat cause now) k)
unfolding event_done
agree_close seat cause now h k agree =
    agree_by (λ (s : Session) (g : Hub). seat_closed seat cause now s g) seat.key h k (λ s. agree_closed seat cause now s h k agree) agree

agree_lose : (seat : Seat) (now : ℕ) (h k : Hub) → Agree seat.key h k → Agree seat.key (event_done (Lose seat now) h) (event_done (Lose seat now) k)
unfolding event_done
agree_lose seat now h k agree =
    agree_by (λ (s : Session) (g : Hub). seat_lost seat now s g) seat.key h k (λ s. agree_lost seat now s h k agree) agree

-- the seat, where there is one, is of this key
abbrev pub IsOf : Key → Option Seat → Type 0
IsOf key None = Unit {0}
IsOf key (Some seat) = seat.key ≡ key

pub agree_left : (key : Key) (o : Option Seat) (now : ℕ) (h k : Hub) → IsOf key o → Agree key h k → Agree key (hub_left o now h) (hub_left o now k)
agree_left key None now h k is agree = agree
agree_left key (Some seat) now h k is agree =
    subst (λ (q : Key). Agree q (event_done (Lose seat now) h) (event_done (Lose seat now) k)) is
    (agree_lose seat now h k (subst (λ (q : Key). Agree q h k) (sym is) agree))

-- ---- events about others

-- a hub that is the same for the key, from its session, its row and its grace times
agree_same : (key : Key) (h k : Hub) → IsSame h k key → bare k.registry ≡ bare h.registry → Agree key k h
agree_same key h k same times = record { session = same.session; row_is = same.row_is; times = times }

other_on : (o : Option Session) (f : Session → Hub) (key : Key) (h : Hub) → ((s : Session) → Agree key (f s) h) → Agree key (on_session o f h) h
other_on None f key h each = agree_itself key h
other_on (Some s) f key h each = each s

closed_times : (seat : Seat) (cause : Cause) (now : ℕ) (s : Session) (h : Hub) → bare (seat_closed seat cause now s h).registry ≡ bare h.registry
unfolding seat_closed
closed_times seat cause now s h = by (closes seat.epoch (row h seat.key))
  where
    by : (b : Bool) → bare (cond b (at_key seat.key (end_session cause s) h) h).registry ≡ bare h.registry
    by true = refl
    by false = refl

lost_times : (seat : Seat) (now : ℕ) (s : Session) (h : Hub) → bare (seat_lost seat now s h).registry ≡ bare h.registry
unfolding seat_lost
lost_times seat now s h = refl

pub other_attach : (key : Key) (seat : Seat) (chunk : List ℕ) (now : ℕ) (h : Hub) → same_key seat.key key ≡ false → Agree key (event_done (Attach seat chunk now) h) h
unfolding event_done
other_attach key seat chunk now h apart =
    other_on (h.session seat.key) _ key h (λ s. agree_same key h (at_key seat.key (attach seat.epoch chunk now s) h) (others_called h seat.key (attach seat.epoch chunk now s) key apart) refl)

pub other_turn : (key : Key) (seat : Seat) (piece : List ℕ) (now : ℕ) (h : Hub) → same_key seat.key key ≡ false → Agree key (event_done (Turn seat piece now) h) h
unfolding event_done
other_turn key seat piece now h apart =
    other_on (h.session seat.key) _ key h (λ s. agree_same key h (at_key seat.key (turn seat.epoch piece now s) h) (others_called h seat.key (turn seat.epoch piece now s) key apart) refl)

pub other_close : (key : Key) (seat : Seat) (cause : Cause) (now : ℕ) (h : Hub) → same_key seat.key key ≡ false → Agree key (event_done (Close seat cause now) h) h
unfolding event_done
other_close key seat cause now h apart =
    other_on (h.session seat.key) _ key h (λ s. agree_same key h (seat_closed seat cause now s h) (others_closed h seat cause now s key apart) (closed_times seat cause now s h))

other_lose : (key : Key) (seat : Seat) (now : ℕ) (h : Hub) → same_key seat.key key ≡ false → Agree key (event_done (Lose seat now) h) h
unfolding event_done
other_lose key seat now h apart =
    other_on (h.session seat.key) _ key h (λ s. agree_same key h (seat_lost seat now s h) (others_lost h seat now s key apart) (lost_times seat now s h))

pub other_left : (key other : Key) (o : Option Seat) (now : ℕ) (h : Hub) → IsOf other o → same_key other key ≡ false → Agree key (hub_left o now h) h
other_left key other None now h is apart = agree_itself key h
other_left key other (Some seat) now h is apart = other_lose key seat now h (ap (λ (q : Key). same_key q key) is ∙ apart)

pub other_at : (key other : Key) (s : Session) (h : Hub) → same_key other key ≡ false → Agree key (at_key other s h) h
other_at key other s h apart = agree_same key h (at_key other s h) (others_called h other s key apart) refl

pub other_missed : (key other : Key) (now : ℕ) (h : Hub) → same_key other key ≡ false → Agree key (missed other now h) h
unfolding missed
other_missed key other now h apart =
    agree_same key h (enter (entry_of other now Missed) h) (record { session = refl; row_is = entered_other h (entry_of other now Missed) key apart }) refl
  where
    entered_other : (g : Hub) (e : Past) (k : Key) → same_key e.key k ≡ false → row (enter e g) k ≡ other_change e.at e.did (row g k)
    entered_other g e k not = row_of-push g.registry e k ∙ change_is k (row g k) e ∙ ap (λ (b : Bool). cond b (own_change e.at e.did (row g k)) (other_change e.at e.did (row g k))) not

-- ---- requests of others

-- the row of the key is shortened, and all else of it stays
pub record Shortens (key : Key) (now : ℕ) (h k : Hub) : Type 0 where
  pub session : k.session key ≡ h.session key
  pub row_is : row k key ≡ option_map (shorten now) (row h key)
  pub times : bare k.registry ≡ bare h.registry

entered : (h : Hub) (entry : Past) (key : Key) → same_key entry.key key ≡ false → row (enter entry h) key ≡ other_change entry.at entry.did (row h key)
entered h entry key apart =
    row_of-push h.registry entry key ∙ change_is key (row h key) entry
    ∙ ap (λ (b : Bool). cond b (own_change entry.at entry.did (row h key)) (other_change entry.at entry.did (row h key))) apart

judged_admitted : (key : Key) (ask : Request) (now : ℕ) (h : Hub) → same_key (key_of ask) key ≡ false → Shortens key now h (admitted ask now h)
unfolding admitted
judged_admitted key ask now h apart = by ask.reconnection
  where
    new : Session
    new = serving (key_of ask).kind now

    by : (b : Bool) → Shortens key now h (enter (admission_entry h.registry ask now) (cond b h (at_key (key_of ask) new h)))
    by true = record { session = refl; row_is = entered h (admission_entry h.registry ask now) key apart; times = refl }
    by false = record {
      session = ap (λ (b : Bool). cond b (Some new) (h.session key)) apart;
      row_is = entered h (admission_entry h.registry ask now) key apart;
      times = refl;
    }

judged_refused : (key : Key) (ask : Request) (now : ℕ) (reason : Reason) (h : Hub) → same_key (key_of ask) key ≡ false → Shortens key now h (refused ask now reason h)
unfolding refused
judged_refused key ask now reason h apart = record { session = refl; row_is = entered h (refusal_entry ask now reason) key apart; times = refl }

judged : (o : Option Reason) (key : Key) (ask : Request) (now : ℕ) (h : Hub) → same_key (key_of ask) key ≡ false → Shortens key now h (judged_by o ask now h)
judged None key ask now h apart = judged_admitted key ask now h apart
judged (Some reason) key ask now h apart = judged_refused key ask now reason h apart

pub other_admit : (key : Key) (ask : Request) (now : ℕ) (h : Hub) → same_key (key_of ask) key ≡ false → Shortens key now h (event_done (Admit ask now) h)
unfolding event_done
other_admit key ask now h apart = judged (admission_refusal h.registry ask now) key ask now h apart

-- an entry of the key that is a refused request shortens its row too
pub own_shortens : (key : Key) (now : ℕ) (kind : Option Kind) (reconnection : Bool) (reason : Reason) (h : Hub)
    → Shortens key now h (enter (entry_of key now (Refused kind reconnection reason)) h)
own_shortens key now kind reconnection reason h = record {
  session = refl;
  row_is = row_of-push h.registry (entry_of key now (Refused kind reconnection reason)) key ∙ refusal_shortens key (row h key) key now kind reconnection reason;
  times = refl;
}

-- two hubs that agree still do where both are shortened
pub agree_shortened : (key : Key) (now : ℕ) (h k g l : Hub) → Agree key h k → Shortens key now h g → Shortens key now k l → Agree key g l
agree_shortened key now h k g l agree one other = record {
  session = one.session ∙ agree.session ∙ sym other.session;
  row_is = one.row_is ∙ ap (λ (o : Option Row). option_map (shorten now) o) agree.row_is ∙ sym other.row_is;
  times = one.times ∙ agree.times ∙ sym other.times;
}
