-- The turns of a link that has its seat, call by call: behind each turn that was made and written the link may be left, and behind a close.
use Rattle.std.proofs.Common.{◌≡◌, inl, inr, ℕ, zero, suc, true, false, if◌then◌else◌, Option, Some, None, List, [], ◌++◌, length, refl, ap, sym, ◌∙◌, subst, append-nil}
use Rattle.std.specs.Prelude.{Bool}
use Rattle.std.proofs.lemmas.Bool.{false≢true, cond_both}
use Rattle.ra_base.specs.declared.key.Cause.{Cause}
use Rattle.ra_base.specs.declared.key.Cause.TheVariants.{BadIpc}
use Rattle.ra_base.specs.declared.key.Seat.{Seat}
use Rattle.ra_session.specs.Hearing.{BadMessage}
use Rattle.ra_session.specs.SessionCalls.{end_session}
use Rattle.ra_session.specs.SessionRefusals.{Refusal, ended, stale, no_link, too_long, bad_ipc, too_large, ids_spent, no_such_call, wrong_kind, feed_refusal}
use Rattle.ra_session.specs.Sessions.{Session}
use Rattle.ra_session.specs.TurnRefusals.{turn_refusal}
use Rattle.ra_session.specs.Turns.{TurnAnswer, turn, turn_answer}
use Rattle.ra_hub.specs.Hubs.{Hub, row, closes as row_closes}
use Rattle.ra_link_core.specs.HubEvents.{HubEvent, event_bytes, session_bytes, turn_bytes}
use Rattle.ra_link_core.specs.HubEvents.HubEvent.{Turn, Close}
use Rattle.ra_link_core.specs.LinkRuns.{End, refused_by, Serving, writes, does, closes, ends_by, Turned, stops, turn_by, turn_ended, turn_in, turned, turned_again, served}
use Rattle.ra_link_core.specs.Makes.{Writes}
use Rattle.ra_link_core.proofs.GrowLemmas.{writes_same, writes_refl}
use Rattle.ra_grand_runs.specs.ServedLinks.{left}
use Rattle.ra_link_laws.proofs.HubMoves.{IsOwn, turned_hub}
use Rattle.ra_link_laws.proofs.SeatTurns.{TurnStands, Comes, follows_piece, made_admits, bad_admits, made_going, spoiled_going, turned_stands, comes_nothing}
use Rattle.ra_link_laws.proofs.ServedFocus.{Ground}
use Rattle.ra_link_laws.proofs.ServedRuns.{link_after, Going, stands_going, ends_so, closes_so}
use Rattle.ra_link_laws.proofs.ServedTurns.{seat_at, Welcomed, welcomed_at}
use Rattle.ra_grand_laws.proofs.ShortRuns.{Stop, Stops, MayLeave, stops_trans, stops_none, stops_one, writes_call, one_more, closed_session, may_left}
use Rattle.ra_grand_laws.proofs.ShortSessions.{IsOff, ends_off, turn_off, turn_near}

-- ---- a link that goes on is left

pub stop_at : (g : Ground) (h : Hub) (draw : ℕ → List ℕ) (bytes piece after : List ℕ) (now epoch j : ℕ) (s : Serving) → Comes g h draw bytes piece after epoch j s → MayLeave g epoch s
    → Stop g h draw after now s
stop_at g h draw bytes piece after now epoch j s c may =
    let gone : Going g h draw after true (left now (ends_by (refused_by no_link) s)) =
    ends_so g h draw now s (refused_by no_link) bytes piece after c.going (subst (λ (o : Option Seat). IsOwn g.owner o) (sym c.seat) refl) c.grows
    (follows_piece g h draw bytes piece after epoch j s c) in
    record {
      going = record { focus = gone.focus; others = gone.others; front = gone.front };
      may = may_left g h draw bytes now epoch s c.going c.seat may;
    }

pub stop_on : (g : Ground) (h : Hub) (draw : ℕ → List ℕ) (bytes : List ℕ) (now epoch : ℕ) (s : Serving) → Going g h draw bytes false s → s.end ≡ None → s.seat ≡ Some (seat_at g.owner epoch)
    → MayLeave g epoch s → Stop g h draw bytes now s
stop_on g h draw bytes now epoch s going goes seat may = stop_at g h draw bytes [] bytes now epoch 0 s (comes_nothing g h draw bytes epoch s going goes seat) may

-- ---- what is written for a call

turn_writes : (g : Ground) (epoch : ℕ) (piece : List ℕ) (now : ℕ) (h : Hub) (x : Session) → h.session g.owner ≡ Some x
    → event_bytes (Turn (seat_at g.owner epoch) piece now) h ≡ turn_bytes (turn_refusal epoch piece now x) (turn_answer epoch piece now x)
unfolding event_bytes
turn_writes g epoch piece now h x is = ap (λ (o : Option Session). session_bytes o (seat_at g.owner epoch) piece now) is

close_writes : (seat : Seat) (cause : Cause) (now : ℕ) (h : Hub) → event_bytes (Close seat cause now) h ≡ []
unfolding event_bytes
close_writes seat cause now h = refl

pub nothing_written : (out more : List ℕ) → more ≡ [] → out ≡ out ++ more
nothing_written out more none = sym (append-nil out) ∙ ap (λ (t : List ℕ). out ++ t) (sym none)

-- the turn that was made, and what it writes
turn_call : (g : Ground) (epoch : ℕ) (piece : List ℕ) (now : ℕ) (s : Serving) (x : Session) (refusal : Option Refusal) → s.hub.session g.owner ≡ Some x → turn_refusal epoch piece now x ≡ refusal
    → Writes s (writes (turn_bytes refusal (turn_answer epoch piece now x)) (does (Turn (seat_at g.owner epoch) piece now) s))
turn_call g epoch piece now s x refusal here is =
    let answer : TurnAnswer = turn_answer epoch piece now x in
    writes_call s (Turn (seat_at g.owner epoch) piece now) (s.out ++ turn_bytes refusal answer) s.seat s.welcome s.end refl
    (ap (λ (t : List ℕ). s.out ++ t) (sym (turn_writes g epoch piece now s.hub x here ∙ ap (λ (r : Option Refusal). turn_bytes r answer) is)))

-- ---- the link behind a turn

-- where it goes on, its session is beside it
pub record TurnStops (g : Ground) (h : Hub) (draw : ℕ → List ℕ) (bytes : List ℕ) (now epoch : ℕ) (s : Serving) (t : Turned) : Type 0 where
  pub stops : Stops g h draw bytes now s t.after
  pub goes : t.again ≡ true → MayLeave g epoch t.after

waits : (g : Ground) (h : Hub) (draw : ℕ → List ℕ) (bytes piece after : List ℕ) (now epoch j : ℕ) (s u : Serving) → Comes g h draw bytes piece after epoch j s → MayLeave g epoch s → Writes s u
    → u.welcome ≡ s.welcome → u.events ≡ s.events → TurnStops g h draw after now epoch s (stops u)
waits g h draw bytes piece after now epoch j s u c may writes welcome same = record {
  stops = stops_none g h draw after now s u writes welcome (ap (λ (l : List HubEvent). length l) same) (stop_at g h draw bytes piece after now epoch j s c may);
  goes = λ again. absurd (false≢true again);
}

-- a turn that is made
record Made (g : Ground) (h : Hub) (draw : ℕ → List ℕ) (bytes : List ℕ) (now epoch : ℕ) (s t : Serving) (x : Session) : Type 0 where
  going : Going g h draw bytes false t
  goes : t.end ≡ None
  seat : t.seat ≡ Some (seat_at g.owner epoch)
  known : t.hub.session g.owner ≡ Some x
  may : MayLeave g epoch t
  stop : Stop g h draw bytes now t
  stops : Stops g h draw bytes now s t

made : (g : Ground) (h : Hub) (draw : ℕ → List ℕ) (bytes piece after : List ℕ) (now epoch j : ℕ) (s : Serving) (x : Session) → s.hub.session g.owner ≡ Some x → turn_refusal epoch piece now x ≡ None
    → Comes g h draw bytes piece after epoch j s → MayLeave g epoch s
    → Made g h draw after now epoch s (writes (turn_answer epoch piece now x).out (does (Turn (seat_at g.owner epoch) piece now) s)) (turn epoch piece now x)
made g h draw bytes piece after now epoch j s x here admits c may =
    let t : Serving = writes (turn_answer epoch piece now x).out (does (Turn (seat_at g.owner epoch) piece now) s) in
    let going : Going g h draw after false t = made_going g h draw bytes piece after now epoch j s x here admits c in
    let known : t.hub.session g.owner ≡ Some (turn epoch piece now x) = (turned_hub g.owner epoch piece now x s.hub here).becomes in
    let beside : MayLeave g epoch t = inr (inr (record { session = turn epoch piece now x; known = known; near = turn_near epoch piece now x (made_admits epoch piece now x admits) })) in
    let stop : Stop g h draw after now t = stop_on g h draw after now epoch t going c.goes_on c.seat beside in
    record {
      going = going;
      goes = c.goes_on;
      seat = c.seat;
      known = known;
      may = beside;
      stop = stop;
      stops = stops_one g h draw after now s t (turn_call g epoch piece now s x None here admits) refl (one_more s (Turn (seat_at g.owner epoch) piece now))
          (stop_at g h draw bytes piece after now epoch j s c may) (inl stop);
    }

-- and ends the session
closed : (g : Ground) (h : Hub) (draw : ℕ → List ℕ) (bytes : List ℕ) (now epoch : ℕ) (s t : Serving) (x : Session) (cause : Cause) → Made g h draw bytes now epoch s t x → IsOff epoch x
    → Stops g h draw bytes now s (ends_by (refused_by (ended cause)) (closes (seat_at g.owner epoch) cause now t))
closed g h draw bytes now epoch s t x cause m off =
    let seat : Seat = seat_at g.owner epoch in
    let u : Serving = ends_by (refused_by (ended cause)) (closes seat cause now t) in
    let own : Welcomed g (t.hub.session g.owner) (row t.hub g.owner) (link_after bytes false t g.link draw) m.going.focus epoch =
    welcomed_at g (t.hub.session g.owner) (row t.hub g.owner) (link_after bytes false t g.link draw) m.going.focus epoch refl m.seat in
    let b : Bool = row_closes epoch (row t.hub g.owner) in
    let stop : Stop g h draw bytes now u = record {
      going = closes_so g h draw now epoch cause t (refused_by (ended cause)) bytes m.going;
      may = inr (inr (record {
        welcome = own.welcome;
        there = own.there;
        session = if b then end_session cause x else x;
        known = closed_session g.owner epoch cause now x t.hub m.known;
        off = ends_off own.welcome.epoch b cause x (subst (λ (n : ℕ). IsOff n x) own.number off);
      }));
    } in
    stops_trans g h draw bytes now s t u m.goes m.stops
    (stops_one g h draw bytes now t u
    (writes_call t (Close seat cause now) t.out None t.welcome (Some (refused_by (ended cause))) refl (nothing_written t.out _ (close_writes seat cause now t.hub))) refl
    (one_more t (Close seat cause now)) m.stop (inl stop))

ended_stops : (g : Ground) (h : Hub) (draw : ℕ → List ℕ) (bytes : List ℕ) (now epoch : ℕ) (s t : Serving) (x : Session) (by : Option Cause) (again : Bool) → Made g h draw bytes now epoch s t x
    → ((cause : Cause) → by ≡ Some cause → IsOff epoch x) → TurnStops g h draw bytes now epoch s (turn_ended by again (seat_at g.owner epoch) now t)
ended_stops g h draw bytes now epoch s t x None again m off = record { stops = m.stops; goes = λ _. m.may }
ended_stops g h draw bytes now epoch s t x (Some cause) again m off =
    record { stops = closed g h draw bytes now epoch s t x cause m (off cause refl); goes = λ more. absurd (false≢true more) }

-- a bad message was heard
spoiled : (g : Ground) (h : Hub) (draw : ℕ → List ℕ) (bytes piece after : List ℕ) (now epoch j : ℕ) (s : Serving) (x : Session) (bad : BadMessage) (message : List ℕ) → s.hub.session g.owner ≡ Some x
    → turn_refusal epoch piece now x ≡ Some (bad_ipc bad message) → Comes g h draw bytes piece after epoch j s → MayLeave g epoch s
    → Stops g h draw after now s (ends_by (refused_by (bad_ipc bad message)) (closes (seat_at g.owner epoch) BadIpc now (does (Turn (seat_at g.owner epoch) piece now) s)))
spoiled g h draw bytes piece after now epoch j s x bad message here is c may =
    let seat : Seat = seat_at g.owner epoch in
    let t : Serving = does (Turn seat piece now) s in
    let u : Serving = ends_by (refused_by (bad_ipc bad message)) (closes seat BadIpc now t) in
    let admits : feed_refusal epoch x ≡ None = bad_admits epoch piece now x bad message is in
    let going : Going g h draw after false t = spoiled_going g h draw bytes piece after now epoch j s x here admits c in
    let stop : Stop g h draw after now t =
    stop_on g h draw after now epoch t going c.goes_on c.seat
    (inr (inr (record { session = turn epoch piece now x; known = (turned_hub g.owner epoch piece now x s.hub here).becomes; near = turn_near epoch piece now x admits }))) in
    let first : Writes s t =
    writes_call s (Turn seat piece now) s.out s.seat s.welcome s.end refl
    (nothing_written s.out _ (turn_writes g epoch piece now s.hub x here ∙ ap (λ (r : Option Refusal). turn_bytes r (turn_answer epoch piece now x)) is)) in
    stops_trans g h draw after now s t u c.goes_on
    (stops_one g h draw after now s t first refl (one_more s (Turn seat piece now)) (stop_at g h draw bytes piece after now epoch j s c may) (inl stop))
    (stops_one g h draw after now t u
    (writes_call t (Close seat BadIpc now) t.out None t.welcome (Some (refused_by (bad_ipc bad message))) refl (nothing_written t.out _ (close_writes seat BadIpc now t.hub))) refl
    (one_more t (Close seat BadIpc now)) stop (inr (bad, message, refl)))

-- ---- any turn

refused : (g : Ground) (h : Hub) (draw : ℕ → List ℕ) (bytes piece after : List ℕ) (now epoch j : ℕ) (s : Serving) (reason : End) → Comes g h draw bytes piece after epoch j s → MayLeave g epoch s
    → TurnStops g h draw after now epoch s (stops (ends_by reason s))
refused g h draw bytes piece after now epoch j s reason c may =
    waits g h draw bytes piece after now epoch j s (ends_by reason s) c may (writes_same s s.welcome (Some reason)) refl refl

by_stops : (g : Ground) (h : Hub) (draw : ℕ → List ℕ) (bytes piece after : List ℕ) (now epoch j : ℕ) (s : Serving) (x : Session) (refusal : Option Refusal) → s.hub.session g.owner ≡ Some x
    → turn_refusal epoch piece now x ≡ refusal → Comes g h draw bytes piece after epoch j s → MayLeave g epoch s
    → TurnStops g h draw after now epoch s (turn_by refusal (turn_answer epoch piece now x) (seat_at g.owner epoch) piece now s)
by_stops g h draw bytes piece after now epoch j s x None here is c may =
    let answer : TurnAnswer = turn_answer epoch piece now x in
    ended_stops g h draw after now epoch s (writes answer.out (does (Turn (seat_at g.owner epoch) piece now) s)) (turn epoch piece now x) answer.ended answer.again
    (made g h draw bytes piece after now epoch j s x here is c may) (λ cause ends. turn_off epoch piece now x cause (made_admits epoch piece now x is) ends)
by_stops g h draw bytes piece after now epoch j s x (Some (bad_ipc bad message)) here is c may =
    record { stops = spoiled g h draw bytes piece after now epoch j s x bad message here is c may; goes = λ again. absurd (false≢true again) }
by_stops g h draw bytes piece after now epoch j s x (Some (ended cause)) here is c may = refused g h draw bytes piece after now epoch j s (refused_by (ended cause)) c may
by_stops g h draw bytes piece after now epoch j s x (Some (stale current)) here is c may = refused g h draw bytes piece after now epoch j s (refused_by (stale current)) c may
by_stops g h draw bytes piece after now epoch j s x (Some no_link) here is c may = refused g h draw bytes piece after now epoch j s (refused_by no_link) c may
by_stops g h draw bytes piece after now epoch j s x (Some (too_long n)) here is c may = refused g h draw bytes piece after now epoch j s (refused_by (too_long n)) c may
by_stops g h draw bytes piece after now epoch j s x (Some (too_large n)) here is c may = refused g h draw bytes piece after now epoch j s (refused_by (too_large n)) c may
by_stops g h draw bytes piece after now epoch j s x (Some ids_spent) here is c may = refused g h draw bytes piece after now epoch j s (refused_by ids_spent) c may
by_stops g h draw bytes piece after now epoch j s x (Some (no_such_call id)) here is c may = refused g h draw bytes piece after now epoch j s (refused_by (no_such_call id)) c may
by_stops g h draw bytes piece after now epoch j s x (Some wrong_kind) here is c may = refused g h draw bytes piece after now epoch j s (refused_by wrong_kind) c may

in_stops : (g : Ground) (h : Hub) (draw : ℕ → List ℕ) (bytes piece after : List ℕ) (now epoch j : ℕ) (s : Serving) (o : Option Session) → s.hub.session g.owner ≡ o
    → Comes g h draw bytes piece after epoch j s → MayLeave g epoch s → TurnStops g h draw after now epoch s (turn_in o (seat_at g.owner epoch) piece now s)
in_stops g h draw bytes piece after now epoch j s None here c may = waits g h draw bytes piece after now epoch j s s c may (writes_refl s) refl refl
in_stops g h draw bytes piece after now epoch j s (Some x) here c may =
    by_stops g h draw bytes piece after now epoch j s x (turn_refusal epoch piece now x) here refl c may

turned_stops : (g : Ground) (h : Hub) (draw : ℕ → List ℕ) (bytes piece after : List ℕ) (now epoch j : ℕ) (s : Serving) → Comes g h draw bytes piece after epoch j s → MayLeave g epoch s
    → TurnStops g h draw after now epoch s (turned (seat_at g.owner epoch) piece now s)
unfolding turned
turned_stops g h draw bytes piece after now epoch j s c may = in_stops g h draw bytes piece after now epoch j s (s.hub.session g.owner) refl c may

-- ---- all turns

again_stops : (n : ℕ) (g : Ground) (h : Hub) (draw : ℕ → List ℕ) (bytes : List ℕ) (now epoch : ℕ) (s : Serving) (t : Turned) → TurnStands g h draw bytes now epoch t
    → TurnStops g h draw bytes now epoch s t → Stops g h draw bytes now s (turned_again n (seat_at g.owner epoch) now t)
unfolding turned_again
again_stops zero g h draw bytes now epoch s t x y = y.stops
again_stops (suc n) g h draw bytes now epoch s t x y =
    cond_both t.again (turned_again n (seat_at g.owner epoch) now (turned (seat_at g.owner epoch) [] now t.after)) t.after (λ (u : Serving). Stops g h draw bytes now s u)
    (λ is.
    let goes = x.goes is in
    let v : Turned = turned (seat_at g.owner epoch) [] now t.after in
    let c : Comes g h draw bytes [] bytes epoch 0 t.after = comes_nothing g h draw bytes epoch t.after (stands_going g h draw bytes now t.after goes.0 x.stands) goes.0 goes.1 in
    let next : TurnStops g h draw bytes now epoch t.after v = turned_stops g h draw bytes [] bytes now epoch 0 t.after c (y.goes is) in
    again_stops n g h draw bytes now epoch s v (turned_stands g h draw bytes [] bytes now epoch 0 t.after c)
    (record { stops = stops_trans g h draw bytes now s t.after v.after goes.0 y.stops next.stops; goes = next.goes }))
    (λ no. y.stops)

pub served_stops : (n : ℕ) (g : Ground) (h : Hub) (draw : ℕ → List ℕ) (bytes piece after : List ℕ) (now epoch j : ℕ) (s : Serving) → Comes g h draw bytes piece after epoch j s
    → MayLeave g epoch s → Stops g h draw after now s (served n (seat_at g.owner epoch) piece now s)
unfolding served
served_stops n g h draw bytes piece after now epoch j s c may =
    again_stops n g h draw after now epoch s (turned (seat_at g.owner epoch) piece now s) (turned_stands g h draw bytes piece after now epoch j s c)
    (turned_stops g h draw bytes piece after now epoch j s c may)
