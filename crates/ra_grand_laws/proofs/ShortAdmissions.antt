-- A link whose client has asked for its session, call by call: it may be left before the request is judged, behind that, and behind each turn.
use Rattle.std.proofs.Common.{◌≡◌, inl, inr, ℕ, zero, suc, ◌+◌, ◌<◌, ◌≤◌, false, Option, Some, None, List, [], ◌++◌, if◌then◌else◌, length, take, drop, eqb, eq-eqb, refl, ap, sym, ◌∙◌, subst, arith, append-nil}
use Rattle.std.specs.Prelude.{◌⊎◌}
use Rattle.std.proofs.lemmas.Bool.{true≢false, cond_both, eqb-true}
use Rattle.std.proofs.lemmas.List.{take_all, take-append-le, drop_at}
use Rattle.ra_base.specs.declared.handshake.Reason.{Reason}
use Rattle.ra_base.specs.declared.handshake.Request.{Request}
use Rattle.ra_base.specs.declared.key.Seat.{Seat}
use Rattle.ra_registry.specs.declared.row.Row.{Row}
use Rattle.ra_registry.specs.Admission.{admission_refusal, next_epoch, seat_for}
use Rattle.ra_registry.specs.Rows.{epoch_of}
use Rattle.ra_session.specs.SessionCalls.{attach}
use Rattle.ra_session.specs.SessionRefusals.{Refusal, attach_refusal}
use Rattle.ra_session.specs.Sessions.{Session}
use Rattle.ra_opening.specs.Verdicts.{refusal_bytes, acceptance_bytes}
use Rattle.ra_hub.specs.Hubs.{Hub, row}
use Rattle.ra_link_core.specs.HubEvents.{HubEvent, event_bytes, events_done, events_bytes, admission_bytes, seat_judged_by, seats_by}
use Rattle.ra_link_core.specs.HubEvents.HubEvent.{Admit, Attach}
use Rattle.ra_link_core.specs.LinkRuns.{request_refused, refused_by, Serving, Welcome, writes, does, ends_by, turns_for, attached_by, attached_in, attached, asked_by, asked}
use Rattle.ra_link_core.specs.Makes.{Writes}
use Rattle.ra_link_core.proofs.GrowLemmas.{writes_trans, writes_same, writes_refl}
use Rattle.ra_grand_runs.specs.GrandClients.{GrandLink}
use Rattle.ra_run_laws.proofs.Lists.{there_is, none_there}
use Rattle.ra_handshake_laws.specs.Handshakes.{request_for, Speaks}
use Rattle.ra_link_laws.proofs.HubMoves.{HubMoves, others_trans, same_hub, attached_hub, next_is}
use Rattle.ra_link_laws.proofs.SeatTurns.{comes_nothing}
use Rattle.ra_link_laws.proofs.ServedAdmissions.{IsNew, over_now, HasAsked, refuses_stands, admitted_link, admits_going}
use Rattle.ra_link_laws.proofs.ServedFocus.{Ground, Focus}
use Rattle.ra_link_laws.proofs.ServedOpenings.{speaks_answer}
use Rattle.ra_link_laws.proofs.ServedRuns.{link_after, Going, focus_hub}
use Rattle.ra_link_laws.proofs.ServedTurns.{seat_at, focus_attached}
use Rattle.ra_grand_laws.proofs.ShortLinks.{IsKnown, NoneBehind}
use Rattle.ra_grand_laws.proofs.ShortRuns.{Stop, StopAt, IsSpoiled, Stops, stops_trans, stops_none, stops_one, writes_call, one_more}
use Rattle.ra_grand_laws.proofs.ShortTurns.{nothing_written, stop_on, served_stops}

-- ---- so many calls of the whole run were made

-- A moment at which the link that was served from the one to the other may be left. What is then written is that for the other calls.
pub record Stopped (g : Ground) (h : Hub) (draw : ℕ → List ℕ) (bytes : List ℕ) (now : ℕ) (s u : Serving) (calls : ℕ) : Type 0 where
  pub at : Serving
  pub hub : at.hub ≡ events_done (take calls u.events) s.hub
  pub seat : at.seat ≡ seats_by (take calls u.events) s.hub s.seat
  pub welcome : at.welcome ≡ (if eqb (length (take calls u.events)) 0 then s.welcome else u.welcome)
  pub behind : u.out ≡ at.out ++ events_bytes (drop calls u.events) at.hub
  pub known : IsKnown g at.welcome
  pub stop : Stop g h draw bytes now at

-- a link that has made no call, but whose opening may have come on
pub record IsBefore (s base : Serving) : Type 0 where
  pub events : base.events ≡ []
  pub hub : base.hub ≡ s.hub
  pub seat : base.seat ≡ s.seat
  pub welcome : base.welcome ≡ s.welcome

positive : (n : ℕ) → eqb n 0 ≡ false → 0 < n
positive zero other = absurd (true≢false (sym (eq-eqb 0 0 refl) ∙ other))
positive (suc n) other = omega arith

welcome_by : (n : ℕ) (o first last : Option Welcome) → (n ≡ 0 → o ≡ first) → (0 < n → o ≡ last) → o ≡ (if eqb n 0 then first else last)
welcome_by n o first last none some =
    cond_both (eqb n 0) first last (λ (q : Option Welcome). o ≡ q) (λ same. none (eqb-true n 0 same)) (λ other. some (positive n other))

stopped_at : (g : Ground) (h : Hub) (draw : ℕ → List ℕ) (bytes : List ℕ) (now : ℕ) (s base u at : Serving) (calls : ℕ) → IsBefore s base → Writes base at → Writes at u → length at.events ≡ calls
    → (calls ≡ 0 → at.welcome ≡ s.welcome) → (0 < calls → at.welcome ≡ u.welcome) → IsKnown g at.welcome → Stop g h draw bytes now at → Stopped g h draw bytes now s u calls
stopped_at g h draw bytes now s base u at calls b before behind count none some known stop =
    let first : List HubEvent = before.happens.more in
    let rest : List HubEvent = behind.happens.more in
    let made : at.events ≡ first = before.happens.events ∙ ap (λ (l : List HubEvent). l ++ first) b.events in
    let all : u.events ≡ at.events ++ rest = behind.happens.events in
    let front : take calls u.events ≡ at.events =
    ap (λ (l : List HubEvent). take calls l) all ∙ take-append-le calls at.events rest (omega (arith, count)) ∙ take_all calls at.events (omega (arith, count)) in
    let left : drop calls u.events ≡ rest = ap (λ (l : List HubEvent). drop calls l) all ∙ drop_at at.events rest calls count in
    let size : length (take calls u.events) ≡ calls = ap (λ (l : List HubEvent). length l) front ∙ count in
    record {
      at = at;
      hub = before.happens.hub ∙ ap (λ (k : Hub). events_done first k) b.hub ∙ ap (λ (l : List HubEvent). events_done l s.hub) (sym (front ∙ made));
      seat =
          before.happens.seat ∙ ap (λ (k : Hub). seats_by first k base.seat) b.hub ∙ ap (λ (o : Option Seat). seats_by first s.hub o) b.seat
          ∙ ap (λ (l : List HubEvent). seats_by l s.hub s.seat) (sym (front ∙ made));
      welcome = welcome_by calls at.welcome s.welcome u.welcome none some ∙ ap (λ (n : ℕ). if eqb n 0 then s.welcome else u.welcome) (sym size);
      behind = behind.out ∙ ap (λ (l : List HubEvent). at.out ++ events_bytes l at.hub) (sym left);
      known = known;
      stop = stop;
    }

-- the link keeps the welcome that it had
pub stopped_by : (g : Ground) (h : Hub) (draw : ℕ → List ℕ) (bytes : List ℕ) (now : ℕ) (s base u : Serving) (calls : ℕ) → IsBefore s base → Stops g h draw bytes now base u → (IsSpoiled u → ⊥)
    → IsKnown g s.welcome → calls ≤ length u.events → Stopped g h draw bytes now s u calls
stopped_by g h draw bytes now s base u calls b stops unspoiled known fits = by (stops.each calls (omega (arith, size)) fits)
  where
    size : length base.events ≡ 0
    size = ap (λ (l : List HubEvent). length l) b.events

    by : StopAt g h draw bytes now base u calls ⊎ IsSpoiled u → Stopped g h draw bytes now s u calls
    by (inr spoiled) = absurd (unspoiled spoiled)
    by (inl x) =
        stopped_at g h draw bytes now s base u x.at calls b x.before x.behind x.count (λ _. x.welcome ∙ b.welcome) (λ _. x.welcome ∙ sym stops.welcome)
        (λ w is. known w (sym (x.welcome ∙ b.welcome) ∙ is)) x.stop

-- ---- the request is not judged yet

pub stop_new : (g : Ground) (h : Hub) (draw : ℕ → List ℕ) (bytes : List ℕ) (now : ℕ) (s : Serving) → IsNew g h bytes s → Speaks g.owner.kind (g.draws g.place).key None s.out
    → Stop g h draw bytes now s
stop_new g h draw bytes now s new speaks = record {
  going = over_now g h draw bytes now s s new [] (same_hub g.owner s.hub) (sym (append-nil s.out)) new.seat new.welcome speaks;
  may = inr (inl (subst (λ (o : Option Welcome). NoneBehind o s.out) (sym new.welcome) tt));
}

pub unknown : (g : Ground) (o : Option Welcome) → o ≡ None → IsKnown g o
unknown g o none = λ w is. none_there (sym none ∙ is)

-- ---- the session begins on the link

attach_writes : (seat : Seat) (chunk : List ℕ) (now : ℕ) (h : Hub) → event_bytes (Attach seat chunk now) h ≡ []
unfolding event_bytes
attach_writes seat chunk now h = refl

begun_stops : (g : Ground) (h : Hub) (draw : ℕ → List ℕ) (bytes : List ℕ) (now epoch : ℕ) (t : Serving) (session : Session) (refusal : Option Refusal) → t.hub.session g.owner ≡ Some session
    → attach_refusal epoch session ≡ refusal → Going g h draw bytes false t → t.end ≡ None → t.seat ≡ Some (seat_at g.owner epoch)
    → ((u : Welcome) → t.welcome ≡ Some u → g.link.link.to_b.read + length bytes ≡ u.up) → NoneBehind t.welcome t.out
    → Stops g h draw bytes now t (attached_by refusal (seat_at g.owner epoch) [] now t)
begun_stops g h draw bytes now epoch t session (Some refusal) here is going goes seat all none =
    stops_none g h draw bytes now t (ends_by (refused_by refusal) t) (writes_same t t.welcome (Some (refused_by refusal))) refl refl
    (stop_on g h draw bytes now epoch t going goes seat (inr (inl none)))
begun_stops g h draw bytes now epoch t session None here is going goes seat all none =
    let own : Seat = seat_at g.owner epoch in
    let u : Serving = does (Attach own [] now) t in
    let l : GrandLink = link_after bytes false t g.link draw in
    let f : Focus g (Some session) (row t.hub g.owner) l = subst (λ (q : Option Session). Focus g q (row t.hub g.owner) l) here going.focus in
    let moves : HubMoves g.owner (Some (attach epoch [] now session)) t.hub u.hub = attached_hub g.owner epoch [] now session t.hub here in
    let on : Going g h draw bytes false u = record {
      focus = focus_hub g (Some (attach epoch [] now session)) t.hub u.hub l moves (focus_attached g session (row t.hub g.owner) l f epoch now refl seat is all);
      others = others_trans g.owner h t.hub u.hub going.others moves.others;
      front = going.front;
    } in
    stops_trans g h draw bytes now t u (attached_by None own [] now t) goes
    (stops_one g h draw bytes now t u (writes_call t (Attach own [] now) t.out t.seat t.welcome t.end refl (nothing_written t.out _ (attach_writes own [] now t.hub))) refl
    (one_more t (Attach own [] now)) (stop_on g h draw bytes now epoch t going goes seat (inr (inl none))) (inl (stop_on g h draw bytes now epoch u on goes seat (inr (inl none)))))
    (served_stops (turns_for []) g h draw bytes [] bytes now epoch 0 u (comes_nothing g h draw bytes epoch u on goes seat) (inr (inl none)))

attached_stops : (g : Ground) (h : Hub) (draw : ℕ → List ℕ) (bytes : List ℕ) (now epoch : ℕ) (t : Serving) (o : Option Session) → t.hub.session g.owner ≡ o → Going g h draw bytes false t
    → t.end ≡ None → t.seat ≡ Some (seat_at g.owner epoch) → ((u : Welcome) → t.welcome ≡ Some u → g.link.link.to_b.read + length bytes ≡ u.up) → NoneBehind t.welcome t.out
    → Stops g h draw bytes now t (attached_in o (seat_at g.owner epoch) [] now t)
attached_stops g h draw bytes now epoch t None here going goes seat all none =
    stops_none g h draw bytes now t t (writes_refl t) refl refl (stop_on g h draw bytes now epoch t going goes seat (inr (inl none)))
attached_stops g h draw bytes now epoch t (Some session) here going goes seat all none =
    begun_stops g h draw bytes now epoch t session (attach_refusal epoch session) here refl going goes seat all none

begins_stops : (g : Ground) (h : Hub) (draw : ℕ → List ℕ) (bytes : List ℕ) (now epoch : ℕ) (t : Serving) → Going g h draw bytes false t → t.end ≡ None
    → t.seat ≡ Some (seat_at g.owner epoch) → ((u : Welcome) → t.welcome ≡ Some u → g.link.link.to_b.read + length bytes ≡ u.up) → NoneBehind t.welcome t.out
    → Stops g h draw bytes now t (attached (seat_at g.owner epoch) [] now t)
unfolding attached
begins_stops g h draw bytes now epoch t going goes seat all none = attached_stops g h draw bytes now epoch t (t.hub.session g.owner) refl going goes seat all none

-- ---- the request is judged

admit_writes : (ask : Request) (now : ℕ) (h : Hub) (r : Option Reason) → admission_refusal h.registry ask now ≡ r → event_bytes (Admit ask now) h ≡ admission_bytes r (seat_for h.registry ask)
unfolding event_bytes
admit_writes ask now h r is = ap (λ (o : Option Reason). admission_bytes o (seat_for h.registry ask)) is

judged_seat : (ask : Request) (now : ℕ) (h : Hub) (r : Option Reason) (seat : Option Seat) → admission_refusal h.registry ask now ≡ r
    → seat_judged_by r (seat_for h.registry ask) seat ≡ seat_judged_by (admission_refusal h.registry ask now) (seat_for h.registry ask) seat
judged_seat ask now h r seat is = ap (λ (o : Option Reason). seat_judged_by o (seat_for h.registry ask) seat) (sym is)

refused_stopped : (g : Ground) (h : Hub) (draw : ℕ → List ℕ) (first bytes : List ℕ) (place now : ℕ) (reason : Reason) (before s : Serving) (calls : ℕ) → IsNew g h bytes s
    → HasAsked g first bytes place s → admission_refusal s.hub.registry (request_for g.owner (g.draws g.place).reconnection) now ≡ Some reason → IsBefore before s
    → let u = ends_by (request_refused reason) (writes (refusal_bytes reason) (does (Admit (request_for g.owner (g.draws g.place).reconnection) now) s)) in
    calls ≤ length u.events → Stopped g h draw bytes now before u calls
refused_stopped g h draw first bytes place now reason before s calls new asks is b fits =
    let ask : Request = request_for g.owner (g.draws g.place).reconnection in
    let u : Serving = ends_by (request_refused reason) (writes (refusal_bytes reason) (does (Admit ask now) s)) in
    let speaks : Speaks g.owner.kind (g.draws g.place).key None s.out = speaks_answer g.owner (g.draws g.place).key _ _ s.out (inr asks.out) in
    let wrote : Writes s u =
    writes_call s (Admit ask now) (s.out ++ refusal_bytes reason) s.seat s.welcome (Some (request_refused reason)) (judged_seat ask now s.hub (Some reason) s.seat is)
    (ap (λ (t : List ℕ). s.out ++ t) (sym (admit_writes ask now s.hub (Some reason) is))) in
    stopped_by g h draw bytes now before s u calls b
    (stops_one g h draw bytes now s u wrote refl (one_more s (Admit ask now)) (stop_new g h draw bytes now s new speaks)
    (inl (record {
      going = refuses_stands g h draw first bytes place now reason s new asks is;
      may = inr (inl (subst (λ (o : Option Welcome). NoneBehind o u.out) (sym new.welcome) tt));
    })))
    (λ spoiled. absurd cc) (unknown g before.welcome (sym b.welcome ∙ new.welcome)) fits

-- it is admitted
admitted_stopped : (g : Ground) (h : Hub) (draw : ℕ → List ℕ) (first bytes : List ℕ) (place now : ℕ) (before s : Serving) (calls : ℕ) → IsNew g h bytes s → HasAsked g first bytes place s
    → admission_refusal s.hub.registry (request_for g.owner (g.draws g.place).reconnection) now ≡ None → IsBefore before s
    → let u = attached (seat_at g.owner (next_epoch (row s.hub g.owner))) [] now (admitted_link g place now s) in
    (IsSpoiled u → ⊥) → calls ≤ length u.events → Stopped g h draw bytes now before u calls
unfolding admitted_link
admitted_stopped g h draw first bytes place now before s calls new asks is b unspoiled fits = by calls fits
  where
    ask : Request
    ask = request_for g.owner (g.draws g.place).reconnection

    m : Serving
    m = admitted_link g place now s

    o : Option Row
    o = row s.hub g.owner

    u : Serving
    u = attached (seat_at g.owner (next_epoch o)) [] now m

    all : (w : Welcome) → m.welcome ≡ Some w → g.link.link.to_b.read + length bytes ≡ w.up
    all w there = sym asks.read ∙ ap (λ (v : Welcome). v.up) (there_is there)

    wrote : Writes s m
    wrote =
        writes_call s (Admit ask now) (s.out ++ acceptance_bytes g.owner.kind) m.seat m.welcome s.end (judged_seat ask now s.hub None s.seat is)
        (ap (λ (t : List ℕ). s.out ++ t) (sym (admit_writes ask now s.hub None is)))

    stops : Stops g h draw bytes now m u
    stops = begins_stops g h draw bytes now (next_epoch o) m (admits_going g h draw first bytes place now s new asks is) new.goes_on refl all (omega arith)

    known : IsKnown g m.welcome
    known w there =
        let next : next_epoch o ≡ epoch_of o + 1 = next_is o in
        let counted : length new.focus.session_links ≡ epoch_of o = new.focus.count in
        let under : g.number ≤ length new.focus.session_links = new.focus.view.mine.there in
        let same : next_epoch o ≡ w.epoch = ap (λ (v : Welcome). v.epoch) (there_is there) in
        inr (omega (arith, next, counted, under, same))

    size : length m.events ≡ 1
    size = one_more s (Admit ask now) ∙ ap (λ (l : List HubEvent). length l + 1) b.events

    late : (n : ℕ) → 0 < n → StopAt g h draw bytes now m u n ⊎ IsSpoiled u → Stopped g h draw bytes now before u n
    late n some (inr spoiled) = absurd (unspoiled spoiled)
    late n some (inl x) =
        stopped_at g h draw bytes now before s u x.at n b (writes_trans s m x.at wrote x.before) x.behind x.count (λ none. absurd (omega (arith, none, some)))
        (λ _. x.welcome ∙ sym stops.welcome) (λ w there. known w (sym x.welcome ∙ there)) x.stop

    by : (n : ℕ) → n ≤ length u.events → Stopped g h draw bytes now before u n
    by zero within =
        stopped_at g h draw bytes now before s u s 0 b (writes_refl s) (writes_trans s m u wrote stops.writes) (ap (λ (l : List HubEvent). length l) b.events) (λ _. b.welcome)
        (λ some. absurd (omega (arith, some))) (unknown g s.welcome new.welcome)
        (stop_new g h draw bytes now s new (speaks_answer g.owner (g.draws g.place).key _ _ s.out (inr asks.out)))
    by (suc n) within = late (suc n) (omega arith) (stops.each (suc n) (omega (arith, size)) within)

judged_stopped : (g : Ground) (h : Hub) (draw : ℕ → List ℕ) (first bytes : List ℕ) (place now : ℕ) (before s : Serving) (calls : ℕ) (r : Option Reason) → IsNew g h bytes s
    → HasAsked g first bytes place s → admission_refusal s.hub.registry (request_for g.owner (g.draws g.place).reconnection) now ≡ r → IsBefore before s
    → let u = asked_by r (seat_at g.owner (next_epoch (row s.hub g.owner))) place [] now (does (Admit (request_for g.owner (g.draws g.place).reconnection) now) s) in
    (IsSpoiled u → ⊥) → calls ≤ length u.events → Stopped g h draw bytes now before u calls
unfolding admitted_link
judged_stopped g h draw first bytes place now before s calls (Some reason) new asks is b unspoiled fits =
    refused_stopped g h draw first bytes place now reason before s calls new asks is b fits
judged_stopped g h draw first bytes place now before s calls None new asks is b unspoiled fits =
    admitted_stopped g h draw first bytes place now before s calls new asks is b unspoiled fits

pub asked_stopped : (g : Ground) (h : Hub) (draw : ℕ → List ℕ) (first bytes : List ℕ) (place now : ℕ) (before s : Serving) (calls : ℕ) → IsNew g h bytes s → HasAsked g first bytes place s
    → IsBefore before s → (IsSpoiled (asked (request_for g.owner (g.draws g.place).reconnection) place [] now s) → ⊥)
    → calls ≤ length (asked (request_for g.owner (g.draws g.place).reconnection) place [] now s).events
    → Stopped g h draw bytes now before (asked (request_for g.owner (g.draws g.place).reconnection) place [] now s) calls
unfolding asked
asked_stopped g h draw first bytes place now before s calls new asks b unspoiled fits =
    judged_stopped g h draw first bytes place now before s calls (admission_refusal s.hub.registry (request_for g.owner (g.draws g.place).reconnection) now) new asks refl b unspoiled fits
