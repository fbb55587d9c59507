-- The turns of a link that has its seat.
use Rattle.std.proofs.Common.{◌≡◌, ℕ, zero, suc, ◌≤◌, Bool, true, false, Option, Some, None, List, [], ◌++◌, length, take, refl, ap, sym, ◌∙◌, subst, arith, append-nil, append_assoc}
use Rattle.std.proofs.lemmas.Bool.{false≢true, cond_both}
use Rattle.ra_base.specs.declared.event.Side.TheVariants.{B}
use Rattle.ra_base.specs.declared.key.Cause.{Cause}
use Rattle.ra_base.specs.declared.key.Cause.TheVariants.{BadIpc}
use Rattle.ra_base.specs.declared.key.Seat.{Seat}
use Rattle.ra_model.specs.Links.{Link, at_number, readable}
use Rattle.ra_registry.specs.declared.row.Row.{Row}
use Rattle.ra_session.specs.Hearing.{BadMessage}
use Rattle.ra_session.specs.SessionRefusals.{Refusal, ended, stale, no_link, too_long, bad_ipc, too_large, ids_spent, no_such_call, wrong_kind, feed_refusal}
use Rattle.ra_session.specs.Sessions.{Session}
use Rattle.ra_session.specs.SessionCalls.{feed_session}
use Rattle.ra_session.specs.TurnRefusals.{turn_refusal, taken_refusal}
use Rattle.ra_session.specs.Turns.{TurnAnswer, turn, turn_answer}
use Rattle.ra_hub.specs.Hubs.{Hub, row}
use Rattle.ra_link_core.specs.HubEvents.HubEvent.{Turn}
use Rattle.ra_link_core.specs.LinkRuns.{End, refused_by, Serving, writes, does, ends_by, Turned, stops, turn_by, turn_ended, turn_in, turned, turned_again, served}
use Rattle.ra_grand_runs.specs.GrandClients.{GrandLink}
use Rattle.ra_grand_runs.specs.Reached.{Begins}
use Rattle.ra_run_laws.proofs.Lists.{none_there}
use Rattle.ra_link_laws.specs.Parts.{IsSeated}
use Rattle.ra_link_laws.proofs.BadTurns.{both_none, second_is, fed_bad}
use Rattle.ra_link_laws.proofs.HubMoves.{HubMoves, IsOwn, others_trans, turned_hub}
use Rattle.ra_link_laws.proofs.ServedFocus.{Ground, Focus}
use Rattle.ra_link_laws.proofs.ServedMoves.{focus_moved}
use Rattle.ra_link_laws.proofs.ServedRuns.{link_after, put_next, Going, Stands, going_stands, stands_going, focus_hub, ends_so, closes_so}
use Rattle.ra_link_laws.proofs.ServedTexts.{Follows, IsPut, follows_read, keeps_put, below_put, welcome_read, seat_stands}
use Rattle.ra_link_laws.proofs.ServedTurns.{seat_at, seated_at, focus_turned, focus_spoiled}

-- after a turn the link stands, and where one more is due it goes on
pub record TurnStands (g : Ground) (h : Hub) (draw : ℕ → List ℕ) (bytes : List ℕ) (now epoch : ℕ) (t : Turned) : Type 0 where
  pub stands : Stands g h draw bytes now t.after
  pub goes : t.again ≡ true → (t.after.end ≡ None) × (t.after.seat ≡ Some (seat_at g.owner epoch))

-- the link goes on, and these bytes come to it, the first of those that it can read
pub record Comes (g : Ground) (h : Hub) (draw : ℕ → List ℕ) (bytes piece after : List ℕ) (epoch j : ℕ) (s : Serving) : Type 0 where
  pub going : Going g h draw bytes false s
  pub goes_on : s.end ≡ None
  pub seat : s.seat ≡ Some (seat_at g.owner epoch)
  pub fits : j ≤ length (readable B (link_after bytes false s g.link draw).link)
  pub is : piece ≡ take j (readable B (link_after bytes false s g.link draw).link)
  pub grows : after ≡ bytes ++ piece

stopped : (g : Ground) (h : Hub) (draw : ℕ → List ℕ) (bytes : List ℕ) (now epoch : ℕ) (s : Serving) → Stands g h draw bytes now s → TurnStands g h draw bytes now epoch (stops s)
stopped g h draw bytes now epoch s stands = record { stands = stands; goes = λ again. absurd (false≢true again) }

pub follows_piece : (g : Ground) (h : Hub) (draw : ℕ → List ℕ) (bytes piece after : List ℕ) (epoch j : ℕ) (s : Serving) → Comes g h draw bytes piece after epoch j s
    → Follows piece (link_after bytes false s g.link draw).link.to_b
follows_piece g h draw bytes piece after epoch j s c = follows_read (link_after bytes false s g.link draw).link piece j c.going.focus.here.up c.is

-- ---- a refusal that leaves all as it was

refuses_so : (g : Ground) (h : Hub) (draw : ℕ → List ℕ) (bytes piece after : List ℕ) (now epoch j : ℕ) (s : Serving) (reason : End) → Comes g h draw bytes piece after epoch j s
    → TurnStands g h draw after now epoch (stops (ends_by reason s))
refuses_so g h draw bytes piece after now epoch j s reason c =
    stopped g h draw after now epoch (ends_by reason s)
    (ends_so g h draw now s reason bytes piece after c.going (subst (λ (o : Option Seat). IsOwn g.owner o) (sym c.seat) refl) c.grows (follows_piece g h draw bytes piece after epoch j s c))

-- ---- no session

present_none : (n : ℕ) (session_links : List Link) (x : Link) → n ≡ 0 → at_number session_links n ≡ Some x → ⊥
present_none n session_links x nothing at = none_there (sym (ap (λ (k : ℕ). at_number session_links k) nothing) ∙ at)

quiet_so : (g : Ground) (h : Hub) (draw : ℕ → List ℕ) (bytes piece after : List ℕ) (now epoch j : ℕ) (s : Serving) → s.hub.session g.owner ≡ None → Comes g h draw bytes piece after epoch j s
    → TurnStands g h draw after now epoch (stops s)
quiet_so g h draw bytes piece after now epoch j s none c =
    let l : GrandLink = link_after bytes false s g.link draw in
    let end : GrandLink = link_after after false s g.link draw in
    let r : Option Row = row s.hub g.owner in
    let d = g.draws g.place in
    let f : Focus g None r l = subst (λ (o : Option Session). Focus g o r l) none c.going.focus in
    let put : IsPut [] l end piece = put_next bytes piece after false false s s g.link draw [] c.going.front (sym (append-nil s.out)) c.grows in
    let seated : IsSeated g.owner f.session_links f.present l (seat_at g.owner epoch) = seated_at g None r l f epoch refl c.seat in
    let now_seated : IsSeated g.owner f.session_links f.present end (seat_at g.owner epoch) = record {
      welcome = seated.welcome;
      is_there = seated.is_there;
      key = refl;
      number = seated.number;
      said = seated.said;
      read = λ is x at. absurd (present_none f.present f.session_links x f.server.2 at);
    } in
    let moved : Focus g None r end =
    focus_moved g None r l end f
    (keeps_put g.owner d f.session_links f.session_links f.present f.present l end piece [] f.here (follows_piece g h draw bytes piece after epoch j s c) put f.here.speaks
    (welcome_read g.owner d f.session_links l end piece put refl f.here.welcome)
    (seat_stands g.owner f.session_links f.present end false s.seat (seat_at g.owner epoch) refl c.seat now_seated))
    (below_put g.owner d f.session_links f.present g.link l end piece [] f.here put (λ u is. is) f.stays) refl in
    stopped g h draw after now epoch s
    (going_stands g h draw after now s c.goes_on
    (record { focus = subst (λ (o : Option Session). Focus g o r end) (sym none) moved; others = c.going.others; front = c.going.front }))

-- ---- a turn that is made

pub made_admits : (epoch : ℕ) (piece : List ℕ) (now : ℕ) (s : Session) → turn_refusal epoch piece now s ≡ None → feed_refusal epoch s ≡ None
unfolding turn_refusal
made_admits epoch piece now s is = (both_none (feed_refusal epoch s) (taken_refusal now (feed_session epoch piece now s)) is).0

pub bad_admits : (epoch : ℕ) (piece : List ℕ) (now : ℕ) (s : Session) (bad : BadMessage) (message : List ℕ) → turn_refusal epoch piece now s ≡ Some (bad_ipc bad message)
    → feed_refusal epoch s ≡ None
unfolding turn_refusal
bad_admits epoch piece now s bad message is =
    (second_is (feed_refusal epoch s) (taken_refusal now (feed_session epoch piece now s)) (bad_ipc bad message) (fed_bad epoch s bad message) is).0

more_begins : (out more front : List ℕ) → Begins out front → Begins (out ++ more) front
more_begins out more front begins =
    record { rest = begins.rest ++ more; same = ap (λ (t : List ℕ). t ++ more) begins.same ∙ append_assoc front begins.rest more }

-- the turn, and what it writes
pub made_going : (g : Ground) (h : Hub) (draw : ℕ → List ℕ) (bytes piece after : List ℕ) (now epoch j : ℕ) (s : Serving) (session : Session) → s.hub.session g.owner ≡ Some session
    → turn_refusal epoch piece now session ≡ None → Comes g h draw bytes piece after epoch j s
    → Going g h draw after false (writes (turn_answer epoch piece now session).out (does (Turn (seat_at g.owner epoch) piece now) s))
made_going g h draw bytes piece after now epoch j s session here admits c =
    let out : List ℕ = (turn_answer epoch piece now session).out in
    let t : Serving = writes out (does (Turn (seat_at g.owner epoch) piece now) s) in
    let l : GrandLink = link_after bytes false s g.link draw in
    let end : GrandLink = link_after after false t g.link draw in
    let r : Option Row = row s.hub g.owner in
    let moves : HubMoves g.owner (Some (turn epoch piece now session)) s.hub t.hub = turned_hub g.owner epoch piece now session s.hub here in
    let f : Focus g (Some session) r l = subst (λ (o : Option Session). Focus g o r l) here c.going.focus in
    record {
      focus =
          focus_hub g (Some (turn epoch piece now session)) s.hub t.hub end moves
          (focus_turned g session r l end f epoch piece j now refl c.seat (made_admits epoch piece now session admits) c.fits c.is refl c.seat refl
          (put_next bytes piece after false false s t g.link draw out c.going.front refl c.grows));
      others = others_trans g.owner h s.hub t.hub c.going.others moves.others;
      front = more_begins s.out out g.link.server.out c.going.front;
    }

ended_stands : (g : Ground) (h : Hub) (draw : ℕ → List ℕ) (bytes : List ℕ) (now epoch : ℕ) (by : Option Cause) (again : Bool) (t : Serving) → Going g h draw bytes false t → t.end ≡ None
    → t.seat ≡ Some (seat_at g.owner epoch) → TurnStands g h draw bytes now epoch (turn_ended by again (seat_at g.owner epoch) now t)
ended_stands g h draw bytes now epoch None again t going goes_on seat = record { stands = going_stands g h draw bytes now t goes_on going; goes = λ more. (goes_on, seat) }
ended_stands g h draw bytes now epoch (Some cause) again t going goes_on seat =
    stopped g h draw bytes now epoch _ (closes_so g h draw now epoch cause t (refused_by (ended cause)) bytes going)

-- ---- a turn in which a bad message was heard

pub spoiled_going : (g : Ground) (h : Hub) (draw : ℕ → List ℕ) (bytes piece after : List ℕ) (now epoch j : ℕ) (s : Serving) (session : Session) → s.hub.session g.owner ≡ Some session
    → feed_refusal epoch session ≡ None → Comes g h draw bytes piece after epoch j s → Going g h draw after false (does (Turn (seat_at g.owner epoch) piece now) s)
spoiled_going g h draw bytes piece after now epoch j s session here admits c =
    let t : Serving = does (Turn (seat_at g.owner epoch) piece now) s in
    let l : GrandLink = link_after bytes false s g.link draw in
    let end : GrandLink = link_after after false t g.link draw in
    let r : Option Row = row s.hub g.owner in
    let moves : HubMoves g.owner (Some (turn epoch piece now session)) s.hub t.hub = turned_hub g.owner epoch piece now session s.hub here in
    let f : Focus g (Some session) r l = subst (λ (o : Option Session). Focus g o r l) here c.going.focus in
    record {
      focus =
          focus_hub g (Some (turn epoch piece now session)) s.hub t.hub end moves
          (focus_spoiled g session r l end f epoch piece j now refl c.seat admits c.fits c.is refl c.seat refl
          (put_next bytes piece after false false s t g.link draw [] c.going.front (sym (append-nil s.out)) c.grows));
      others = others_trans g.owner h s.hub t.hub c.going.others moves.others;
      front = c.going.front;
    }

-- ---- any turn

by_stands : (g : Ground) (h : Hub) (draw : ℕ → List ℕ) (bytes piece after : List ℕ) (now epoch j : ℕ) (s : Serving) (session : Session) (refusal : Option Refusal)
    → s.hub.session g.owner ≡ Some session → turn_refusal epoch piece now session ≡ refusal → Comes g h draw bytes piece after epoch j s
    → TurnStands g h draw after now epoch (turn_by refusal (turn_answer epoch piece now session) (seat_at g.owner epoch) piece now s)
by_stands g h draw bytes piece after now epoch j s session None here is c =
    let answer : TurnAnswer = turn_answer epoch piece now session in
    ended_stands g h draw after now epoch answer.ended answer.again (writes answer.out (does (Turn (seat_at g.owner epoch) piece now) s))
    (made_going g h draw bytes piece after now epoch j s session here is c) c.goes_on c.seat
by_stands g h draw bytes piece after now epoch j s session (Some (bad_ipc bad message)) here is c =
    stopped g h draw after now epoch _
    (closes_so g h draw now epoch BadIpc (does (Turn (seat_at g.owner epoch) piece now) s) (refused_by (bad_ipc bad message)) after
    (spoiled_going g h draw bytes piece after now epoch j s session here (bad_admits epoch piece now session bad message is) c))
by_stands g h draw bytes piece after now epoch j s session (Some (ended cause)) here is c = refuses_so g h draw bytes piece after now epoch j s (refused_by (ended cause)) c
by_stands g h draw bytes piece after now epoch j s session (Some (stale current)) here is c = refuses_so g h draw bytes piece after now epoch j s (refused_by (stale current)) c
by_stands g h draw bytes piece after now epoch j s session (Some no_link) here is c = refuses_so g h draw bytes piece after now epoch j s (refused_by no_link) c
by_stands g h draw bytes piece after now epoch j s session (Some (too_long n)) here is c = refuses_so g h draw bytes piece after now epoch j s (refused_by (too_long n)) c
by_stands g h draw bytes piece after now epoch j s session (Some (too_large n)) here is c = refuses_so g h draw bytes piece after now epoch j s (refused_by (too_large n)) c
by_stands g h draw bytes piece after now epoch j s session (Some ids_spent) here is c = refuses_so g h draw bytes piece after now epoch j s (refused_by ids_spent) c
by_stands g h draw bytes piece after now epoch j s session (Some (no_such_call id)) here is c = refuses_so g h draw bytes piece after now epoch j s (refused_by (no_such_call id)) c
by_stands g h draw bytes piece after now epoch j s session (Some wrong_kind) here is c = refuses_so g h draw bytes piece after now epoch j s (refused_by wrong_kind) c

in_stands : (g : Ground) (h : Hub) (draw : ℕ → List ℕ) (bytes piece after : List ℕ) (now epoch j : ℕ) (s : Serving) (o : Option Session) → s.hub.session g.owner ≡ o
    → Comes g h draw bytes piece after epoch j s → TurnStands g h draw after now epoch (turn_in o (seat_at g.owner epoch) piece now s)
in_stands g h draw bytes piece after now epoch j s None here c = quiet_so g h draw bytes piece after now epoch j s here c
in_stands g h draw bytes piece after now epoch j s (Some session) here c =
    by_stands g h draw bytes piece after now epoch j s session (turn_refusal epoch piece now session) here refl c

pub turned_stands : (g : Ground) (h : Hub) (draw : ℕ → List ℕ) (bytes piece after : List ℕ) (now epoch j : ℕ) (s : Serving) → Comes g h draw bytes piece after epoch j s
    → TurnStands g h draw after now epoch (turned (seat_at g.owner epoch) piece now s)
unfolding turned
turned_stands g h draw bytes piece after now epoch j s c = in_stands g h draw bytes piece after now epoch j s (s.hub.session g.owner) refl c

-- ---- all turns

pub comes_nothing : (g : Ground) (h : Hub) (draw : ℕ → List ℕ) (bytes : List ℕ) (epoch : ℕ) (s : Serving) → Going g h draw bytes false s → s.end ≡ None → s.seat ≡ Some (seat_at g.owner epoch)
    → Comes g h draw bytes [] bytes epoch 0 s
comes_nothing g h draw bytes epoch s going goes_on seat = record { going = going; goes_on = goes_on; seat = seat; fits = omega arith; is = refl; grows = sym (append-nil bytes) }

again_stands : (n : ℕ) (g : Ground) (h : Hub) (draw : ℕ → List ℕ) (bytes : List ℕ) (now epoch : ℕ) (t : Turned) → TurnStands g h draw bytes now epoch t
    → Stands g h draw bytes now (turned_again n (seat_at g.owner epoch) now t)
unfolding turned_again
again_stands zero g h draw bytes now epoch t x = x.stands
again_stands (suc n) g h draw bytes now epoch t x =
    cond_both t.again (turned_again n (seat_at g.owner epoch) now (turned (seat_at g.owner epoch) [] now t.after)) t.after (λ (u : Serving). Stands g h draw bytes now u)
    (λ is.
    let goes = x.goes is in
    again_stands n g h draw bytes now epoch (turned (seat_at g.owner epoch) [] now t.after)
    (turned_stands g h draw bytes [] bytes now epoch 0 t.after
    (comes_nothing g h draw bytes epoch t.after (stands_going g h draw bytes now t.after goes.0 x.stands) goes.0 goes.1)))
    (λ no. x.stands)

pub served_stands : (n : ℕ) (g : Ground) (h : Hub) (draw : ℕ → List ℕ) (bytes piece after : List ℕ) (now epoch j : ℕ) (s : Serving) → Comes g h draw bytes piece after epoch j s
    → Stands g h draw after now (served n (seat_at g.owner epoch) piece now s)
unfolding served
served_stands n g h draw bytes piece after now epoch j s c =
    again_stands n g h draw after now epoch (turned (seat_at g.owner epoch) piece now s) (turned_stands g h draw bytes piece after now epoch j s c)
