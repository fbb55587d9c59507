-- A link whose client has asked for its session: it is refused, or admitted and attached.
use Rattle.std.proofs.Common.{◌≡◌, ℕ, suc, ◌+◌, ◌≤◌, true, false, Option, Some, None, List, [], ◌∷◌, ◌++◌, length, drop, refl, ap, sym, ◌∙◌, subst, arith, append-nil, append_assoc}
use Rattle.std.specs.Prelude.{slice_get}
use Rattle.std.proofs.lemmas.List.{length-append, drop_all}
use Rattle.ra_base.specs.declared.event.Side.TheVariants.{A}
use Rattle.ra_base.specs.declared.handshake.Reason.{Reason}
use Rattle.ra_base.specs.declared.key.Seat.{Seat}
use Rattle.ra_base.specs.declared.kind.Kind.{Kind}
use Rattle.ra_base.specs.declared.kind.Kind.TheVariants.{Management, ExtensionHost, Tunnel}
use Rattle.ra_model.specs.declared.frame.Frame.{Frame}
use Rattle.ra_model.specs.Frames.{frame_bytes, joined}
use Rattle.ra_model.specs.FrameKinds.{pause_frame}
use Rattle.ra_model.specs.Links.{Link, at_number}
use Rattle.ra_model.specs.Pairs.{AllHonest}
use Rattle.ra_model.proofs.CallMoves.{honest_pause}
use Rattle.ra_registry.specs.declared.row.Row.{Row}
use Rattle.ra_registry.specs.Admission.{admission_refusal, next_epoch}
use Rattle.ra_registry.specs.Rows.{epoch_of}
use Rattle.ra_session.specs.SessionCalls.{attach}
use Rattle.ra_session.specs.SessionRefusals.{Refusal, attach_refusal}
use Rattle.ra_session.specs.Sessions.{Session}
use Rattle.ra_shake.specs.Made.{made_text}
use Rattle.ra_opening.specs.Verdicts.{refusal_bytes, acceptance_bytes}
use Rattle.ra_hub.specs.Hubs.{Hub, row}
use Rattle.ra_link_core.specs.HubEvents.HubEvent.{Admit, Attach}
use Rattle.ra_link_core.specs.LinkRuns.{request_refused, refused_by, Serving, Welcome, writes, does, ends_by, turns_for, attached_by, attached_in, attached, pause_bytes, welcomed, asked_by, asked}
use Rattle.ra_views.specs.SessionViews.{link_with}
use Rattle.ra_grand_runs.specs.GrandClients.{GrandLink}
use Rattle.ra_grand_runs.specs.Reached.{Begins}
use Rattle.ra_grand_runs.specs.ServedLinks.{left}
use Rattle.ra_run_laws.proofs.Lists.{there_is, none_there}
use Rattle.ra_handshake_laws.specs.Handshakes.{client_text, greeting, request_for, Speaks}
use Rattle.ra_link_laws.specs.Parts.{Drawn, Carries, IsWelcome, IsSeated, LinkKeeps}
use Rattle.ra_link_laws.proofs.HubMoves.{OthersStay, HubMoves, HubCalls, HubAdmits, IsOwn, others_trans, refused_hub, admitted_hub, attached_hub, left_hub, next_is}
use Rattle.ra_link_laws.proofs.SeatTurns.{comes_nothing, served_stands}
use Rattle.ra_link_laws.proofs.ServedFocus.{Ground, Focus}
use Rattle.ra_link_laws.proofs.ServedMoves.{focus_moved, focus_admitted}
use Rattle.ra_link_laws.proofs.ServedRuns.{link_after, put_first, Going, Stands, going_stands, focus_hub, focus_calls, ends_so}
use Rattle.ra_link_laws.proofs.ServedTexts.{Follows, IsPut, follows_nothing, put_begins, keeps_put, below_put, welcome_none, over_stands}
use Rattle.ra_link_laws.proofs.ServedTurns.{seat_at, focus_attached}

-- ---- a link without a seat, of which these bytes were read now, and on which this was written

pub record IsNew (g : Ground) (h : Hub) (bytes : List ℕ) (s : Serving) : Type 0 where
  pub focus : Focus g (s.hub.session g.owner) (row s.hub g.owner) g.link
  pub others : OthersStay g.owner h s.hub
  pub none : g.link.server.welcome ≡ None
  pub welcome : s.welcome ≡ None
  pub seat : s.seat ≡ None
  pub goes_on : s.end ≡ None
  pub more : List ℕ
  pub grows : s.out ≡ g.link.server.out ++ more
  pub follows : Follows bytes g.link.link.to_b

-- it is over, with what was written for that
pub over_now : (g : Ground) (h : Hub) (draw : ℕ → List ℕ) (bytes : List ℕ) (now : ℕ) (s t : Serving) (new : IsNew g h bytes s) (more : List ℕ) → HubCalls g.owner s.hub t.hub
    → t.out ≡ s.out ++ more → t.seat ≡ None → t.welcome ≡ None → Speaks g.owner.kind (g.draws g.place).key None t.out → Going g h draw bytes true (left now t)
over_now g h draw bytes now s t new more calls is seat welcome speaks =
    let d : Drawn = g.draws g.place in
    let u : Serving = left now t in
    let after : GrandLink = link_after bytes true u g.link draw in
    let f = new.focus in
    let out : t.out ≡ g.link.server.out ++ (new.more ++ more) = is ∙ ap (λ (v : List ℕ). v ++ more) new.grows ∙ append_assoc g.link.server.out new.more more in
    let put : IsPut (new.more ++ more) g.link after bytes = put_first bytes true u g.link draw (new.more ++ more) out in
    let leaves : HubCalls g.owner t.hub u.hub = left_hub g.owner t.seat now t.hub (subst (λ (o : Option Seat). IsOwn g.owner o) (sym seat) tt) in
    let here : LinkKeeps g.owner d f.session_links f.present after =
    keeps_put g.owner d f.session_links f.session_links f.present f.present g.link after bytes (new.more ++ more) f.here new.follows put
    (subst (λ (o : Option Welcome). Speaks g.owner.kind d.key o t.out) (sym welcome) speaks)
    (welcome_none g.owner d f.session_links f.session_links g.link after bytes (new.more ++ more) put new.none welcome f.here.welcome)
    (over_stands g.owner f.session_links f.present after true None refl refl) in
    let moved : Focus g (s.hub.session g.owner) (row s.hub g.owner) after =
    focus_moved g (s.hub.session g.owner) (row s.hub g.owner) g.link after f here
    (below_put g.owner d f.session_links f.present g.link g.link after bytes (new.more ++ more) f.here put (λ v at. none_there (sym new.none ∙ at)) f.stays) (welcome ∙ sym new.none) in
    record {
      focus = focus_calls g t.hub u.hub after leaves (focus_calls g s.hub t.hub after calls moved);
      others = others_trans g.owner h t.hub u.hub (others_trans g.owner h s.hub t.hub new.others calls.moves.others) leaves.moves.others;
      front = record { rest = new.more ++ more; same = out };
    }

-- ---- the client has asked

pub record HasAsked (g : Ground) (first bytes : List ℕ) (place : ℕ) (s : Serving) : Type 0 where
  pub out : s.out ≡ greeting (g.draws g.place).key first (made_text (g.draws g.place).own)
  pub theirs : List ℕ
  pub all : g.link.link.to_b.written ≡ client_text g.owner (g.draws g.place).reconnection (g.draws g.place).key (g.draws g.place).own theirs
  pub at : place ≡ length g.link.link.to_b.written
  pub read : place ≡ g.link.link.to_b.read + length bytes

-- the request is refused
pub refuses_stands : (g : Ground) (h : Hub) (draw : ℕ → List ℕ) (first bytes : List ℕ) (place now : ℕ) (reason : Reason) (s : Serving) → IsNew g h bytes s → HasAsked g first bytes place s
    → admission_refusal s.hub.registry (request_for g.owner (g.draws g.place).reconnection) now ≡ Some reason
    → Stands g h draw bytes now (ends_by (request_refused reason) (writes (refusal_bytes reason) (does (Admit (request_for g.owner (g.draws g.place).reconnection) now) s)))
refuses_stands g h draw first bytes place now reason s new asks is =
    let d : Drawn = g.draws g.place in
    let t : Serving = ends_by (request_refused reason) (writes (refusal_bytes reason) (does (Admit (request_for g.owner d.reconnection) now) s)) in
    over_now g h draw bytes now s t new (refusal_bytes reason) (refused_hub g.owner d.reconnection now reason s.hub is) refl new.seat new.welcome
    (first, made_text d.own, reason, [], append-nil t.out ∙ ap (λ (v : List ℕ). v ++ refusal_bytes reason) asks.out)

-- ---- it is admitted

-- what a link of the session begins with
pause_frames : Kind → List Frame
pause_frames Management = []
pause_frames ExtensionHost = pause_frame ∷ []
pause_frames Tunnel = []

paused_text : (kind : Kind) → joined (pause_frames kind) ≡ pause_bytes kind
unfolding pause_frames
paused_text Management = refl
paused_text ExtensionHost = append-nil (frame_bytes pause_frame)
paused_text Tunnel = refl

paused_honest : (kind : Kind) (said : List (List ℕ)) (received : ℕ) → AllHonest 0 said received (pause_frames kind)
unfolding pause_frames
paused_honest Management said received = tt
paused_honest ExtensionHost said received = (honest_pause 0 said received, tt)
paused_honest Tunnel said received = tt

get_last : {X : Type 0} → (xs : List X) (x : X) → slice_get (xs ++ x ∷ []) (length xs) ≡ Some x
get_last [] x = refl
get_last (y ∷ xs) x = get_last xs x

number_last : {X : Type 0} → (xs : List X) (x : X) (n : ℕ) → n ≡ length xs + 1 → at_number (xs ++ x ∷ []) n ≡ Some x
number_last xs x n is =
    let at : n ≡ suc (length xs) = omega (arith, is) in
    ap (λ (k : ℕ). at_number (xs ++ x ∷ []) k) at ∙ get_last xs x

-- the link with its welcome
unfoldable pub admitted_link : (g : Ground) (place now : ℕ) (s : Serving) → Serving
admitted_link g place now s =
    welcomed (seat_at g.owner (next_epoch (row s.hub g.owner))) place
    (writes (acceptance_bytes g.owner.kind) (does (Admit (request_for g.owner (g.draws g.place).reconnection) now) s))

pub admits_going : (g : Ground) (h : Hub) (draw : ℕ → List ℕ) (first bytes : List ℕ) (place now : ℕ) (s : Serving) → IsNew g h bytes s → HasAsked g first bytes place s
    → admission_refusal s.hub.registry (request_for g.owner (g.draws g.place).reconnection) now ≡ None → Going g h draw bytes false (admitted_link g place now s)
unfolding admitted_link
admits_going g h draw first bytes place now s new asks admits =
    let d : Drawn = g.draws g.place in
    let t : Serving = admitted_link g place now s in
    let f = new.focus in
    let o : Option Row = row s.hub g.owner in
    let more : List ℕ = new.more ++ acceptance_bytes g.owner.kind in
    let after : GrandLink = link_after bytes false t g.link draw in
    let changes : HubAdmits g.owner s.hub t.hub = admitted_hub g.owner d.reconnection now s.hub admits f.both in
    let w : Welcome = record { epoch = next_epoch o; up = place; down = length t.out; pause = pause_bytes g.owner.kind } in
    let frames : List Frame = pause_frames g.owner.kind in
    let x : Link = link_with A frames g.link.link.is_cut in
    let session_links : List Link = f.session_links ++ x ∷ [] in
    let out : t.out ≡ g.link.server.out ++ more = ap (λ (v : List ℕ). v ++ acceptance_bytes g.owner.kind) new.grows ∙ append_assoc g.link.server.out new.more (acceptance_bytes g.owner.kind) in
    let put : IsPut more g.link after bytes = put_first bytes false t g.link draw more out in
    let next : next_epoch o ≡ epoch_of o + 1 = next_is o in
    let counted : length f.session_links ≡ epoch_of o = f.count in
    let said : t.out ≡ greeting d.key first (made_text d.own) ++ acceptance_bytes g.owner.kind = ap (λ (v : List ℕ). v ++ acceptance_bytes g.owner.kind) asks.out in
    let begins : Begins t.out after.link.to_a.written =
    subst (λ (k : Link). Begins t.out k.to_a.written) (sym put.link)
    (put_begins g.link.link.is_cut g.link.link.to_a.written g.link.server.out more t.out f.here.put f.here.put_all out) in
    let within : length t.out ≡ length after.link.to_a.written + length begins.rest = ap (λ (v : List ℕ). length v) begins.same ∙ length-append after.link.to_a.written begins.rest in
    let at : place ≡ length g.link.link.to_b.written = asks.at in
    let rest : drop place g.link.link.to_b.written ≡ [] = drop_all place g.link.link.to_b.written (omega (arith, at)) in
    let none : drop (length t.out) after.link.to_a.written ≡ [] = drop_all (length t.out) after.link.to_a.written (omega (arith, within)) in
    let carries : Carries w after.link x = record {
      up = sym rest;
      down = paused_text g.owner.kind ∙ sym (ap (λ (v : List ℕ). pause_bytes g.owner.kind ++ v) none ∙ append-nil (pause_bytes g.owner.kind));
      cut = refl;
    } in
    let welcome : IsWelcome g.owner d session_links after w = record {
      theirs = asks.theirs;
      place = at ∙ ap (λ (v : List ℕ). length v) asks.all;
      there = omega (arith, at);
      session_link = x;
      is_at = number_last f.session_links x (next_epoch o) (omega (arith, next, counted));
      carries = carries;
    } in
    let under : f.present ≤ length f.session_links = f.view.theirs.there in
    let seated : IsSeated g.owner session_links f.present after (seat_at g.owner (next_epoch o)) = record {
      welcome = w;
      is_there = refl;
      key = refl;
      number = refl;
      said = omega arith;
      read = λ is z there. absurd (omega (arith, is, under, next, counted));
    } in
    let here : LinkKeeps g.owner d session_links f.present after =
    keeps_put g.owner d f.session_links session_links f.present f.present g.link after bytes more f.here new.follows put
    (first, made_text d.own, record { more = []; rest = []; same = ap (λ (v : List ℕ). v ++ []) said }, ap (λ (v : List ℕ). length v) said, refl) welcome seated in
    record {
      focus =
          focus_admitted g (s.hub.session g.owner) (t.hub.session g.owner) o (row t.hub g.owner) g.link after f w frames g.link.link.is_cut refl next (changes.epoch ∙ sym next) changes.there changes.becomes
          (λ said received. paused_honest g.owner.kind said received) here
          (below_put g.owner d f.session_links f.present g.link g.link after bytes more f.here put (λ v is. none_there (sym new.none ∙ is)) f.stays);
      others = others_trans g.owner h s.hub t.hub new.others changes.others;
      front = record { rest = more; same = out };
    }

-- ---- and the session begins there

pub attaches_going : (g : Ground) (h : Hub) (draw : ℕ → List ℕ) (bytes : List ℕ) (now epoch : ℕ) (t : Serving) (session : Session) → t.hub.session g.owner ≡ Some session
    → attach_refusal epoch session ≡ None → Going g h draw bytes false t → t.seat ≡ Some (seat_at g.owner epoch)
    → ((u : Welcome) → t.welcome ≡ Some u → g.link.link.to_b.read + length bytes ≡ u.up) → Going g h draw bytes false (does (Attach (seat_at g.owner epoch) [] now) t)
attaches_going g h draw bytes now epoch t session here is going seat all =
    let l : GrandLink = link_after bytes false t g.link draw in
    let f : Focus g (Some session) (row t.hub g.owner) l = subst (λ (q : Option Session). Focus g q (row t.hub g.owner) l) here going.focus in
    let u : Serving = does (Attach (seat_at g.owner epoch) [] now) t in
    let moves : HubMoves g.owner (Some (attach epoch [] now session)) t.hub u.hub = attached_hub g.owner epoch [] now session t.hub here in
    record {
      focus = focus_hub g (Some (attach epoch [] now session)) t.hub u.hub l moves (focus_attached g session (row t.hub g.owner) l f epoch now refl seat is all);
      others = others_trans g.owner h t.hub u.hub going.others moves.others;
      front = going.front;
    }

attached_stands : (g : Ground) (h : Hub) (draw : ℕ → List ℕ) (bytes : List ℕ) (now epoch : ℕ) (t : Serving) (o : Option Session) → t.hub.session g.owner ≡ o → Going g h draw bytes false t
    → t.end ≡ None → t.seat ≡ Some (seat_at g.owner epoch) → ((u : Welcome) → t.welcome ≡ Some u → g.link.link.to_b.read + length bytes ≡ u.up)
    → Stands g h draw bytes now (attached_in o (seat_at g.owner epoch) [] now t)
attached_stands g h draw bytes now epoch t None here going goes seat all = going_stands g h draw bytes now t goes going
attached_stands g h draw bytes now epoch t (Some session) here going goes seat all = by (attach_refusal epoch session) refl
  where
    l : GrandLink
    l = link_after bytes false t g.link draw

    u : Serving
    u = does (Attach (seat_at g.owner epoch) [] now) t

    by : (r : Option Refusal) → attach_refusal epoch session ≡ r → Stands g h draw bytes now (attached_by r (seat_at g.owner epoch) [] now t)
    by (Some refusal) is =
        ends_so g h draw now t (refused_by refusal) bytes [] bytes going (subst (λ (q : Option Seat). IsOwn g.owner q) (sym seat) refl) (sym (append-nil bytes))
        (follows_nothing l.link.to_b going.focus.here.up)
    by None is =
        served_stands (turns_for []) g h draw bytes [] bytes now epoch 0 u
        (comes_nothing g h draw bytes epoch u (attaches_going g h draw bytes now epoch t session here is going seat all) goes seat)

begins_so : (g : Ground) (h : Hub) (draw : ℕ → List ℕ) (bytes : List ℕ) (now epoch : ℕ) (t : Serving) → Going g h draw bytes false t → t.end ≡ None
    → t.seat ≡ Some (seat_at g.owner epoch) → ((u : Welcome) → t.welcome ≡ Some u → g.link.link.to_b.read + length bytes ≡ u.up)
    → Stands g h draw bytes now (attached (seat_at g.owner epoch) [] now t)
unfolding attached
begins_so g h draw bytes now epoch t going goes seat all = attached_stands g h draw bytes now epoch t (t.hub.session g.owner) refl going goes seat all

-- ---- all of it

asked_so : (g : Ground) (h : Hub) (draw : ℕ → List ℕ) (first bytes : List ℕ) (place now : ℕ) (s : Serving) (r : Option Reason) → IsNew g h bytes s → HasAsked g first bytes place s
    → admission_refusal s.hub.registry (request_for g.owner (g.draws g.place).reconnection) now ≡ r
    → Stands g h draw bytes now
    (asked_by r (seat_at g.owner (next_epoch (row s.hub g.owner))) place [] now (does (Admit (request_for g.owner (g.draws g.place).reconnection) now) s))
unfolding admitted_link
asked_so g h draw first bytes place now s (Some reason) new asks is = refuses_stands g h draw first bytes place now reason s new asks is
asked_so g h draw first bytes place now s None new asks is =
    let t : Serving = admitted_link g place now s in
    let read : place ≡ g.link.link.to_b.read + length bytes = asks.read in
    begins_so g h draw bytes now (next_epoch (row s.hub g.owner)) t (admits_going g h draw first bytes place now s new asks is) new.goes_on refl
    (λ u there. sym read ∙ ap (λ (v : Welcome). v.up) (there_is there))

pub asked_stands : (g : Ground) (h : Hub) (draw : ℕ → List ℕ) (first bytes : List ℕ) (place now : ℕ) (s : Serving) → IsNew g h bytes s → HasAsked g first bytes place s
    → Stands g h draw bytes now (asked (request_for g.owner (g.draws g.place).reconnection) place [] now s)
unfolding asked
asked_stands g h draw first bytes place now s new asks =
    asked_so g h draw first bytes place now s (admission_refusal s.hub.registry (request_for g.owner (g.draws g.place).reconnection) now) new asks refl
