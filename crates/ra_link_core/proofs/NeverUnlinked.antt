-- A served link whose session stays on it.
use Rattle.std.proofs.Common.{◌≡◌, ◌≢◌, ℕ, zero, suc, Bool, true, false, cond, Option, Some, None, List, [], ◌∷◌, refl, sym, ap, subst, ◌∙◌}
use Rattle.ra_base.specs.declared.handshake.Reason.{Reason}
use Rattle.ra_base.specs.declared.handshake.Request.{Request}
use Rattle.ra_base.specs.declared.key.Cause.{Cause}
use Rattle.ra_base.specs.declared.key.Key.{Key}
use Rattle.ra_base.specs.declared.key.Seat.{Seat}
use Rattle.ra_items.specs.Heads.{Head}
use Rattle.ra_opening.specs.declared.ends.OpeningEnd.{OpeningEnd}
use Rattle.ra_opening.specs.declared.ends.OpeningEnd.TheVariants as opening_ends
use Rattle.ra_opening.specs.Openings.{Grounds, opened}
use Rattle.ra_opening.specs.Openings.{Stage}
use Rattle.ra_opening.specs.Openings.Stage.{Heading, Shaking, Asked, Over}
use Rattle.ra_registry.specs.Admission.{admission_refusal, seat_for, key_of}
use Rattle.ra_registry.specs.Rows.{same_key}
use Rattle.ra_registry.proofs.SameKeys.{same_key_itself}
use Rattle.ra_session.specs.OnLinks.{IsOnLink, IsRunning}
use Rattle.ra_session.specs.Saying.{serving}
use Rattle.ra_session.specs.SessionCalls.{attach}
use Rattle.ra_session.specs.SessionRefusals.{Refusal, ended, stale, no_link, too_long, bad_ipc, too_large, ids_spent, no_such_call, wrong_kind, attach_refusal}
use Rattle.ra_session.specs.Sessions.{Session}
use Rattle.ra_session.specs.TurnRefusals.{turn_refusal}
use Rattle.ra_session.specs.Turns.{turn, turn_answer}
use Rattle.ra_session.proofs.LinkLaws.{attach_on, turn_on, turn_never}
use Rattle.ra_upgrade.specs.declared.request_head.HeadFault.{HeadFault}
use Rattle.ra_upgrade.specs.declared.request_head.Upgrade.{Upgrade}
use Rattle.ra_hub.specs.Hubs.{Hub, at_key, admitted, refused}
use Rattle.ra_hub.specs.Jobs.{SeenJob}
use Rattle.ra_base.specs.declared.kind.Kind.{Kind}
use Rattle.ra_model.specs.Refusals.{or_fault, fault_if}
use Rattle.std.specs.Prelude.{option_map, nat_le, drop}
use Rattle.ra_link_core.specs.HubEvents.{event_done, on_session, judged_by}
use Rattle.ra_link_core.specs.HubEvents.HubEvent.{Admit, Attach, Turn}
use Rattle.ra_link_core.specs.LinkRuns.{Piece, End, head_refused, request_refused, refused_by, Serving, new_serving, writes, does, Turned, stops, turn_refused, turn_ended, turn_by, turn_in, turned, turned_again, turns_for, served, attached_by, attached_in, attached, asked_by, asked, opening_end, opening_by, with_piece, piece_by, piece_done, link_run}
use Rattle.ra_hub.specs.Running.{HubRuns}

-- ---- the session of a seat

abbrev pub OnLinkAt : Seat → Hub → Type 0
OnLinkAt seat h = (x : Session) → h.session seat.key ≡ Some x → IsOnLink seat.epoch x

abbrev pub SeatSound : Option Seat → Option End → Hub → Type 0
SeatSound None end h = end ≡ None → HubRuns h
SeatSound (Some seat) end h = end ≡ None → OnLinkAt seat h

pub record Sound (s : Serving) : Type 0 where
  pub never : s.end ≢ Some (refused_by no_link)
  pub seated : SeatSound s.seat s.end s.hub

ended_sound : (seat : Option Seat) (end : End) (h : Hub) → SeatSound seat (Some end) h
ended_sound None end h = λ is. cc
ended_sound (Some seat) end h = λ is. cc

none_never : (end : Option End) → end ≡ None → end ≢ Some (refused_by no_link)
none_never end is other = none_some (sym is ∙ other)
  where
    none_some : None ≡ Some (refused_by no_link) → ⊥
    none_some e = cc

seated_sound : (seat : Seat) (s : Serving) → s.seat ≡ Some seat → s.end ≡ None → OnLinkAt seat s.hub → Sound s
seated_sound seat s is none on = record {
  never = none_never s.end none;
  seated = subst (λ (o : Option Seat). SeatSound o s.end s.hub) (sym is) (λ still. on);
}

from : Session → Option Session → Session
from d None = d
from d (Some x) = x

pub is_that : (a b : Session) → Some a ≡ Some b → a ≡ b
unfolding from
is_that a b e = ap (λ (o : Option Session). from a o) e

-- the session that was set
set_on : (seat : Seat) (h : Hub) (t : Session) → IsOnLink seat.epoch t → OnLinkAt seat (at_key seat.key t h)
set_on seat h t on x is =
    subst (λ (y : Session). IsOnLink seat.epoch y)
    (is_that t x (sym (ap (λ (b : Bool). cond b (Some t) (h.session seat.key)) (same_key_itself seat.key)) ∙ is)) on

turn_event : (seat : Seat) (piece : List ℕ) (now : ℕ) (h : Hub) (x : Session) → h.session seat.key ≡ Some x → OnLinkAt seat h → OnLinkAt seat (event_done (Turn seat piece now) h)
unfolding event_done
turn_event seat piece now h x is on = here (h.session seat.key) is
  where
    here : (o : Option Session) → o ≡ Some x → OnLinkAt seat (on_session o (λ (s : Session). at_key seat.key (turn seat.epoch piece now s) h) h)
    here None none = cc
    here (Some y) some =
        set_on seat h (turn seat.epoch piece now y) (turn_on seat.epoch piece now y (subst (λ (z : Session). IsOnLink seat.epoch z) (sym (is_that y x some)) (on x is)))

attach_event : (seat : Seat) (chunk : List ℕ) (now : ℕ) (h : Hub) (x : Session) → h.session seat.key ≡ Some x → IsRunning x → attach_refusal seat.epoch x ≡ None
    → OnLinkAt seat (event_done (Attach seat chunk now) h)
unfolding event_done
attach_event seat chunk now h x is runs admits = here (h.session seat.key) is
  where
    here : (o : Option Session) → o ≡ Some x → OnLinkAt seat (on_session o (λ (s : Session). at_key seat.key (attach seat.epoch chunk now s) h) h)
    here None none = cc
    here (Some y) some =
        set_on seat h (attach seat.epoch chunk now y)
        (subst (λ (z : Session). IsOnLink seat.epoch (attach seat.epoch chunk now z)) (sym (is_that y x some)) (attach_on seat.epoch chunk now x runs admits))

-- ---- turns

record TurnSound (seat : Seat) (t : Turned) : Type 0 where
  after : Sound t.after
  more : t.again ≡ true → (t.after.end ≡ None) × (t.after.seat ≡ Some seat) × OnLinkAt seat t.after.hub

stops_sound : (seat : Seat) (s : Serving) → Sound s → TurnSound seat (stops s)
stops_sound seat s sound = record { after = sound; more = λ is. cc }

refused_sound : (r : Refusal) (seat : Seat) (piece : List ℕ) (now : ℕ) (s : Serving) → (r ≡ no_link → ⊥) → Sound (turn_refused r seat piece now s)
refused_sound (bad_ipc bad message) seat piece now s other = record { never = λ is. cc; seated = λ is. cc }
refused_sound (ended cause) seat piece now s other = record { never = λ is. cc; seated = ended_sound s.seat _ s.hub }
refused_sound (stale current) seat piece now s other = record { never = λ is. cc; seated = ended_sound s.seat _ s.hub }
refused_sound no_link seat piece now s other = absurd (other refl)
refused_sound (too_long n) seat piece now s other = record { never = λ is. cc; seated = ended_sound s.seat _ s.hub }
refused_sound (too_large n) seat piece now s other = record { never = λ is. cc; seated = ended_sound s.seat _ s.hub }
refused_sound ids_spent seat piece now s other = record { never = λ is. cc; seated = ended_sound s.seat _ s.hub }
refused_sound (no_such_call id) seat piece now s other = record { never = λ is. cc; seated = ended_sound s.seat _ s.hub }
refused_sound wrong_kind seat piece now s other = record { never = λ is. cc; seated = ended_sound s.seat _ s.hub }

turn_ended_sound : (c : Option Cause) (again : Bool) (seat : Seat) (now : ℕ) (s : Serving) → s.seat ≡ Some seat → s.end ≡ None → OnLinkAt seat s.hub
    → TurnSound seat (turn_ended c again seat now s)
turn_ended_sound None again seat now s is none on = record { after = seated_sound seat s is none on; more = λ more. (none, is, on) }
turn_ended_sound (Some cause) again seat now s is none on = stops_sound seat _ (record { never = λ bad. cc; seated = λ bad. cc })

turn_sound : (seat : Seat) (piece : List ℕ) (now : ℕ) (s : Serving) → s.seat ≡ Some seat → s.end ≡ None → OnLinkAt seat s.hub → TurnSound seat (turned seat piece now s)
unfolding turned
turn_sound seat piece now s is none on = here (s.hub.session seat.key) refl
  where
    by : (x : Session) (r : Option Refusal) → s.hub.session seat.key ≡ Some x → turn_refusal seat.epoch piece now x ≡ r
        → TurnSound seat (turn_by r (turn_answer seat.epoch piece now x) seat piece now s)
    by x (Some r) there refuses =
        stops_sound seat _ (refused_sound r seat piece now s (λ e. turn_never seat.epoch piece now x (on x there) (refuses ∙ ap Some e)))
    by x None there admits =
        turn_ended_sound (turn_answer seat.epoch piece now x).ended (turn_answer seat.epoch piece now x).again seat now
        (writes (turn_answer seat.epoch piece now x).out (does (Turn seat piece now) s)) is none (turn_event seat piece now s.hub x there on)

    here : (o : Option Session) → s.hub.session seat.key ≡ o → TurnSound seat (turn_in o seat piece now s)
    here None there = stops_sound seat s (seated_sound seat s is none on)
    here (Some x) there = by x (turn_refusal seat.epoch piece now x) there refl

one_more : (seat : Seat) (now : ℕ) (t : Turned) → TurnSound seat t → (rest : Serving) → (TurnSound seat (turned seat [] now t.after) → Sound rest) → Sound (cond t.again rest t.after)
one_more seat now t sound rest goes = here t.again refl
  where
    here : (b : Bool) → t.again ≡ b → Sound (cond b rest t.after)
    here true is = let more = sound.more is in goes (turn_sound seat [] now t.after more.1 more.0 more.2)
    here false is = sound.after

again_sound : (n : ℕ) (seat : Seat) (now : ℕ) (t : Turned) → TurnSound seat t → Sound (turned_again n seat now t)
unfolding turned_again
again_sound zero seat now t sound = sound.after
again_sound (suc n) seat now t sound =
    one_more seat now t sound (turned_again n seat now (turned seat [] now t.after)) (λ next. again_sound n seat now (turned seat [] now t.after) next)

served_sound : (n : ℕ) (seat : Seat) (piece : List ℕ) (now : ℕ) (s : Serving) → s.seat ≡ Some seat → s.end ≡ None → OnLinkAt seat s.hub → Sound (served n seat piece now s)
unfolding served
served_sound n seat piece now s is none on = again_sound n seat now (turned seat piece now s) (turn_sound seat piece now s is none on)

-- ---- requests

attach_never : (epoch : ℕ) (x : Session) (r : Refusal) → attach_refusal epoch x ≡ Some r → r ≡ no_link → ⊥
unfolding attach_refusal
attach_never epoch x r is other = here x.cause (nat_le epoch x.peer.endpoint.epoch) (is ∙ ap Some other)
  where
    here : (c : Option Cause) (b : Bool) → or_fault (option_map (λ cause. ended cause) c) (fault_if b (stale x.peer.endpoint.epoch)) ≡ Some no_link → ⊥
    here None true e = cc
    here None false e = cc
    here (Some cause) b e = cc

attached_sound : (seat : Seat) (chunk : List ℕ) (now : ℕ) (s : Serving) → s.seat ≡ Some seat → s.end ≡ None
    → ((x : Session) → s.hub.session seat.key ≡ Some x → IsRunning x) → Sound (attached seat chunk now s)
unfolding attached
attached_sound seat chunk now s is none runs = here (s.hub.session seat.key) refl
  where
    none_some : {T : Type 0} (x : Session) → None ≡ Some x → T
    none_some x e = cc

    by : (x : Session) (r : Option Refusal) → s.hub.session seat.key ≡ Some x → attach_refusal seat.epoch x ≡ r → Sound (attached_by r seat chunk now s)
    by x (Some r) there refuses = record {
      never = λ bad. attach_never seat.epoch x r refuses (refused_is r bad);
      seated = ended_sound s.seat (refused_by r) s.hub;
    }
      where
        refusal_in : Option End → Refusal
        refusal_in None = wrong_kind
        refusal_in (Some (head_refused fault)) = wrong_kind
        refusal_in (Some (request_refused reason)) = wrong_kind
        refusal_in (Some (refused_by q)) = q

        refused_is : (q : Refusal) → Some (refused_by q) ≡ Some (refused_by no_link) → q ≡ no_link
        refused_is q e = ap refusal_in e
    by x None there admits =
        served_sound (turns_for chunk) seat [] now (does (Attach seat chunk now) s) is none (attach_event seat chunk now s.hub x there (runs x there) admits)

    here : (o : Option Session) → s.hub.session seat.key ≡ o → Sound (attached_in o seat chunk now s)
    here None there = seated_sound seat s is none (λ x some. none_some x (sym there ∙ some))
    here (Some x) there = by x (attach_refusal seat.epoch x) there refl

new_runs : (kind : Kind) (now : ℕ) → IsRunning (serving kind now)
new_runs kind now going = refl

pub admit_runs : (request : Request) (now : ℕ) (h : Hub) → HubRuns h → HubRuns (event_done (Admit request now) h)
unfolding event_done admitted refused
admit_runs request now h runs = judged (admission_refusal h.registry request now)
  where
    set : (b : Bool) (key other : Key) (x : Session) → cond b (Some (serving key.kind now)) (h.session other) ≡ Some x → IsRunning x
    set true key other x is = subst (λ (y : Session). IsRunning y) (is_that (serving key.kind now) x is) (new_runs key.kind now)
    set false key other x is = runs other x is

    made : (b : Bool) → HubRuns (cond b h (at_key (key_of request) (serving (key_of request).kind now) h))
    made true = runs
    made false = λ other x is. set (same_key (key_of request) other) (key_of request) other x is

    judged : (r : Option Reason) → HubRuns (judged_by r request now h)
    judged None = made request.reconnection
    judged (Some reason) = runs

asked_sound : (request : Request) (place : ℕ) (chunk : List ℕ) (now : ℕ) (s : Serving) → s.seat ≡ None → s.end ≡ None → HubRuns s.hub → Sound (asked request place chunk now s)
unfolding asked
asked_sound request place chunk now s is none runs = by (admission_refusal s.hub.registry request now)
  where
    by : (r : Option Reason) → Sound (asked_by r (seat_for s.hub.registry request) place chunk now (does (Admit request now) s))
    by (Some reason) = record { never = λ bad. cc; seated = ended_sound s.seat _ _ }
    by None =
        attached_sound (seat_for s.hub.registry request) chunk now _ refl none
        (λ x there. admit_runs request now s.hub runs (seat_for s.hub.registry request).key x there)

-- ---- the whole link

over_never : (end : OpeningEnd) → opening_end end ≢ Some (refused_by no_link)
over_never (opening_ends.BadHead fault) is = cc
over_never (opening_ends.Refused reason) is = cc
over_never (opening_ends.TooLong n) is = cc
over_never opening_ends.Left is = cc
over_never opening_ends.NoMemory is = cc

opening_sound : (stage : Stage) (text : List ℕ) (now : ℕ) (s : Serving) → s.seat ≡ None → s.end ≡ None → HubRuns s.hub → Sound (opening_by stage text now s)
opening_sound Heading text now s is none runs = record { never = none_never s.end none; seated = subst (λ (o : Option Seat). SeatSound o s.end s.hub) (sym is) (λ still. runs) }
opening_sound (Shaking shake) text now s is none runs = record { never = none_never s.end none; seated = subst (λ (o : Option Seat). SeatSound o s.end s.hub) (sym is) (λ still. runs) }
opening_sound (Asked request place) text now s is none runs = asked_sound request place (drop place text) now s is none runs
opening_sound (Over end) text now s is none runs = record {
  never = over_never end;
  seated = subst (λ (o : Option Seat). SeatSound o (opening_end end) s.hub) (sym is) (λ still. runs);
}

pub piece_sound : (grounds : Grounds) (head : Head Upgrade HeadFault) (before : List ℕ) (piece : Piece) (s : Serving) → Sound s → Sound (piece_done grounds head before piece s)
unfolding piece_done
piece_sound grounds head before piece s sound = here s.end s.seat refl refl
  where
    here : (end : Option End) (seat : Option Seat) → s.end ≡ end → s.seat ≡ seat → Sound (piece_by end seat grounds (with_piece head before piece.bytes) head piece s)
    here (Some end) seat is at = sound
    here None (Some seat) is at =
        served_sound (turns_for piece.bytes) seat piece.bytes piece.now s at is (subst (λ (o : Option Seat). SeatSound o s.end s.hub) at sound.seated is)
    here None None is at =
        opening_sound (opened grounds head (with_piece head before piece.bytes)).stage (with_piece head before piece.bytes) piece.now _ at is
        (subst (λ (o : Option Seat). SeatSound o s.end s.hub) at sound.seated is)

run_sound : (grounds : Grounds) (head : Head Upgrade HeadFault) (text : List ℕ) (pieces : List Piece) (s : Serving) → Sound s → Sound (link_run grounds head text pieces s)
run_sound grounds head text [] s sound = sound
run_sound grounds head text (piece ∷ pieces) s sound =
    run_sound grounds head (with_piece head text piece.bytes) pieces (piece_done grounds head text piece s) (piece_sound grounds head text piece s sound)

pub new_sound : (h : Hub) (jobs : List SeenJob) → HubRuns h → Sound (new_serving h jobs)
new_sound h jobs runs = record { never = λ is. cc; seated = λ still. runs }

pub run_never : (grounds : Grounds) (head : Head Upgrade HeadFault) (text : List ℕ) (pieces : List Piece) (h : Hub) (jobs : List SeenJob)
    → HubRuns h → (link_run grounds head text pieces (new_serving h jobs)).end ≢ Some (refused_by no_link)
run_never grounds head text pieces h jobs runs =
    (run_sound grounds head text pieces (new_serving h jobs) (new_sound h jobs runs)).never
