-- A session keeps its link over turns.
use Rattle.std.proofs.Common.{◌≡◌, ◌≢◌, ℕ, Bool, true, false, ◌&&◌, not, Option, Some, None, List, [], ◌∷◌, map, refl, ap, sym, ◌∙◌, suc, eqb, cond}
use Rattle.std.proofs.lemmas.Bool.{cond_both, false≢true, lt-ltb, leb-false}
use Rattle.std.specs.Prelude.{option_map, nat_le, nat_lt, length}
use Rattle.std.specs.Option.{is_some}
use Rattle.ra_base.specs.declared.key.Cause.{Cause}
use Rattle.ra_base.specs.declared.key.Cause.TheVariants.{Disconnected}
use Rattle.ra_model.specs.declared.frame.Frame.{Frame}
use Rattle.ra_model.specs.declared.session.Up.{Up as Delivery}
use Rattle.ra_model.specs.declared.session.Up.TheVariants.{Message as HandedUp, Control, Quiet, Ended as Closed}
use Rattle.ra_model.specs.FrameKinds.{FrameKind, frame_kind}
use Rattle.ra_model.specs.FrameKinds.FrameKind.{Regular, Control as ControlFrame, Disconnect, ReplayRequest, Pause, Resume, Other}
use Rattle.ra_model.specs.Endpoints.{Endpoint, is_linked, is_joining, is_ended, shown}
use Rattle.ra_model.specs.FirstFrame.{is_too_long, stated}
use Rattle.ra_model.specs.Refusals.{or_fault, fault_if}
use Rattle.ra_model.specs.Timing.{asked_lately}
use Rattle.ra_model.specs.Calls.{say, can_say, can_feed, can_begin, feed, wrote, moment, begin, finish, ask_resume, on_link, brought_up, replayed}
use Rattle.ra_model.specs.Taking.{next_frame, passed, on_frame, took, take_frame, delivery_of, delivery}
use Rattle.ra_proto.specs.SayAll.{say_all}
use Rattle.ra_ipc.specs.Packets.{message_bytes}
use Rattle.ra_session.specs.Sessions.{Session}
use Rattle.ra_session.specs.Hearing.{Heard, spoils, hears}
use Rattle.ra_session.specs.SessionCalls.{emptied, take_out, feed_session, attach, joined, rejoined, resumes}
use Rattle.ra_session.specs.Turns.{heard_at, on_heard, on_delivery, take_in, take_turn, turn}
use Rattle.ra_session.specs.SessionRefusals.{Refusal, ended, stale, no_link, too_long, ids_spent, feed_refusal, attach_refusal}
use Rattle.ra_session.specs.TurnRefusals.{delivery_refusal, heard_refusal, taken_refusal, turn_refusal}
use Rattle.ra_session.specs.OnLinks.{IsOnLink, IsRunning}

-- ---- the link and the phase after a call

abbrev SamePlace : Endpoint → Endpoint → Type 0
SamePlace after before = (after.epoch ≡ before.epoch) × (after.phase ≡ before.phase)

said_place : (body : List ℕ) (now : ℕ) (e : Endpoint) → SamePlace (say body now e) e
unfolding say
said_place body now e = cond_both (can_say body e) _ _ (λ (x : Endpoint). SamePlace x e) (λ yes. (refl, refl)) (λ no. (refl, refl))

said_all_place : (bodies : List (List ℕ)) (now : ℕ) (e : Endpoint) → SamePlace (say_all bodies now e) e
unfolding say_all
said_all_place [] now e = (refl, refl)
said_all_place (body ∷ bodies) now e =
    let rest = said_all_place bodies now (say body now e) in
    let one = said_place body now e in
    (rest.0 ∙ one.0, rest.1 ∙ one.1)

emptied_place : (e : Endpoint) → SamePlace (emptied e) e
unfolding wrote
emptied_place e = cond_both (nat_le (length (shown e)) (length (shown e))) _ _ (λ (x : Endpoint). SamePlace x e) (λ yes. (refl, refl)) (λ no. (refl, refl))

heard_place : (means : Heard) (now : ℕ) (s : Session) → SamePlace (on_heard means now s).peer.endpoint s.peer.endpoint
heard_place (spoils bad) now s = (refl, refl)
heard_place (hears h) now s = said_all_place (map message_bytes h.says) now s.peer.endpoint

delivery_place : (up : Option Delivery) (now : ℕ) (s : Session) → SamePlace (on_delivery up now s).peer.endpoint s.peer.endpoint
delivery_place None now s = (refl, refl)
delivery_place (Some (HandedUp id body)) now s = heard_place (heard_at s id body now) now s
delivery_place (Some (Control body)) now s = (refl, refl)
delivery_place (Some Quiet) now s = (refl, refl)
delivery_place (Some Closed) now s = (refl, refl)

taken_place : (now : ℕ) (s : Session) → SamePlace (take_in now s).peer.endpoint (take_frame now s.peer.endpoint)
unfolding take_in
taken_place now s = delivery_place (delivery s.peer.endpoint) now _

turned_place : (now : ℕ) (s : Session) → SamePlace (take_turn now s).peer.endpoint (take_in now s).peer.endpoint
unfolding take_turn take_out
turned_place now s = emptied_place (take_in now s).peer.endpoint

fed_place : (epoch : ℕ) (piece : List ℕ) (now : ℕ) (s : Session) → SamePlace (feed_session epoch piece now s).peer.endpoint s.peer.endpoint
unfolding feed_session feed
fed_place epoch piece now s = cond_both (can_feed epoch s.peer.endpoint) _ _ (λ (x : Endpoint). SamePlace x s.peer.endpoint) (λ yes. (refl, refl)) (λ no. (refl, refl))

-- ---- one frame

-- a frame that is no Disconnect leaves both
frame_place : (kind : FrameKind) (f : Frame) (now : ℕ) (e x : Endpoint) → delivery_of kind f x ≢ Closed → SamePlace (on_frame kind f now e) e
frame_place Regular f now e x other =
    cond_both (eqb f.id (suc e.received)) _ _ (λ (y : Endpoint). SamePlace y e) (λ yes. (refl, refl))
    (λ no. cond_both (nat_lt (suc e.received) f.id && not (asked_lately now e.timing)) _ _ (λ (y : Endpoint). SamePlace y e) (λ yes. (refl, refl)) (λ _. (refl, refl)))
frame_place ControlFrame f now e x other = (refl, refl)
frame_place Disconnect f now e x other = absurd (other refl)
frame_place ReplayRequest f now e x other = (refl, refl)
frame_place Pause f now e x other = (refl, refl)
frame_place Resume f now e x other = (refl, refl)
frame_place Other f now e x other = (refl, refl)

took_place : (next : Option (Frame × List ℕ)) (now : ℕ) (e : Endpoint) → option_map (λ n. delivery_of (frame_kind n.0.kind) n.0 e) next ≢ Some Closed
    → SamePlace (took next now e) e
took_place None now e other = (refl, refl)
took_place (Some next) now e other =
    frame_place (frame_kind next.0.kind) next.0 now (passed next.0 next.1 now e) e (λ is. other (ap Some is))

frame_taken : (now : ℕ) (e : Endpoint) → delivery e ≢ Some Closed → SamePlace (take_frame now e) e
unfolding take_frame delivery
frame_taken now e other = took_place (next_frame e) (moment now e) e other

-- ---- a session that has not ended

ends_it : (c : Option Cause) → cond (is_some c) c (Some Disconnected) ≢ None
ends_it None is = cc
ends_it (Some cause) is = cc

none_ended : (up : Option Delivery) (now : ℕ) (s : Session) → (on_delivery up now s).cause ≡ None → up ≢ Some Closed
none_ended None now s going is = cc
none_ended (Some (HandedUp id body)) now s going is = cc
none_ended (Some (Control body)) now s going is = cc
none_ended (Some Quiet) now s going is = cc
none_ended (Some Closed) now s going is = ends_it s.cause going

ends_bad : (c bad : Option Cause) → cond (is_some c) c bad ≡ None → c ≡ None
ends_bad None bad is = refl
ends_bad (Some cause) bad is = is

heard_going : (means : Heard) (now : ℕ) (s : Session) → (on_heard means now s).cause ≡ None → s.cause ≡ None
heard_going (spoils bad) now s going = ends_bad s.cause _ going
heard_going (hears h) now s going = going

delivery_going : (up : Option Delivery) (now : ℕ) (s : Session) → (on_delivery up now s).cause ≡ None → s.cause ≡ None
delivery_going None now s going = going
delivery_going (Some (HandedUp id body)) now s going = heard_going (heard_at s id body now) now s going
delivery_going (Some (Control body)) now s going = going
delivery_going (Some Quiet) now s going = going
delivery_going (Some Closed) now s going = ends_bad s.cause _ going

taken_on : (epoch now : ℕ) (s : Session) → IsOnLink epoch s → IsOnLink epoch (take_in now s)
unfolding take_in
taken_on epoch now s on going =
    let e = s.peer.endpoint in
    let was = on (delivery_going (delivery e) now _ going) in
    let place = frame_taken now e (none_ended (delivery e) now _ going) in
    let after = delivery_place (delivery e) now _ in
    (after.0 ∙ place.0 ∙ was.0, ap is_linked (after.1 ∙ place.1) ∙ was.1)

pub turn_on : (epoch : ℕ) (piece : List ℕ) (now : ℕ) (s : Session) → IsOnLink epoch s → IsOnLink epoch (turn epoch piece now s)
unfolding turn take_turn take_out feed_session
turn_on epoch piece now s on going =
    let fed = feed_session epoch piece now s in
    let before : IsOnLink epoch fed = λ still. ((fed_place epoch piece now s).0 ∙ (on still).0, ap is_linked (fed_place epoch piece now s).1 ∙ (on still).1) in
    let after = taken_on epoch now fed before going in
    let out = emptied_place (take_in now fed).peer.endpoint in
    (out.0 ∙ after.0, ap is_linked out.1 ∙ after.1)

-- ---- why a turn is refused

never_first : (a b : Option Refusal) → (a ≡ Some no_link → ⊥) → (b ≡ Some no_link → ⊥) → or_fault a b ≡ Some no_link → ⊥
never_first None b first second is = second is
never_first (Some r) b first second is = first is

fed_unlinked : (c : Option Cause) (b linked : Bool) (n : ℕ)
    → or_fault (option_map (λ cause. ended cause) c) (or_fault (fault_if b (stale n)) (fault_if (not linked) no_link)) ≡ Some no_link → (c ≡ None) × (linked ≡ false)
fed_unlinked None false false n is = (refl, refl)
fed_unlinked None false true n is = cc
fed_unlinked None true linked n is = cc
fed_unlinked (Some cause) b linked n is = cc

pub fed_never : (epoch : ℕ) (s : Session) → IsOnLink epoch s → feed_refusal epoch s ≡ Some no_link → ⊥
unfolding feed_refusal
fed_never epoch s on is =
    let e = s.peer.endpoint in
    let found = fed_unlinked s.cause (not (eqb epoch e.epoch)) (is_linked e.phase) e.epoch is in
    false≢true (sym found.1 ∙ (on found.0).1)

too_long_never : (b : Bool) (n : ℕ) → fault_if b (too_long n) ≡ Some no_link → ⊥
too_long_never true n is = cc
too_long_never false n is = cc

spent_never : (b : Bool) → fault_if b ids_spent ≡ Some no_link → ⊥
spent_never true is = cc
spent_never false is = cc

heard_never : (means : Heard) (body : List ℕ) (e : Endpoint) → heard_refusal means body e ≡ Some no_link → ⊥
heard_never (spoils bad) body e is = cc
heard_never (hears h) body e is = spent_never _ is

delivery_never : (up : Option Delivery) (now : ℕ) (s : Session) (e : Endpoint) → delivery_refusal up now s e ≡ Some no_link → ⊥
delivery_never None now s e is = cc
delivery_never (Some (HandedUp id body)) now s e is = heard_never (heard_at s id body now) body e is
delivery_never (Some (Control body)) now s e is = cc
delivery_never (Some Quiet) now s e is = cc
delivery_never (Some Closed) now s e is = cc

taken_never : (now : ℕ) (s : Session) → taken_refusal now s ≡ Some no_link → ⊥
unfolding taken_refusal
taken_never now s is =
    never_first _ _ (too_long_never (is_too_long s.peer.endpoint.unread) (stated s.peer.endpoint.unread))
    (delivery_never (delivery s.peer.endpoint) now s s.peer.endpoint) is

pub turn_never : (epoch : ℕ) (piece : List ℕ) (now : ℕ) (s : Session) → IsOnLink epoch s → turn_refusal epoch piece now s ≡ Some no_link → ⊥
unfolding turn_refusal
turn_never epoch piece now s on is =
    never_first (feed_refusal epoch s) (taken_refusal now (feed_session epoch piece now s)) (fed_never epoch s on) (taken_never now (feed_session epoch piece now s)) is

-- ---- a link that begins

On : ℕ → Endpoint → Type 0
On epoch e = (e.epoch ≡ epoch) × (is_linked e.phase ≡ true)

begun_on : (epoch : ℕ) (chunk : List ℕ) (now : ℕ) (e : Endpoint) → can_begin epoch e ≡ true → On epoch (begin epoch chunk now e)
unfolding begin On
begun_on epoch chunk now e can = here (can_begin epoch e) can
  where
    here : (b : Bool) → b ≡ true → On epoch (cond b (cond (eqb e.epoch 0) (brought_up (moment now e) (replayed (moment now e) (on_link epoch chunk (moment now e) e))) (on_link epoch chunk (moment now e) e)) e)
    here true is = cond_both (eqb e.epoch 0) _ _ (λ (x : Endpoint). On epoch x) (λ yes. (refl, refl)) (λ no. (refl, refl))
    here false is = absurd (false≢true is)

rejoined_on : (epoch now : ℕ) (e : Endpoint) → On epoch e → On epoch (rejoined now e)
unfolding finish On
rejoined_on epoch now e on =
    cond_both (is_joining e.phase) _ _ (λ (x : Endpoint). On epoch x)
    (λ yes. cond_both (is_joining e.phase) _ _ (λ (x : Endpoint). On epoch x) (λ again. (on.0, refl)) (λ no. on))
    (λ no. on)

resumed_on : (epoch : ℕ) (e : Endpoint) → On epoch e → On epoch (ask_resume e)
unfolding ask_resume On
resumed_on epoch e on = cond_both (is_linked e.phase) _ _ (λ (x : Endpoint). On epoch x) (λ yes. on) (λ no. on)

joined_on : (with_resume : Bool) (epoch now : ℕ) (e : Endpoint) → On epoch e → On epoch (joined with_resume now e)
joined_on true epoch now e on = resumed_on epoch (rejoined now e) (rejoined_on epoch now e on)
joined_on false epoch now e on = rejoined_on epoch now e on

attach_admits : (c : Option Cause) (le : Bool) (n : ℕ) → or_fault (option_map (λ cause. ended cause) c) (fault_if le (stale n)) ≡ None → le ≡ false
attach_admits None true n is = cc
attach_admits None false n is = refl
attach_admits (Some cause) le n is = cc

can : (over lt : Bool) → over ≡ false → lt ≡ true → (not over && lt) ≡ true
can true lt a b = absurd (false≢true (sym a))
can false lt a b = b

pub attach_on : (epoch : ℕ) (chunk : List ℕ) (now : ℕ) (s : Session) → IsRunning s → attach_refusal epoch s ≡ None → IsOnLink epoch (attach epoch chunk now s)
unfolding attach attach_refusal On
attach_on epoch chunk now s runs admits going =
    let e = s.peer.endpoint in
    let later : nat_lt e.epoch epoch ≡ true = not_le epoch e.epoch (attach_admits s.cause (nat_le epoch e.epoch) e.epoch admits) in
    joined_on (resumes s.serves s.kind) epoch now (begin epoch chunk now e) (begun_on epoch chunk now e (can (is_ended e.phase) (nat_lt e.epoch epoch) (runs going) later))
  where
    not_le : (a b : ℕ) → nat_le a b ≡ false → nat_lt b a ≡ true
    not_le a b is = lt-ltb b a (leb-false a b is)
