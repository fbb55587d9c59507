-- A session that made a turn still has its link, or has ended with nothing unwritten: once the link is lost it has left it.
use Rattle.std.proofs.Common.{◌≡◌, inl, inr, ℕ, suc, Bool, true, false, ◌&&◌, not, eqb, eq-eqb, cond, Option, Some, None, option_map, List, [], length, map, drop, refl, ap, sym, ◌∙◌, subst, arith}
use Rattle.std.specs.Prelude.{◌⊎◌, nat_le, nat_lt}
use Rattle.std.proofs.lemmas.Bool.{cond_both, true≢false, false≢true}
use Rattle.std.proofs.lemmas.List.{drop_all}
use Rattle.ra_base.specs.declared.key.Cause.{Cause}
use Rattle.ra_model.specs.declared.frame.Frame.{Frame}
use Rattle.ra_model.specs.declared.session.Phase.{Phase}
use Rattle.ra_model.specs.declared.session.Up.{Up as Delivery}
use Rattle.ra_model.specs.declared.session.Up.TheVariants.{Message as HandedUp, Control, Quiet, Ended as Closed}
use Rattle.ra_model.specs.Calls.{wrote, lose, moment}
use Rattle.ra_model.specs.Endpoints.{Endpoint, is_linked, shown}
use Rattle.ra_model.specs.Events.{taken}
use Rattle.ra_model.specs.FrameKinds.{FrameKind, frame_kind}
use Rattle.ra_model.specs.FrameKinds.FrameKind.{Regular, Control as ControlFrame, Disconnect, ReplayRequest, Pause, Resume, Other}
use Rattle.ra_model.specs.Taking.{next_frame, passed, on_frame, took, take_frame, delivery_of, delivery}
use Rattle.ra_model.specs.Timing.{asked_lately}
use Rattle.ra_ipc.specs.Packets.{message_bytes}
use Rattle.ra_session.specs.Hearing.{Heard, spoils, hears}
use Rattle.ra_session.specs.SessionCalls.{feed_session, emptied, take_out, lose_session, end_session}
use Rattle.ra_session.specs.SessionRefusals.{feed_refusal}
use Rattle.ra_session.specs.Sessions.{Session}
use Rattle.ra_session.specs.Turns.{heard_at, on_heard, on_delivery, ended_by, take_in, take_turn, turn, taken_answer, turn_answer}
use Rattle.ra_views.proofs.SessionLinks.{SameLink, same_said_all, same_emptied, link_feed}
use Rattle.ra_views.proofs.SessionNumbers.{number_turn}
use Rattle.ra_link_laws.proofs.ServedTurns.{fed_on}

-- ---- a session, and the link with this number

-- it is there, or nothing is to be written on it
pub record IsNear (epoch : ℕ) (s : Session) : Type 0 where
  pub number : s.peer.endpoint.epoch ≡ epoch
  pub near : (is_linked s.peer.endpoint.phase ≡ true) ⊎ (s.peer.endpoint.unwritten ≡ [])

-- it has left it
pub record IsOff (epoch : ℕ) (s : Session) : Type 0 where
  pub number : s.peer.endpoint.epoch ≡ epoch
  pub off : is_linked s.peer.endpoint.phase ≡ false
  pub none : s.peer.endpoint.unwritten ≡ []

pub off_near : (epoch : ℕ) (s : Session) → IsOff epoch s → IsNear epoch s
off_near epoch s x = record { number = x.number; near = inr x.none }

pub ends_off : (epoch : ℕ) (b : Bool) (cause : Cause) (s : Session) → IsOff epoch s → IsOff epoch (cond b (end_session cause s) s)
unfolding end_session
ends_off epoch true cause s x = record { number = x.number; off = x.off; none = x.none }
ends_off epoch false cause s x = x

-- ---- the link is lost

unlinked : (linked same : Bool) → (linked && same) ≡ false → same ≡ true → linked ≡ false
unlinked true true apart is = absurd (true≢false apart)
unlinked true false apart is = absurd (false≢true is)
unlinked false same apart is = refl

left_none : (e : Endpoint) → (is_linked e.phase ≡ true) ⊎ (e.unwritten ≡ []) → is_linked e.phase ≡ false → e.unwritten ≡ []
left_none e (inl linked) off = absurd (true≢false (sym linked ∙ off))
left_none e (inr none) off = none

lost_endpoint : (epoch : ℕ) (e : Endpoint) → e.epoch ≡ epoch → (is_linked e.phase ≡ true) ⊎ (e.unwritten ≡ [])
    → ((lose epoch e).epoch ≡ epoch) × (is_linked (lose epoch e).phase ≡ false) × ((lose epoch e).unwritten ≡ [])
unfolding lose
lost_endpoint epoch e number near =
    cond_both (is_linked e.phase && eqb epoch e.epoch) _ _ (λ (x : Endpoint). (x.epoch ≡ epoch) × (is_linked x.phase ≡ false) × (x.unwritten ≡ []))
    (λ so. (number, refl, refl))
    (λ other.
    let off : is_linked e.phase ≡ false = unlinked (is_linked e.phase) (eqb epoch e.epoch) other (eq-eqb epoch e.epoch (sym number)) in
    (number, off, left_none e near off))

pub lost_off : (epoch : ℕ) (s : Session) → IsNear epoch s → IsOff epoch (lose_session epoch s)
unfolding lose_session
lost_off epoch s x = let lost = lost_endpoint epoch s.peer.endpoint x.number x.near in record { number = lost.0; off = lost.1; none = lost.2 }

-- ---- a frame

-- one that hands up no end leaves the phase
going_frame : (kind : FrameKind) (f : Frame) (now : ℕ) (e x : Endpoint) → (delivery_of kind f x ≡ Closed → ⊥) → (on_frame kind f now e).phase ≡ e.phase
going_frame Regular f now e x other =
    cond_both (eqb f.id (suc e.received)) _ _ (λ (y : Endpoint). y.phase ≡ e.phase) (λ yes. refl)
    (λ no. cond_both (nat_lt (suc e.received) f.id && not (asked_lately now e.timing)) _ _ (λ (y : Endpoint). y.phase ≡ e.phase) (λ yes. refl) (λ _. refl))
going_frame ControlFrame f now e x other = refl
going_frame Disconnect f now e x other = absurd (other refl)
going_frame ReplayRequest f now e x other = refl
going_frame Pause f now e x other = refl
going_frame Resume f now e x other = refl
going_frame Other f now e x other = refl

-- and one that does leaves nothing unwritten
abbrev IsClosed : Endpoint → Type 0
IsClosed e = (is_linked e.phase ≡ false) × (e.unwritten ≡ [])

closed_frame : (kind : FrameKind) (f : Frame) (now : ℕ) (e x : Endpoint) → delivery_of kind f x ≡ Closed → IsClosed (on_frame kind f now e)
closed_frame Regular f now e x is =
    absurd (cond_both (eqb f.id (suc x.received)) (HandedUp f.id f.body) Quiet (λ (y : Delivery). y ≡ Closed → ⊥) (λ _ same. cc) (λ _ same. cc) is)
closed_frame ControlFrame f now e x is = absurd cc
closed_frame Disconnect f now e x is = (refl, refl)
closed_frame ReplayRequest f now e x is = absurd cc
closed_frame Pause f now e x is = absurd cc
closed_frame Resume f now e x is = absurd cc
closed_frame Other f now e x is = absurd cc

up_is : {x y : Delivery} → ◌≡◌ {A = Option Delivery} (Some x) (Some y) → x ≡ y
up_is e = cc

going_took : (next : Option (Frame × List ℕ)) (now : ℕ) (e : Endpoint) → (option_map (λ n. delivery_of (frame_kind n.0.kind) n.0 e) next ≡ Some Closed → ⊥)
    → (took next now e).phase ≡ e.phase
going_took None now e other = refl
going_took (Some next) now e other =
    going_frame (frame_kind next.0.kind) next.0 now (passed next.0 next.1 now e) e (λ is. other (ap (λ (d : Delivery). Some d) is))

closed_took : (next : Option (Frame × List ℕ)) (now : ℕ) (e : Endpoint) → option_map (λ n. delivery_of (frame_kind n.0.kind) n.0 e) next ≡ Some Closed → IsClosed (took next now e)
closed_took None now e is = absurd cc
closed_took (Some next) now e is = closed_frame (frame_kind next.0.kind) next.0 now (passed next.0 next.1 now e) e (up_is is)

going_taken : (now : ℕ) (e : Endpoint) → (delivery e ≡ Some Closed → ⊥) → (take_frame now e).phase ≡ e.phase
unfolding take_frame delivery
going_taken now e other = going_took (next_frame e) (moment now e) e other

closed_taken : (now : ℕ) (e : Endpoint) → delivery e ≡ Some Closed → IsClosed (take_frame now e)
unfolding take_frame delivery
closed_taken now e is = closed_took (next_frame e) (moment now e) e is

-- ---- what it means

same_heard : (means : Heard) (now : ℕ) (s : Session) → SameLink (on_heard means now s).peer.endpoint s.peer.endpoint
same_heard (spoils bad) now s = (refl, refl)
same_heard (hears h) now s = same_said_all (map message_bytes h.says) now s.peer.endpoint

same_delivery : (up : Option Delivery) (now : ℕ) (s : Session) → SameLink (on_delivery up now s).peer.endpoint s.peer.endpoint
same_delivery None now s = (refl, refl)
same_delivery (Some (HandedUp id body)) now s = same_heard (heard_at s id body now) now s
same_delivery (Some (Control body)) now s = (refl, refl)
same_delivery (Some Quiet) now s = (refl, refl)
same_delivery (Some Closed) now s = (refl, refl)

ended_none : (up : Option Delivery) → ended_by up ≡ None → up ≡ Some Closed → ⊥
ended_none None none is = cc
ended_none (Some (HandedUp id body)) none is = cc
ended_none (Some (Control body)) none is = cc
ended_none (Some Quiet) none is = cc
ended_none (Some Closed) none is = cc

ended_some : (up : Option Delivery) (cause : Cause) → ended_by up ≡ Some cause → up ≡ Some Closed
ended_some None cause is = absurd cc
ended_some (Some (HandedUp id body)) cause is = absurd cc
ended_some (Some (Control body)) cause is = absurd cc
ended_some (Some Quiet) cause is = absurd cc
ended_some (Some Closed) cause is = refl

going_in : (now : ℕ) (s : Session) → ended_by (delivery s.peer.endpoint) ≡ None → is_linked s.peer.endpoint.phase ≡ true → is_linked (take_in now s).peer.endpoint.phase ≡ true
unfolding take_in
going_in now s none linked =
    let e : Endpoint = s.peer.endpoint in
    let after : Session = record s { peer = taken now s.peer } in
    ap (λ (p : Phase). is_linked p) ((same_delivery (delivery e) now after).1 ∙ going_taken now e (ended_none (delivery e) none)) ∙ linked

closed_in : (now : ℕ) (s : Session) (cause : Cause) → ended_by (delivery s.peer.endpoint) ≡ Some cause → IsClosed (take_in now s).peer.endpoint
unfolding take_in
closed_in now s cause is =
    let e : Endpoint = s.peer.endpoint in
    let after : Session = record s { peer = taken now s.peer } in
    let closed : delivery e ≡ Some Closed = ended_some (delivery e) cause is in
    subst (λ (up : Option Delivery). IsClosed (on_delivery up now after).peer.endpoint) (sym closed) (closed_taken now e closed)

emptied_none : (e : Endpoint) → e.unwritten ≡ [] → (emptied e).unwritten ≡ []
unfolding wrote
emptied_none e none =
    cond_both (nat_le (length (shown e)) (length (shown e))) _ _ (λ (x : Endpoint). x.unwritten ≡ [])
    (λ yes. ap (λ (t : List ℕ). drop (length (shown e)) t) none ∙ drop_all (length (shown e)) [] (omega arith)) (λ no. none)

-- ---- a turn

turn_number : (epoch : ℕ) (piece : List ℕ) (now : ℕ) (s : Session) → feed_refusal epoch s ≡ None → (turn epoch piece now s).peer.endpoint.epoch ≡ epoch
turn_number epoch piece now s admits = (number_turn epoch piece now s).0 ∙ sym (fed_on epoch s admits).0

turn_going : (epoch : ℕ) (piece : List ℕ) (now : ℕ) (s : Session) → feed_refusal epoch s ≡ None → (turn_answer epoch piece now s).ended ≡ None
    → is_linked (turn epoch piece now s).peer.endpoint.phase ≡ true
unfolding turn take_turn take_out turn_answer taken_answer
turn_going epoch piece now s admits none =
    let fed : Session = feed_session epoch piece now s in
    ap (λ (p : Phase). is_linked p) (same_emptied (take_in now fed).peer.endpoint).1
    ∙ going_in now fed none (ap (λ (p : Phase). is_linked p) (link_feed epoch piece now s).1 ∙ (fed_on epoch s admits).1)

turn_closed : (epoch : ℕ) (piece : List ℕ) (now : ℕ) (s : Session) (cause : Cause) → (turn_answer epoch piece now s).ended ≡ Some cause
    → IsClosed (turn epoch piece now s).peer.endpoint
unfolding turn take_turn take_out turn_answer taken_answer
turn_closed epoch piece now s cause is =
    let after : Endpoint = (take_in now (feed_session epoch piece now s)).peer.endpoint in
    let closed : IsClosed after = closed_in now (feed_session epoch piece now s) cause is in
    (ap (λ (p : Phase). is_linked p) (same_emptied after).1 ∙ closed.0, emptied_none after closed.1)

-- a peer that left ends the session
pub turn_off : (epoch : ℕ) (piece : List ℕ) (now : ℕ) (s : Session) (cause : Cause) → feed_refusal epoch s ≡ None → (turn_answer epoch piece now s).ended ≡ Some cause
    → IsOff epoch (turn epoch piece now s)
turn_off epoch piece now s cause admits is =
    let closed : IsClosed (turn epoch piece now s).peer.endpoint = turn_closed epoch piece now s cause is in
    record { number = turn_number epoch piece now s admits; off = closed.0; none = closed.1 }

pub turn_near : (epoch : ℕ) (piece : List ℕ) (now : ℕ) (s : Session) → feed_refusal epoch s ≡ None → IsNear epoch (turn epoch piece now s)
turn_near epoch piece now s admits = by (turn_answer epoch piece now s).ended refl
  where
    by : (ended : Option Cause) → (turn_answer epoch piece now s).ended ≡ ended → IsNear epoch (turn epoch piece now s)
    by None is = record { number = turn_number epoch piece now s admits; near = inl (turn_going epoch piece now s admits is) }
    by (Some cause) is = off_near epoch (turn epoch piece now s) (turn_off epoch piece now s cause admits is)
