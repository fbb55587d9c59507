-- What is seen to come is what is handed up, and stays so as long as what comes next does.
use Rattle.std.specs.Prelude.{option_map}
use Rattle.std.proofs.Common.{◌≡◌, ◌≤◌, ℕ, suc, Bool, true, false, cond, ◌&&◌, eqb, Option, Some, None, List, [], length, drop, refl, ap, sym, ◌∙◌, subst}
use Rattle.std.proofs.lemmas.Bool.{cond-false, and_parts, and_right, eqb-true, false≢true, not-true, not-false}
use Rattle.ra_model.specs.declared.frame.Frame.{Frame}
use Rattle.ra_model.specs.declared.session.Phase.{Phase}
use Rattle.ra_model.specs.declared.session.Up.{Up as Delivery}
use Rattle.ra_model.specs.declared.session.Up.TheVariants.{Message, Quiet}
use Rattle.ra_model.specs.FirstFrame.{first_frame, is_too_long}
use Rattle.ra_model.specs.FrameKinds.{FrameKind, frame_kind}
use Rattle.ra_model.specs.FrameKinds.FrameKind.{Regular, Control, Disconnect, ReplayRequest, Pause, Resume, Other}
use Rattle.ra_model.specs.Endpoints.{Endpoint, is_linked}
use Rattle.ra_model.specs.EndpointStates.{EndpointState, IsConsistent, IsNext, StandsFor, with_said}
use Rattle.ra_model.specs.HeardPlaces.{is_message}
use Rattle.ra_model.specs.Taking.{next_frame, take_frame, delivery, delivery_of}
use Rattle.ra_model.specs.Refusals.{take_fault}
use Rattle.ra_model.proofs.Cuts.{found-not_too_long}
use Rattle.ra_model.proofs.Stands.{delivery_is}
use Rattle.ra_model.proofs.StandsTaking.{take_message, message_delivery}
use Rattle.ra_proto.specs.Coming.{is_no_message, is_other, IsAtFront, IsNextMessage, SameReading}
use Rattle.ra_proto.specs.Passed.{received}

no_message_by : (a b c d e g next : Bool) (f : Frame) → (a && next) ≡ false
    → (let kind : FrameKind = cond a Regular (cond b Control (cond c Disconnect (cond d ReplayRequest (cond e Pause (cond g Resume Other))))) in
    (x : Endpoint) → eqb f.id (suc x.received) ≡ next → is_no_message (Some (delivery_of kind f x)) ≡ true)
no_message_by true b c d e g next f is x same = ap (λ (up : Delivery). is_no_message (Some up)) (cond-false _ _ _ (same ∙ is))
no_message_by false true c d e g next f is x same = refl
no_message_by false false true d e g next f is x same = refl
no_message_by false false false true e g next f is x same = refl
no_message_by false false false false true g next f is x same = refl
no_message_by false false false false false true next f is x same = refl
no_message_by false false false false false false next f is x same = refl

-- any other frame at the front
other_comes : (s : EndpointState) (next : Option (Frame × List ℕ)) → first_frame s.unread ≡ next → is_other s.received next ≡ true → is_linked s.phase ≡ true
    → (e : Endpoint) → StandsFor s e → is_no_message (delivery e) ≡ true
other_comes s None first is linked e h = absurd (false≢true is)
other_comes s (Some (f, rest)) first is linked e h =
    ap is_no_message (delivery_is f rest s linked first e h)
    ∙ no_message_by (eqb f.kind 1) (eqb f.kind 2) (eqb f.kind 5) (eqb f.kind 6) (eqb f.kind 7) (eqb f.kind 8) (eqb f.id (suc s.received)) f (not-true _ is) (with_said 0 [] s) refl

pub other_delivery : (s : EndpointState) → is_other s.received (first_frame s.unread) ≡ true → is_linked s.phase ≡ true
    → (e : Endpoint) → StandsFor s e → is_no_message (delivery e) ≡ true
other_delivery s is linked e h = other_comes s (first_frame s.unread) refl is linked e h

other_fits : (text : List ℕ) (last : ℕ) (next : Option (Frame × List ℕ)) → first_frame text ≡ next → is_other last next ≡ true → is_too_long text ≡ false
other_fits text last None first is = absurd (false≢true is)
other_fits text last (Some p) first is = found-not_too_long text p first

-- and it is no header that states too long a body
pub other_admits : (s : EndpointState) → is_other s.received (first_frame s.unread) ≡ true → take_fault s.phase s.unread ≡ None
other_admits s is = cond-false _ _ _ (and_right _ _ (other_fits s.unread s.received (first_frame s.unread) refl is))

-- where it is not another, it is the next
pub not_other : (f : Frame) (rest : List ℕ) (s : EndpointState) → first_frame s.unread ≡ Some (f, rest) → is_other s.received (first_frame s.unread) ≡ false → is_message (suc s.received) f ≡ true
not_other f rest s first is = not-false _ (sym (ap (λ (p : Option (Frame × List ℕ)). is_other s.received p) first) ∙ is)

-- the next message at the front
pub next_comes : (f : Frame) (len : ℕ) (s : EndpointState) → is_message (suc s.received) f ≡ true → IsAtFront f len s → IsNextMessage f.id f.ack len s
next_comes f len s is front =
    let both : (eqb f.kind 1 ≡ true) × (eqb f.id (suc s.received) ≡ true) = and_parts _ _ is in
    record {
      linked = front.linked;
      next = eqb-true f.id (suc s.received) both.1;
      frame = f;
      first = front.first;
      within = front.within;
      kind = eqb-true f.kind 1 both.0;
      frame_id = refl;
      frame_ack = refl;
    }

is_next : {id ack len : ℕ} {s : EndpointState} → (m : IsNextMessage id ack len s) → IsNext Regular m.frame (drop len s.unread) s
is_next m = record { is = ap frame_kind m.kind; linked = m.linked; first = m.first }

-- the next message is handed up
pub next_delivery : {id ack len : ℕ} {s : EndpointState} → (m : IsNextMessage id ack len s) (e : Endpoint) → StandsFor s e → delivery e ≡ Some (Message id m.frame.body)
next_delivery {len = len} {s = s} m e h =
    message_delivery m.frame (drop len s.unread) s (is_next m) (m.frame_id ∙ m.next) e h
    ∙ ap (λ (n : ℕ). Some (Message n m.frame.body)) m.frame_id

pub front_delivery : (f : Frame) (len : ℕ) (s : EndpointState) → is_message (suc s.received) f ≡ true → IsAtFront f len s → (e : Endpoint) → StandsFor s e → delivery e ≡ Some (Message f.id f.body)
unfolding next_comes
front_delivery f len s is front = next_delivery (next_comes f len s is front)

-- once it counts as handed up, and its frame is gone
pub next_taken : {id ack len : ℕ} {s : EndpointState} → (m : IsNextMessage id ack len s) (now : ℕ) → IsConsistent s → (e : Endpoint) → StandsFor s e
    → StandsFor (record (received id ack now s) { unread = drop len s.unread }) (take_frame now e)
next_taken {ack = ack} {len = len} {s = s} m now whole e h =
    subst (λ (n : ℕ). StandsFor (record (received n ack now s) { unread = drop len s.unread }) (take_frame now e)) (sym m.next)
    (subst (λ (a : ℕ). StandsFor (record (received (suc s.received) a now s) { unread = drop len s.unread }) (take_frame now e)) m.frame_ack
    (take_message m.frame (drop len s.unread) now s (is_next m) (m.frame_id ∙ m.next) whole e h))

-- a call that leaves the reading as it is leaves what comes next
pub next_kept : {id ack len : ℕ} {s t : EndpointState} → SameReading s t → IsNextMessage id ack len s → IsNextMessage id ack len t
next_kept {len = len} same m = record {
  linked = ap is_linked same.phase ∙ m.linked;
  next = m.next ∙ sym (ap suc same.received);
  frame = m.frame;
  first = ap first_frame same.unread ∙ m.first ∙ sym (ap (λ (text : List ℕ). Some (m.frame, drop len text)) same.unread);
  within = subst (λ (text : List ℕ). len ≤ length text) (sym same.unread) m.within;
  kind = m.kind;
  frame_id = m.frame_id;
  frame_ack = m.frame_ack;
}

by_received : (kind : FrameKind) (f : Frame) (x y : Endpoint) → x.received ≡ y.received → delivery_of kind f x ≡ delivery_of kind f y
by_received Regular f x y same = ap (λ (n : ℕ). cond (eqb f.id (suc n)) (Message f.id f.body) Quiet) same
by_received Control f x y same = refl
by_received Disconnect f x y same = refl
by_received ReplayRequest f x y same = refl
by_received Pause f x y same = refl
by_received Resume f x y same = refl
by_received Other f x y same = refl

of_next : (next : Option (Frame × List ℕ)) (x y : Endpoint) → x.received ≡ y.received
    → option_map (λ (n : Frame × List ℕ). delivery_of (frame_kind n.0.kind) n.0 x) next ≡ option_map (λ (n : Frame × List ℕ). delivery_of (frame_kind n.0.kind) n.0 y) next
of_next None x y same = refl
of_next (Some next) x y same = ap (λ (up : Delivery). Some up) (by_received (frame_kind next.0.kind) next.0 x y same)

by_reading : (x y : Endpoint) → x.phase ≡ y.phase → x.received ≡ y.received → x.unread ≡ y.unread → delivery x ≡ delivery y
unfolding delivery
by_reading x y phase last unread =
    of_next (next_frame x) x y last
    ∙ ap (λ (next : Option (Frame × List ℕ)). option_map (λ (n : Frame × List ℕ). delivery_of (frame_kind n.0.kind) n.0 y) next)
    (ap (λ (p : Phase). cond (is_linked p) (first_frame x.unread) None) phase ∙ ap (λ (text : List ℕ). cond (is_linked y.phase) (first_frame text) None) unread)

-- and what it hands up
pub delivery_kept : {s t : EndpointState} → SameReading s t → (d e : Endpoint) → StandsFor s d → StandsFor t e → delivery e ≡ delivery d
delivery_kept same d e h k =
    by_reading e d
    (ap (λ (x : Endpoint). x.phase) k.same ∙ same.phase ∙ sym (ap (λ (x : Endpoint). x.phase) h.same))
    (ap (λ (x : Endpoint). x.received) k.same ∙ same.received ∙ sym (ap (λ (x : Endpoint). x.received) h.same))
    (ap (λ (x : Endpoint). x.unread) k.same ∙ same.unread ∙ sym (ap (λ (x : Endpoint). x.unread) h.same))
