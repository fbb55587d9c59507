-- A turn of a session that hears a bad message puts nothing out, where nothing waited to go out. When a turn is not refused, nor is a feed.
use Rattle.std.proofs.Common.{◌≡◌, ℕ, suc, Bool, true, false, not, cond, eqb, eq-eqb, Option, Some, None, List, [], refl, ap, sym, ◌∙◌}
use Rattle.std.specs.Prelude.{option_map}
use Rattle.std.proofs.lemmas.Bool.{cond_both, false≢true}
use Rattle.ra_base.specs.declared.key.Cause.{Cause}
use Rattle.ra_model.specs.declared.frame.Frame.{Frame}
use Rattle.ra_model.specs.declared.session.Up.{Up as Delivery}
use Rattle.ra_model.specs.declared.session.Up.TheVariants.{Message as HandedUp, Control, Quiet, Ended as Closed}
use Rattle.ra_model.specs.FirstFrame.{is_too_long, stated}
use Rattle.ra_model.specs.FrameKinds.{FrameKind, frame_kind}
use Rattle.ra_model.specs.FrameKinds.FrameKind.{Regular, Control as ControlFrame, Disconnect, ReplayRequest, Pause, Resume, Other}
use Rattle.ra_model.specs.Endpoints.{Endpoint, is_linked, shown}
use Rattle.ra_model.specs.Refusals.{or_fault, fault_if}
use Rattle.ra_model.specs.Calls.{can_feed, feed, moment}
use Rattle.ra_model.specs.Taking.{next_frame, passed, on_frame, took, take_frame, delivery_of, delivery}
use Rattle.ra_model.specs.Events.{taken}
use Rattle.ra_session.specs.Hearing.{BadMessage, Heard, spoils, hears}
use Rattle.ra_session.specs.SessionCalls.{feed_session}
use Rattle.ra_session.specs.SessionRefusals.{Refusal, ended, stale, no_link, too_long, bad_ipc, ids_spent, feed_refusal}
use Rattle.ra_session.specs.Sessions.{Session}
use Rattle.ra_session.specs.TurnRefusals.{heard_refusal, delivery_refusal, taken_refusal, turn_refusal}
use Rattle.ra_session.specs.Turns.{heard_at, on_heard, on_delivery, take_in, taken_answer, turn_answer}

-- ---- of two refusals

pub both_none : (a b : Option Refusal) → or_fault a b ≡ None → (a ≡ None) × (b ≡ None)
both_none None b is = (refl, is)
both_none (Some r) b is = absurd cc

pub second_is : (a b : Option Refusal) (r : Refusal) → (a ≡ Some r → ⊥) → or_fault a b ≡ Some r → (a ≡ None) × (b ≡ Some r)
second_is None b r not is = (refl, is)
second_is (Some q) b r not is = absurd (not is)

-- ---- feeds

pub turn_feeds : (epoch now : ℕ) (s : Session) → turn_refusal epoch [] now s ≡ None → feed_refusal epoch s ≡ None
unfolding turn_refusal
turn_feeds epoch now s is = (both_none (feed_refusal epoch s) (taken_refusal now (feed_session epoch [] now s)) is).0

going_by : (c : Option Cause) (b : Option Refusal) → or_fault (option_map (λ cause. ended cause) c) b ≡ None → c ≡ None
going_by None b is = refl
going_by (Some cause) b is = absurd cc

-- a session that is fed has not ended
pub feeds_going : (epoch : ℕ) (s : Session) → feed_refusal epoch s ≡ None → s.cause ≡ None
unfolding feed_refusal
feeds_going epoch s is = going_by s.cause _ is

linked_by : (c : Option Cause) (same linked : Bool) (n : ℕ) → c ≡ None → same ≡ true → linked ≡ true
    → or_fault (option_map (λ cause. ended cause) c) (or_fault (fault_if (not same) (stale n)) (fault_if (not linked) no_link)) ≡ None
linked_by None true true n going is up = refl
linked_by None true false n going is up = absurd (false≢true up)
linked_by None false linked n going is up = absurd (false≢true is)
linked_by (Some cause) same linked n going is up = absurd cc

-- and one that has not ended and has a link is
pub going_feeds : (s : Session) → s.cause ≡ None → is_linked s.peer.endpoint.phase ≡ true → feed_refusal s.peer.endpoint.epoch s ≡ None
unfolding feed_refusal
going_feeds s going linked =
    linked_by s.cause (eqb s.peer.endpoint.epoch s.peer.endpoint.epoch) (is_linked s.peer.endpoint.phase) s.peer.endpoint.epoch going (eq-eqb s.peer.endpoint.epoch s.peer.endpoint.epoch refl) linked

-- ---- a bad message

feed_bad : (c : Option Cause) (a b : Bool) (n : ℕ) (bad : BadMessage) (m : List ℕ)
    → or_fault (option_map (λ cause. ended cause) c) (or_fault (fault_if a (stale n)) (fault_if b no_link)) ≡ Some (bad_ipc bad m) → ⊥
feed_bad None true b n bad m is = cc
feed_bad None false true n bad m is = cc
feed_bad None false false n bad m is = cc
feed_bad (Some cause) a b n bad m is = cc

pub fed_bad : (epoch : ℕ) (s : Session) (bad : BadMessage) (m : List ℕ) → feed_refusal epoch s ≡ Some (bad_ipc bad m) → ⊥
unfolding feed_refusal
fed_bad epoch s bad m is =
    feed_bad s.cause (not (eqb epoch s.peer.endpoint.epoch)) (not (is_linked s.peer.endpoint.phase)) s.peer.endpoint.epoch bad m is

pub long_bad : (b : Bool) (n : ℕ) (bad : BadMessage) (m : List ℕ) → fault_if b (too_long n) ≡ Some (bad_ipc bad m) → ⊥
long_bad true n bad m is = cc
long_bad false n bad m is = cc

pub spent_bad : (b : Bool) (bad : BadMessage) (m : List ℕ) → fault_if b ids_spent ≡ Some (bad_ipc bad m) → ⊥
spent_bad true bad m is = cc
spent_bad false bad m is = cc

-- what was handed up means no good
record Spoiled (up : Option Delivery) (now : ℕ) (s : Session) : Type 0 where
  id : ℕ
  body : List ℕ
  is : up ≡ Some (HandedUp id body)
  bad : BadMessage
  means : heard_at s id body now ≡ spoils bad

spoils_by : (means : Heard) (body : List ℕ) (e : Endpoint) (bad : BadMessage) (m : List ℕ) → heard_refusal means body e ≡ Some (bad_ipc bad m) → (b : BadMessage) × (means ≡ spoils b)
spoils_by (spoils b) body e bad m is = (b, refl)
spoils_by (hears h) body e bad m is = absurd (spent_bad _ bad m is)

spoiled : (up : Option Delivery) (now : ℕ) (s : Session) (e : Endpoint) (bad : BadMessage) (m : List ℕ) → delivery_refusal up now s e ≡ Some (bad_ipc bad m) → Spoiled up now s
spoiled None now s e bad m is = absurd cc
spoiled (Some (HandedUp id body)) now s e bad m is =
    let by = spoils_by (heard_at s id body now) body e bad m is in record { id = id; body = body; is = refl; bad = by.0; means = by.1 }
spoiled (Some (Control body)) now s e bad m is = absurd cc
spoiled (Some Quiet) now s e bad m is = absurd cc
spoiled (Some Closed) now s e bad m is = absurd cc

-- ---- its frame writes nothing

no_quiet : (id : ℕ) (body : List ℕ) → ◌≡◌ {A = Delivery} Quiet (HandedUp id body) → ⊥
no_quiet id body e = cc

shown_frame : (kind : FrameKind) (f : Frame) (rest : List ℕ) (now id : ℕ) (body : List ℕ) (e : Endpoint) → delivery_of kind f e ≡ HandedUp id body
    → shown (on_frame kind f now (passed f rest now e)) ≡ shown e
shown_frame Regular f rest now id body e is =
    cond_both (eqb f.id (suc e.received)) _ _ (λ (x : Endpoint). shown x ≡ shown e) (λ yes. refl)
    (λ no. absurd (no_quiet id body (ap (λ (b : Bool). cond b (HandedUp f.id f.body) Quiet) (sym no) ∙ is)))
shown_frame ControlFrame f rest now id body e is = absurd cc
shown_frame Disconnect f rest now id body e is = absurd cc
shown_frame ReplayRequest f rest now id body e is = absurd cc
shown_frame Pause f rest now id body e is = absurd cc
shown_frame Resume f rest now id body e is = absurd cc
shown_frame Other f rest now id body e is = absurd cc

up_is : {x y : Delivery} → ◌≡◌ {A = Option Delivery} (Some x) (Some y) → x ≡ y
up_is e = cc

shown_took : (next : Option (Frame × List ℕ)) (now id : ℕ) (body : List ℕ) (e : Endpoint) → option_map (λ n. delivery_of (frame_kind n.0.kind) n.0 e) next ≡ Some (HandedUp id body)
    → shown (took next now e) ≡ shown e
shown_took None now id body e is = absurd cc
shown_took (Some next) now id body e is = shown_frame (frame_kind next.0.kind) next.0 next.1 now id body e (up_is is)

shown_taken : (now id : ℕ) (body : List ℕ) (e : Endpoint) → delivery e ≡ Some (HandedUp id body) → shown (take_frame now e) ≡ shown e
unfolding take_frame delivery
shown_taken now id body e is = shown_took (next_frame e) (moment now e) id body e is

shown_in : (now : ℕ) (s : Session) → Spoiled (delivery s.peer.endpoint) now s → shown (take_in now s).peer.endpoint ≡ shown s.peer.endpoint
unfolding take_in
shown_in now s by =
    let after : Session = record s { peer = taken now s.peer } in
    ap (λ (up : Option Delivery). shown (on_delivery up now after).peer.endpoint) by.is ∙ ap (λ (means : Heard). shown (on_heard means now after).peer.endpoint) by.means
    ∙ shown_taken now by.id by.body s.peer.endpoint by.is

shown_fed : (epoch now : ℕ) (s : Session) → shown (feed_session epoch [] now s).peer.endpoint ≡ shown s.peer.endpoint
unfolding feed_session feed
shown_fed epoch now s =
    cond_both (can_feed epoch s.peer.endpoint) _ _ (λ (x : Endpoint). shown x ≡ shown s.peer.endpoint) (λ yes. refl) (λ no. refl)

taken_bad : (now : ℕ) (s : Session) (bad : BadMessage) (m : List ℕ) → taken_refusal now s ≡ Some (bad_ipc bad m) → Spoiled (delivery s.peer.endpoint) now s
unfolding taken_refusal
taken_bad now s bad m is =
    spoiled (delivery s.peer.endpoint) now s s.peer.endpoint bad m
    (second_is _ _ (bad_ipc bad m) (long_bad (is_too_long s.peer.endpoint.unread) (stated s.peer.endpoint.unread) bad m) is).1

pub bad_quiet : (epoch now : ℕ) (s : Session) (bad : BadMessage) (m : List ℕ) → shown s.peer.endpoint ≡ [] → turn_refusal epoch [] now s ≡ Some (bad_ipc bad m)
    → (feed_refusal epoch s ≡ None) × ((turn_answer epoch [] now s).out ≡ [])
unfolding turn_refusal turn_answer taken_answer
bad_quiet epoch now s bad m none is =
    let fed = feed_session epoch [] now s in
    let both = second_is (feed_refusal epoch s) (taken_refusal now fed) (bad_ipc bad m) (fed_bad epoch s bad m) is in
    (both.0, shown_in now fed (taken_bad now fed bad m both.1) ∙ shown_fed epoch now s ∙ none)
