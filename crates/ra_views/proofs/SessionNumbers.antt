-- The calls of a session that keep the number of its link, and what a link that begins changes.
use Rattle.std.proofs.Common.{◌≡◌, ◌≢◌, ℕ, suc, not, ◌&&◌, eqb, cond, Option, Some, None, List, map, refl, ap, ◌∙◌}
use Rattle.std.proofs.lemmas.Bool.{cond_both}
use Rattle.std.specs.Prelude.{option_map, nat_lt, nat_le, Bool, true, false}
use Rattle.std.specs.Option.{is_some}
use Rattle.ra_base.specs.declared.key.Cause.{Cause}
use Rattle.ra_base.specs.declared.key.Cause.TheVariants.{Disconnected, BadIpc}
use Rattle.ra_model.specs.declared.frame.Frame.{Frame}
use Rattle.ra_model.specs.declared.session.Phase.{Phase}
use Rattle.ra_model.specs.declared.session.Phase.TheVariants.{Away, Joining, Up, Ended}
use Rattle.ra_model.specs.declared.session.Up.{Up as Delivery}
use Rattle.ra_model.specs.declared.session.Up.TheVariants.{Message as HandedUp, Control, Quiet, Ended as Closed}
use Rattle.ra_model.specs.FrameKinds.{FrameKind, frame_kind}
use Rattle.ra_model.specs.FrameKinds.FrameKind.{Regular, Control as ControlFrame, Disconnect, ReplayRequest, Pause, Resume, Other}
use Rattle.ra_model.specs.Endpoints.{Endpoint, is_linked, is_ended}
use Rattle.ra_model.specs.Refusals.{or_fault, fault_if}
use Rattle.ra_model.specs.Timing.{asked_lately}
use Rattle.ra_model.specs.Calls.{moment, lose, leave}
use Rattle.ra_model.specs.Taking.{next_frame, passed, on_frame, took, take_frame, delivery}
use Rattle.ra_model.proofs.Ending.{goes_lose, goes_take}
use Rattle.ra_ipc.specs.Packets.{message_bytes}
use Rattle.ra_session.specs.Sessions.{Session}
use Rattle.ra_session.specs.SessionCalls.{attach, feed_session, take_out, lose_session, leave_session, end_session}
use Rattle.ra_session.specs.SessionRefusals.{ended, stale, attach_refusal}
use Rattle.ra_session.specs.Hearing.{Heard, spoils, hears}
use Rattle.ra_session.specs.OnLinks.{IsRunning}
use Rattle.ra_session.specs.Turns.{heard_at, on_heard, on_delivery, take_in, take_turn, turn}
use Rattle.ra_session.proofs.LinkLaws.{attach_on}
use Rattle.ra_views.specs.SessionLinks.{KeepsNumber}
use Rattle.ra_views.proofs.SessionLinks.{SameLink, same_said_all, same_emptied, link_feed, link_take_out, number_link}

-- ---- ends

-- a session with a cause has ended
caused : (before : Option Cause) (cause : Cause) → cond (is_some before) before (Some cause) ≢ None
caused None cause is = cc
caused (Some first) cause is = cc

number_lost : (epoch : ℕ) (e : Endpoint) → (lose epoch e).epoch ≡ e.epoch
unfolding lose
number_lost epoch e = cond_both (is_linked e.phase && eqb epoch e.epoch) _ _ (λ (x : Endpoint). x.epoch ≡ e.epoch) (λ yes. refl) (λ no. refl)

number_left : (e : Endpoint) → (leave e).epoch ≡ e.epoch
unfolding leave
number_left e = cond_both (not (is_ended e.phase)) _ _ (λ (x : Endpoint). x.epoch ≡ e.epoch) (λ yes. refl) (λ no. refl)

pub number_lose : (epoch : ℕ) → KeepsNumber (lose_session epoch)
unfolding lose_session
number_lose epoch s = (number_lost epoch s.peer.endpoint, λ runs going. goes_lose epoch s.peer.endpoint (runs going))

pub number_end : (cause : Cause) → KeepsNumber (end_session cause)
unfolding end_session
number_end cause s = (refl, λ runs going. absurd (caused s.cause cause going))

pub number_leave : KeepsNumber leave_session
unfolding leave_session
number_leave s =
    ((same_emptied (leave s.peer.endpoint)).0 ∙ number_left s.peer.endpoint, λ runs going. absurd (caused s.cause Disconnected going))

-- ---- one frame

number_frame : (kind : FrameKind) (f : Frame) (now : ℕ) (e : Endpoint) → (on_frame kind f now e).epoch ≡ e.epoch
number_frame Regular f now e =
    cond_both (eqb f.id (suc e.received)) _ _ (λ (x : Endpoint). x.epoch ≡ e.epoch) (λ yes. refl)
    (λ no. cond_both (nat_lt (suc e.received) f.id && not (asked_lately now e.timing)) _ _ (λ (x : Endpoint). x.epoch ≡ e.epoch) (λ yes. refl) (λ _. refl))
number_frame ControlFrame f now e = refl
number_frame Disconnect f now e = refl
number_frame ReplayRequest f now e = refl
number_frame Pause f now e = refl
number_frame Resume f now e = refl
number_frame Other f now e = refl

number_took : (next : Option (Frame × List ℕ)) (now : ℕ) (e : Endpoint) → (took next now e).epoch ≡ e.epoch
number_took None now e = refl
number_took (Some next) now e = number_frame (frame_kind next.0.kind) next.0 now (passed next.0 next.1 now e)

number_taken : (now : ℕ) (e : Endpoint) → (take_frame now e).epoch ≡ e.epoch
unfolding take_frame
number_taken now e = number_took (next_frame e) (moment now e) e

-- ---- what it means

same_heard : (means : Heard) (now : ℕ) (s : Session) → SameLink (on_heard means now s).peer.endpoint s.peer.endpoint
same_heard (spoils bad) now s = (refl, refl)
same_heard (hears h) now s = same_said_all (map message_bytes h.says) now s.peer.endpoint

same_delivery : (up : Option Delivery) (now : ℕ) (s : Session) → SameLink (on_delivery up now s).peer.endpoint s.peer.endpoint
same_delivery None now s = (refl, refl)
same_delivery (Some (HandedUp id body)) now s = same_heard (heard_at s id body now) now s
same_delivery (Some (Control body)) now s = (refl, refl)
same_delivery (Some Quiet) now s = (refl, refl)
same_delivery (Some Closed) now s = (refl, refl)

-- where no end was handed up, and the session had not ended
WasGoing : Option Delivery → Session → Type 0
WasGoing up s = (up ≢ Some Closed) × (s.cause ≡ None)

going_heard : (means : Heard) (now : ℕ) (s : Session) → (on_heard means now s).cause ≡ None → s.cause ≡ None
going_heard (spoils bad) now s going = absurd (caused s.cause BadIpc going)
going_heard (hears h) now s going = going

going_delivery : (up : Option Delivery) (now : ℕ) (s : Session) → (on_delivery up now s).cause ≡ None → WasGoing up s
unfolding WasGoing
going_delivery None now s going = (λ is. cc, going)
going_delivery (Some (HandedUp id body)) now s going = (λ is. cc, going_heard (heard_at s id body now) now s going)
going_delivery (Some (Control body)) now s going = (λ is. cc, going)
going_delivery (Some Quiet) now s going = (λ is. cc, going)
going_delivery (Some Closed) now s going = absurd (caused s.cause Disconnected going)

-- ---- a turn

number_take : (now : ℕ) → KeepsNumber (take_in now)
unfolding take_in WasGoing
number_take now s =
    let e = s.peer.endpoint in
    let same = same_delivery (delivery e) now _ in (
      same.0 ∙ number_taken now e,
      λ runs going.
          let was = going_delivery (delivery e) now _ going in
          ap is_ended same.1 ∙ goes_take now e was.0 (runs was.1),
    )

number_then : (f g : Session → Session) → KeepsNumber f → KeepsNumber g → KeepsNumber (λ s. g (f s))
number_then f g first second s = ((second (f s)).0 ∙ (first s).0, λ runs. (second (f s)).1 ((first s).1 runs))

pub number_turn : (epoch : ℕ) (piece : List ℕ) (now : ℕ) → KeepsNumber (turn epoch piece now)
unfolding turn take_turn
number_turn epoch piece now =
    number_then (feed_session epoch piece now) (take_turn now) (number_link (feed_session epoch piece now) (link_feed epoch piece now))
    (number_then (take_in now) take_out (number_take now) (number_link take_out link_take_out))

-- ---- a link that begins

going_attach : (c : Option Cause) (is_stale : Bool) (n : ℕ) → or_fault (option_map (λ cause. ended cause) c) (fault_if is_stale (stale n)) ≡ None → c ≡ None
going_attach None is_stale n is = refl
going_attach (Some cause) is_stale n is = cc

linked_goes : (phase : Phase) → is_linked phase ≡ true → is_ended phase ≡ false
linked_goes Away linked = refl
linked_goes Joining linked = refl
linked_goes Up linked = refl
linked_goes Ended linked = cc

pub number_attach : (epoch : ℕ) (chunk : List ℕ) (now : ℕ) (s : Session) → IsRunning s → attach_refusal epoch s ≡ None
    → ((attach epoch chunk now s).peer.endpoint.epoch ≡ epoch) × ((attach epoch chunk now s).cause ≡ s.cause) × IsRunning (attach epoch chunk now s)
unfolding attach attach_refusal
number_attach epoch chunk now s runs admits =
    let on = attach_on epoch chunk now s runs admits in
    let e = s.peer.endpoint in
    let going = going_attach s.cause (nat_le epoch e.epoch) e.epoch admits in
    ((on going).0, refl, λ still. linked_goes _ (on still).1)
