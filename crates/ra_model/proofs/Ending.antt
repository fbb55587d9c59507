-- Which calls end an endpoint, and which never do.
use Rattle.std.proofs.Common.{◌≡◌, ℕ, suc, true, false, not, ◌&&◌, eqb, ltb, leb, Option, Some, None, List, length, refl, ap}
use Rattle.std.specs.Prelude.{option_map}
use Rattle.std.proofs.lemmas.Bool.{cond_both, not-false}
use Rattle.std.proofs.lemmas.Option.{same_Some}
use Rattle.ra_model.specs.declared.frame.Frame.{Frame}
use Rattle.ra_model.specs.declared.session.Up.{Up as Delivery}
use Rattle.ra_model.specs.declared.session.Up.TheVariants.{Message, Quiet, Ended as Closed}
use Rattle.ra_model.specs.Frames.{body_limit}
use Rattle.ra_model.specs.FrameKinds.{FrameKind, frame_kind}
use Rattle.ra_model.specs.FrameKinds.FrameKind.{Regular, Control, Disconnect, ReplayRequest, Pause, Resume, Other}
use Rattle.ra_model.specs.Endpoints.{Endpoint, is_up, is_linked, is_joining, is_ended, owed, shown}
use Rattle.ra_model.specs.Calls.{rewritten, moment, can_say, say, control, ask_pause, ask_resume, can_begin, begin, finish, can_feed, feed, wrote, lose, leave, tick}
use Rattle.ra_model.specs.Taking.{next_frame, passed, took, on_frame, take_frame, delivery_of, delivery}
use Rattle.ra_model.specs.Timing.{asked_lately}
use Rattle.ra_model.specs.GoesOn.{GoesOn}

abbrev Goes : Endpoint → Type 0
Goes e = is_ended e.phase ≡ false

pub goes_begin : (epoch : ℕ) (chunk : List ℕ) (now : ℕ) → GoesOn (begin epoch chunk now)
unfolding begin rewritten owed
goes_begin epoch chunk now e h =
    cond_both (can_begin epoch e) _ _ (λ (x : Endpoint). Goes x) (λ yes. cond_both (eqb e.epoch 0) _ _ (λ (x : Endpoint). Goes x) (λ first. refl) (λ later. refl)) (λ no. h)

pub goes_finish : (now : ℕ) → GoesOn (finish now)
unfolding finish rewritten owed
goes_finish now e h = cond_both (is_joining e.phase) _ _ (λ (x : Endpoint). Goes x) (λ yes. refl) (λ no. h)

pub goes_say : (body : List ℕ) (now : ℕ) → GoesOn (say body now)
unfolding say
goes_say body now e h = cond_both (can_say body e) _ _ (λ (x : Endpoint). Goes x) (λ yes. h) (λ no. h)

pub goes_control : (body : List ℕ) → GoesOn (control body)
unfolding control
goes_control body e h = cond_both (is_linked e.phase && leb (length body) body_limit) _ _ (λ (x : Endpoint). Goes x) (λ yes. h) (λ no. h)

pub goes_pause : GoesOn ask_pause
unfolding ask_pause
goes_pause e h = cond_both (is_linked e.phase) _ _ (λ (x : Endpoint). Goes x) (λ yes. h) (λ no. h)

pub goes_resume : GoesOn ask_resume
unfolding ask_resume
goes_resume e h = cond_both (is_linked e.phase) _ _ (λ (x : Endpoint). Goes x) (λ yes. h) (λ no. h)

pub goes_feed : (epoch : ℕ) (piece : List ℕ) (now : ℕ) → GoesOn (feed epoch piece now)
unfolding feed
goes_feed epoch piece now e h = cond_both (can_feed epoch e) _ _ (λ (x : Endpoint). Goes x) (λ yes. h) (λ no. h)

pub goes_wrote : (n : ℕ) → GoesOn (wrote n)
unfolding wrote
goes_wrote n e h = cond_both (leb n (length (shown e))) _ _ (λ (x : Endpoint). Goes x) (λ yes. h) (λ no. h)

pub goes_lose : (epoch : ℕ) → GoesOn (lose epoch)
unfolding lose
goes_lose epoch e h = cond_both (is_linked e.phase && eqb epoch e.epoch) _ _ (λ (x : Endpoint). Goes x) (λ yes. refl) (λ no. h)

pub goes_tick : (now : ℕ) → GoesOn (tick now)
unfolding tick
goes_tick now e h = cond_both (is_up e.phase) _ _ (λ (x : Endpoint). Goes x) (λ yes. h) (λ no. h)

pub leave_ends : (e : Endpoint) → is_ended (leave e).phase ≡ true
unfolding leave
leave_ends e = cond_both (not (is_ended e.phase)) _ _ (λ (x : Endpoint). is_ended x.phase ≡ true) (λ yes. refl) (λ no. not-false (is_ended e.phase) no)

goes_came : (kind : FrameKind) (f : Frame) (now : ℕ) (e d : Endpoint) → (delivery_of kind f d ≡ Closed → ⊥) → Goes e → Goes (on_frame kind f now e)
unfolding owed rewritten
goes_came Regular f now e d quiet h =
    cond_both (eqb f.id (suc e.received)) _ _ (λ (x : Endpoint). Goes x) (λ yes. h)
    (λ no. cond_both (ltb (suc e.received) f.id && not (asked_lately now e.timing)) _ _ (λ (x : Endpoint). Goes x) (λ yes. h) (λ _. h))
goes_came Control f now e d quiet h = h
goes_came Disconnect f now e d quiet h = absurd (quiet refl)
goes_came ReplayRequest f now e d quiet h = h
goes_came Pause f now e d quiet h = h
goes_came Resume f now e d quiet h = h
goes_came Other f now e d quiet h = h

goes_took : (next : Option (Frame × List ℕ)) (now : ℕ) (e : Endpoint)
    → (option_map (λ (x : Frame × List ℕ). delivery_of (frame_kind x.0.kind) x.0 e) next ≡ Some Closed → ⊥) → Goes e → Goes (took next now e)
goes_took None now e quiet h = h
goes_took (Some next) now e quiet h =
    goes_came (frame_kind next.0.kind) next.0 now (passed next.0 next.1 now e) e (λ is. quiet (ap (λ (d : Delivery). Some d) is)) h

-- a frame that comes ends an endpoint only by what it hands up
pub goes_take : (now : ℕ) (e : Endpoint) → (delivery e ≡ Some Closed → ⊥) → is_ended e.phase ≡ false → is_ended (take_frame now e).phase ≡ false
unfolding take_frame delivery
goes_take now e quiet h = goes_took (next_frame e) (moment now e) e quiet h

ends_came : (kind : FrameKind) (f : Frame) (now : ℕ) (e d : Endpoint) → delivery_of kind f d ≡ Closed → is_ended (on_frame kind f now e).phase ≡ true
unfolding owed rewritten
ends_came Regular f now e d is =
    absurd (cond_both (eqb f.id (suc d.received)) (Message f.id f.body) Quiet (λ (x : Delivery). x ≡ Closed → ⊥) (λ _ same. cc) (λ _ same. cc) is)
ends_came Control f now e d is = cc
ends_came Disconnect f now e d is = refl
ends_came ReplayRequest f now e d is = cc
ends_came Pause f now e d is = cc
ends_came Resume f now e d is = cc
ends_came Other f now e d is = cc

ends_took : (next : Option (Frame × List ℕ)) (now : ℕ) (e : Endpoint)
    → option_map (λ (x : Frame × List ℕ). delivery_of (frame_kind x.0.kind) x.0 e) next ≡ Some Closed → is_ended (took next now e).phase ≡ true
ends_took None now e is = cc
ends_took (Some next) now e is =
    ends_came (frame_kind next.0.kind) next.0 now (passed next.0 next.1 now e) e (same_Some _ _ is)

pub ends_take : (now : ℕ) (e : Endpoint) → delivery e ≡ Some Closed → is_ended (take_frame now e).phase ≡ true
unfolding take_frame delivery
ends_take now e is = ends_took (next_frame e) (moment now e) e is
