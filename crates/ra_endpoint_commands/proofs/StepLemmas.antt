-- What a line of a script does, by the calls that it makes.
use Rattle.std.proofs.Common.{◌≡◌, ℕ, suc, ◌+◌, ◌<◌, ◌≤◌, Bool, true, false, cond, List, [], ◌∷◌, ◌++◌, length, append-nil, refl, sym, ap, subst, ◌∙◌, arith}
use Rattle.std.specs.Prelude.{◌≢◌, Option, Some, None, is_some, Err, option_map, not, ◌&&◌, nat_lt, ◌==◌, if◌then◌else◌}
use Rattle.ra_base.specs.declared.event.Side.{Side}
use Rattle.ra_base.specs.declared.event.Side.TheVariants.{A, B}
use Rattle.ra_base.specs.declared.event.Event.{Event}
use Rattle.ra_base.specs.declared.event.Event.TheVariants.{Take}
use Rattle.ra_model.specs.declared.frame.Frame.{Frame}
use Rattle.ra_model.specs.declared.session.Up.{Up as Delivery}
use Rattle.ra_model.specs.declared.effect.Effect.{Effect}
use Rattle.ra_model.specs.declared.fault.EventFault.{EventFault}
use Rattle.ra_model.specs.declared.fault.EventFault.TheVariants.{NoSuchLink, TooMany, End, NoMemory}
use Rattle.ra_model.specs.Frames.{joined, frame_bytes}
use Rattle.ra_model.specs.FirstFrame.{first_frame}
use Rattle.ra_model.specs.FrameKinds.{FrameKind, frame_kind, replay_request}
use Rattle.ra_model.specs.FrameKinds.FrameKind.{Regular, Control, Disconnect, ReplayRequest, Pause, Resume, Other}
use Rattle.ra_model.specs.Timing.{message_heard, asked_lately}
use Rattle.ra_model.specs.Endpoints.{Endpoint, is_up, is_linked}
use Rattle.ra_model.specs.Calls.{moment}
use Rattle.ra_model.specs.Taking.{delivery, delivery_of, next_frame, take_frame, took, on_frame, passed}
use Rattle.ra_model.specs.Worlds.{Peer, World, peer, with_peer}
use Rattle.ra_model.specs.Refusals.{refusal}
use Rattle.ra_model.specs.Events.{after, effect, happens, unless, taken, handed_up}
use Rattle.ra_model.proofs.CuttingLemmas.{found_shorter, frame_bytes_some}
use Rattle.ra_world.specs.WorldStates.{WorldState, StandsForWorld}
use Rattle.ra_endpoint_commands.specs.ReplayLines.{side_of, effect_line}
use Rattle.ra_endpoint_commands.specs.Replay.{Step, refused_or, event_step, drain_step}
use Rattle.ra_script.specs.declared.line.Line.TheVariants.{Base, Do, Drain}
use Rattle.ra_endpoint_commands.specs.ReplayLines.{base_line}
use Rattle.ra_endpoint_commands.specs.Replay.{line_step}
use Rattle.ra_endpoint_commands.specs.Stepping.{Makes, Steps, TakesOne, is_frame}

-- ---- an event

pub event_done : (event : Event) (w : World) (s : WorldState) (answer : Effect) (before behind : List ℕ) → refusal w event ≡ None → answer ≡ effect w event → StandsForWorld s (after event w)
    → behind ≡ before ++ effect_line (side_of event) answer → Makes None s before behind (event_step event w)
unfolding event_step
event_done event w s answer before behind none is stands text =
    let step : event_step event w ≡ record { text = effect_line (side_of event) (effect w event); world = after event w; fault = None } =
    ap (λ (f : Option EventFault). refused_or f (effect_line (side_of event) (effect w event)) (after event w) w) none in
    record {
      stands = subst (λ (x : World). StandsForWorld s x) (sym (ap (λ (x : Step). x.world) step)) stands;
      text = text ∙ ap (λ (a : Effect). before ++ effect_line (side_of event) a) is ∙ ap (λ (x : Step). before ++ x.text) (sym step);
      is = ap (λ (x : Step). x.fault) step;
    }

pub event_refused : (event : Event) (w : World) (s : WorldState) (fault : EventFault) (before : List ℕ) → refusal w event ≡ Some fault → StandsForWorld s w → Makes (Some fault) s before before (event_step event w)
unfolding event_step
event_refused event w s fault before is stands =
    let step : event_step event w ≡ record { text = []; world = w; fault = Some fault } =
    ap (λ (f : Option EventFault). refused_or f (effect_line (side_of event) (effect w event)) (after event w) w) is in
    record {
      stands = subst (λ (x : World). StandsForWorld s x) (sym (ap (λ (x : Step). x.world) step)) stands;
      text = sym (append-nil before) ∙ ap (λ (x : Step). before ++ x.text) (sym step);
      is = ap (λ (x : Step). x.fault) step;
    }

pub event_failed : (fault : EventFault) (event : Event) (w : World) (s s0 : WorldState) (before : List ℕ) → (fault ≢ NoMemory → refusal w event ≡ Some fault) → s ≡ s0 → StandsForWorld s0 w
    → Steps (Err fault) s before before (event_step event w)
event_failed NoMemory event w s s0 before is same stands = tt
event_failed (NoSuchLink link) event w s s0 before is same stands = event_refused event w s (NoSuchLink link) before (is (λ h. cc)) (subst (λ (x : WorldState). StandsForWorld x w) (sym same) stands)
event_failed (TooMany asked there) event w s s0 before is same stands = event_refused event w s (TooMany asked there) before (is (λ h. cc)) (subst (λ (x : WorldState). StandsForWorld x w) (sym same) stands)
event_failed (End fault) event w s s0 before is same stands = event_refused event w s (End fault) before (is (λ h. cc)) (subst (λ (x : WorldState). StandsForWorld x w) (sym same) stands)

-- ---- a frame is taken

effect_take : (side : Side) (w : World) → effect w (Take side) ≡ handed_up (delivery (peer side w).endpoint)
unfolding effect
effect_take side w = refl

frame_there : (found : Option Delivery) → is_frame (handed_up found) ≡ is_some found
frame_there None = refl
frame_there (Some up) = refl

pub take_done : (side : Side) (w : World) (s : WorldState) (answer : Effect) (more : Bool) (before behind : List ℕ) → refusal w (Take side) ≡ None → StandsForWorld s (after (Take side) w) → answer ≡ effect w (Take side)
    → behind ≡ before ++ effect_line side answer → more ≡ is_frame answer → TakesOne side more s before behind w
take_done side w s answer more before behind none stands is text there = record {
  free = none;
  stands = stands;
  text = text ∙ ap (λ (a : Effect). before ++ effect_line side a) is;
  there = there ∙ ap is_frame (is ∙ effect_take side w) ∙ frame_there (delivery (peer side w).endpoint);
}

-- ---- a line

pub line_of_base : (base : ℕ) (w : World) (s : WorldState) (before behind : List ℕ) → StandsForWorld s w → behind ≡ before ++ base_line base → Makes None s before behind (line_step (Base base) w)
unfolding line_step
line_of_base base w s before behind stands text = record { stands = stands; text = text; is = refl }

pub line_of_event : (event : Event) (w : World) → event_step event w ≡ line_step (Do event) w
unfolding line_step
line_of_event event w = refl

pub line_of_drain : (side : Side) (w : World) → drain_step side w ≡ line_step (Drain side) w
unfolding line_step
line_of_drain side w = refl

-- ---- a frame that is taken is gone from the unread bytes

one_of : (b : Bool) (n : ℕ) (x y : Endpoint) → length x.unread ≤ n → length y.unread ≤ n → (let z : Endpoint = cond b x y in length z.unread ≤ n)
one_of true n x y p q = p
one_of false n x y p q = q

on_frame_unread : (k : FrameKind) (f : Frame) (now : ℕ) (e : Endpoint) → length (on_frame k f now e).unread ≤ length e.unread
on_frame_unread Regular f now e =
    let heard : Endpoint = record e { received = suc e.received; timing = if is_up e.phase then message_heard now e.timing else e.timing } in
    let asks : Endpoint = record e { unwritten = e.unwritten ++ joined (replay_request ∷ []); timing = record e.timing { asked = Some now } } in
    one_of (f.id == suc e.received) (length e.unread) heard (cond (nat_lt (suc e.received) f.id && not (asked_lately now e.timing)) asks e) (omega arith)
    (one_of (nat_lt (suc e.received) f.id && not (asked_lately now e.timing)) (length e.unread) asks e (omega arith) (omega arith))
on_frame_unread Control f now e = omega arith
on_frame_unread Disconnect f now e = omega arith
on_frame_unread ReplayRequest f now e = omega arith
on_frame_unread Pause f now e = omega arith
on_frame_unread Resume f now e = omega arith
on_frame_unread Other f now e = omega arith

first_shorter : (e : Endpoint) (next : Frame × List ℕ) → next_frame e ≡ Some next → length next.1 < length e.unread
first_shorter e next is = shorter (is_linked e.phase) is
  where
    shorter : (b : Bool) → cond b (first_frame e.unread) None ≡ Some next → length next.1 < length e.unread
    shorter b h = elim b as (λ x. cond x (first_frame e.unread) None ≡ Some next → length next.1 < length e.unread) [
      | true ↦ λ found. (let len : length e.unread ≡ length (frame_bytes next.0) + length next.1 = found_shorter e.unread next.0 next.1 found in
          let some : 0 < length (frame_bytes next.0) = frame_bytes_some next.0 in omega arith)
      | false ↦ λ found. absurd cc
    ] h

took_shorter : (e : Endpoint) (found : Option (Frame × List ℕ)) (now : ℕ) → next_frame e ≡ found → (up : Delivery) → option_map (λ (next : Frame × List ℕ). delivery_of (frame_kind next.0.kind) next.0 e) found ≡ Some up
    → length (took found now e).unread < length e.unread
took_shorter e None now is up h = absurd cc
took_shorter e (Some next) now is up h =
    let short : length next.1 < length e.unread = first_shorter e next is in
    let less : length (on_frame (frame_kind next.0.kind) next.0 now (passed next.0 next.1 now e)).unread ≤ length next.1 = on_frame_unread (frame_kind next.0.kind) next.0 now (passed next.0 next.1 now e) in
    omega arith

pub take_shorter : (now : ℕ) (e : Endpoint) (up : Delivery) → delivery e ≡ Some up → length (take_frame now e).unread < length e.unread
unfolding take_frame delivery
take_shorter now e up h = took_shorter e (next_frame e) (moment now e) refl up h

peer_with : (side : Side) (p : Peer) (w : World) → peer side (with_peer side p w) ≡ p
peer_with A p w = refl
peer_with B p w = refl

happens_take : (side : Side) (w : World) → happens (Take side) w ≡ with_peer side (taken w.now (peer side w)) w
unfolding happens
happens_take side w = refl

pub taken_shorter : (side : Side) (w : World) (up : Delivery) → refusal w (Take side) ≡ None → delivery (peer side w).endpoint ≡ Some up
    → length (peer side (after (Take side) w)).endpoint.unread < length (peer side w).endpoint.unread
taken_shorter side w up none is =
    let same : after (Take side) w ≡ with_peer side (taken w.now (peer side w)) w =
    ap (λ (f : Option EventFault). unless f (happens (Take side) w) w) none ∙ happens_take side w in
    let at : (peer side (after (Take side) w)).endpoint.unread ≡ (take_frame w.now (peer side w).endpoint).unread =
    ap (λ (x : World). (peer side x).endpoint.unread) same ∙ ap (λ (p : Peer). p.endpoint.unread) (peer_with side (taken w.now (peer side w)) w) in
    let short : length (take_frame w.now (peer side w).endpoint).unread < length (peer side w).endpoint.unread = take_shorter w.now (peer side w).endpoint up is in
    omega (arith, ap length at)
