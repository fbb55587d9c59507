-- An endpoint that has said nothing is known by its state.
use Rattle.std.proofs.Common.{◌≡◌, ℕ, ◌+◌, Bool, true, false, cond, List, [], ◌++◌, length, map, take, drop, refl, sym, ap, subst, ◌∙◌}
use Rattle.std.specs.Prelude.{Some, Result, Ok, Err, OnOk, not, ◌&&◌, nat_lt, nat_le, zero, suc, ◌==◌, if◌then◌else◌, ◌∷◌}
use Rattle.std.proofs.Math.Seq.{drop-nil}
use Rattle.ra_model.specs.declared.frame.Frame.{Frame}
use Rattle.ra_model.specs.FrameKinds.{FrameKind, frame_kind, replay_request}
use Rattle.ra_model.specs.FrameKinds.FrameKind.{Regular, Control, Disconnect, ReplayRequest, Pause, Resume, Other}
use Rattle.ra_model.specs.Frames.{joined}
use Rattle.ra_model.specs.Timing.{message_heard, asked_lately}
use Rattle.ra_model.specs.Endpoints.{Endpoint, new_endpoint, SaidMessage, is_linked, is_ended, is_up, shown, owed, numbered, acknowledged_count}
use Rattle.ra_model.specs.EndpointStates.{EndpointState, StandsFor, with_said}
use Rattle.ra_model.specs.Calls.{begin, moment, rewritten, written_at, wrote}
use Rattle.ra_model.specs.Taking.{on_frame, passed}
use Rattle.ra_model.specs.HeardPlaces.{applied}
use Rattle.ra_endpoint_commands.specs.Receive.{after_frame, flushed, first_link}
use Rattle.ra_endpoint_commands.specs.Progress.{endpoint_of, IsListening}

-- an endpoint of base 0 that has said nothing
pub record IsSilent (e : Endpoint) : Type 0 where
  pub base : e.base ≡ 0
  pub said : e.said ≡ []

owed_nothing : (e : Endpoint) → e.said ≡ [] → owed e ≡ []
unfolding owed
owed_nothing e none =
    ap (λ (ms : List SaidMessage). numbered e.acknowledged (drop (acknowledged_count e) ms)) none
    ∙ ap (numbered e.acknowledged) (drop-nil {A = SaidMessage} (acknowledged_count e))

pub record IsKnown (s : EndpointState) (e : Endpoint) : Type 0 where
  pub same : endpoint_of s ≡ e
  pub sent : s.sent ≡ 0
  pub queue : s.queue ≡ []

-- a state that stands for such an endpoint is that endpoint's
pub known : (s : EndpointState) (e : Endpoint) → StandsFor s e → IsSilent e → IsKnown s e
known s e stands silent = record {
  same = sym (stands.same ∙ (λ i. with_said (silent.base i) (silent.said i) s));
  sent = stands.sent ∙ (λ i. silent.base i + length (silent.said i));
  queue = stands.queue ∙ owed_nothing e silent.said;
}

pub stands_alone : (s : EndpointState) → IsListening s → StandsFor s (endpoint_of s)
stands_alone s h = record { same = refl; sent = h.sent; queue = h.queue ∙ sym (owed_nothing (endpoint_of s) refl) }

-- What a frame leaves of it

pub record IsLike (e e' : Endpoint) : Type 0 where
  pub base : e'.base ≡ e.base
  pub said : e'.said ≡ []
  pub linked : is_linked e.phase ≡ true → is_ended e'.phase ≡ false → is_linked e'.phase ≡ true

one_of : (b : Bool) (e x y : Endpoint) → IsLike e x → IsLike e y → IsLike e (cond b x y)
one_of true e x y p q = p
one_of false e x y p q = q

taken_nothing : (n : ℕ) → take {A = SaidMessage} n [] ++ [] ≡ []
taken_nothing zero = refl
taken_nothing (suc n) = refl

rewritten_nothing : (now : ℕ) (e : Endpoint) → e.said ≡ [] → rewritten now e ≡ []
unfolding rewritten
rewritten_nothing now e none =
    ap (λ (ms : List SaidMessage). take (acknowledged_count e) ms ++ map (written_at now) (drop (acknowledged_count e) ms)) none
    ∙ ap (λ (ms : List SaidMessage). take (acknowledged_count e) [] ++ map (written_at now) ms) (drop-nil {A = SaidMessage} (acknowledged_count e))
    ∙ taken_nothing (acknowledged_count e)

on_frame_like : (k : FrameKind) (f : Frame) (now : ℕ) (e : Endpoint) → e.said ≡ [] → IsLike e (on_frame k f now e)
on_frame_like Regular f now e none =
    let heard : Endpoint = record e { received = suc e.received; timing = if is_up e.phase then message_heard now e.timing else e.timing } in
    let asks : Endpoint = record e { unwritten = e.unwritten ++ joined (replay_request ∷ []); timing = record e.timing { asked = Some now } } in
    one_of (f.id == suc e.received) e heard (cond (nat_lt (suc e.received) f.id && not (asked_lately now e.timing)) asks e)
    (record { base = refl; said = none; linked = λ l _. l })
    (one_of (nat_lt (suc e.received) f.id && not (asked_lately now e.timing)) e asks e
    (record { base = refl; said = none; linked = λ l _. l }) (record { base = refl; said = none; linked = λ l _. l }))
on_frame_like Control f now e none = record { base = refl; said = none; linked = λ l _. l }
on_frame_like Disconnect f now e none = record { base = refl; said = none; linked = λ l ended. absurd cc }
on_frame_like ReplayRequest f now e none = record { base = refl; said = rewritten_nothing now e none; linked = λ l _. l }
on_frame_like Pause f now e none = record { base = refl; said = none; linked = λ l _. l }
on_frame_like Resume f now e none = record { base = refl; said = none; linked = λ l _. l }
on_frame_like Other f now e none = record { base = refl; said = none; linked = λ l _. l }

pub after_like : (f : Frame) (e : Endpoint) → e.said ≡ [] → IsLike e (after_frame f e)
after_like f e none =
    let h = on_frame_like (frame_kind f.kind) f (moment 0 e) (passed f e.unread (moment 0 e) e) none in
    record { base = h.base; said = h.said; linked = h.linked }

flushed_if : (b : Bool) (n : ℕ) (e : Endpoint) → e.said ≡ [] → IsLike e (cond b (record e { unwritten = drop n e.unwritten }) e)
flushed_if true n e none = record { base = refl; said = none; linked = λ l _. l }
flushed_if false n e none = record { base = refl; said = none; linked = λ l _. l }

pub flushed_like : (e : Endpoint) → e.said ≡ [] → IsLike e (flushed e)
unfolding wrote
flushed_like e none = flushed_if (nat_le (length (shown e)) (length (shown e))) (length (shown e)) e none

flushed_phase_if : (b : Bool) (n : ℕ) (e : Endpoint) → (let x : Endpoint = cond b (record e { unwritten = drop n e.unwritten }) e in x.phase ≡ e.phase)
flushed_phase_if true n e = refl
flushed_phase_if false n e = refl

pub flushed_phase : (e : Endpoint) → (flushed e).phase ≡ e.phase
unfolding wrote
flushed_phase e = flushed_phase_if (nat_le (length (shown e)) (length (shown e))) (length (shown e)) e

-- The first link

pub first_is_silent : IsSilent first_link
unfolding begin rewritten owed
first_is_silent = record { base = refl; said = refl }

-- What the calls of an endpoint that listens leave

pub on_ok : {T E : Type 0} (r : Result T E) (P : Type 0) → P → OnOk r P
on_ok (Ok x) P p = p
on_ok (Err e) P p = tt

pub first_known : (s s' : EndpointState) (now : ℕ) → now ≡ 0 → StandsFor s (new_endpoint 0 now false)
    → ((e : Endpoint) → StandsFor s e → StandsFor s' (begin 1 [] now e)) → IsKnown s' first_link
first_known s s' now is stands call =
    known s' first_link (subst (λ (n : ℕ). StandsFor s' (begin 1 [] n (new_endpoint 0 n false))) is (call (new_endpoint 0 now false) stands)) first_is_silent

pub applied_known : (f : Frame) (s s' : EndpointState) (now : ℕ) → IsListening s → now ≡ 0
    → ((e : Endpoint) → StandsFor s e → StandsFor s' (applied (moment now e) f e)) → IsKnown s' (after_frame f (endpoint_of s))
applied_known f s s' now h is call =
    let e : Endpoint = endpoint_of s in
    let like = after_like f e refl in
    known s' (after_frame f e) (subst (λ (n : ℕ). StandsFor s' (applied (moment n e) f e)) is (call e (stands_alone s h))) (record { base = like.base; said = like.said })

pub shown_known : (s s' : EndpointState) (n : ℕ) → IsListening s → n ≡ length (shown (endpoint_of s))
    → ((e : Endpoint) → StandsFor s e → StandsFor s' (wrote n e)) → IsKnown s' (flushed (endpoint_of s)) × IsListening s'
shown_known s s' n h all call =
    let e : Endpoint = endpoint_of s in
    let like = flushed_like e refl in
    let k : IsKnown s' (flushed e) = known s' (flushed e) (subst (λ (m : ℕ). StandsFor s' (wrote m e)) all (call e (stands_alone s h))) (record { base = like.base; said = like.said }) in (
      k,
      record {
        linked = ap (λ (x : Endpoint). is_linked x.phase) (k.same) ∙ ap is_linked (flushed_phase e) ∙ h.linked;
        sent = k.sent;
        queue = k.queue;
      },
    )

-- after a frame with which the peer has not left, it listens still
pub still_listening : (f : Frame) (s s' : EndpointState) → IsListening s → endpoint_of s' ≡ after_frame f (endpoint_of s) → (s'.sent ≡ 0) × (s'.queue ≡ []) → is_ended s'.phase ≡ false → IsListening s'
still_listening f s s' h same said there =
    let e : Endpoint = endpoint_of s in
    let phase : s'.phase ≡ (after_frame f e).phase = ap (λ (x : Endpoint). x.phase) same in
    record {
      linked = ap is_linked phase ∙ (after_like f e refl).linked h.linked (ap is_ended (sym phase) ∙ there);
      sent = said.0;
      queue = said.1;
    }
