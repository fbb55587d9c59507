-- A frame that is applied, and then is gone from the unread bytes, is taken.
use Rattle.std.proofs.Common.{◌≡◌, ◌≢◌, ℕ, suc, Bool, true, false, cond, not, ◌&&◌, eqb, ltb, Option, Some, List, refl, ap, sym, ◌∙◌, subst}
use Rattle.std.specs.Prelude.{option_map}
use Rattle.std.proofs.lemmas.Bool.{cond-true, ne_eqb}
use Rattle.ra_model.specs.declared.frame.Frame.{Frame}
use Rattle.ra_model.specs.FirstFrame.{first_frame}
use Rattle.ra_model.specs.FrameKinds.{FrameKind, frame_kind}
use Rattle.ra_model.specs.FrameKinds.FrameKind.{Regular, Control, Disconnect, ReplayRequest, Pause, Resume, Other}
use Rattle.ra_model.specs.Timing.{asked_lately, message_heard}
use Rattle.ra_model.specs.Endpoints.{Endpoint, is_linked, is_up, owed}
use Rattle.ra_model.specs.Calls.{moment, rewritten}
use Rattle.ra_model.specs.Taking.{next_frame, passed, on_regular, on_frame, took, take_frame, delivery, delivery_of}
use Rattle.ra_model.specs.HeardPlaces.{applied}
use Rattle.ra_model.specs.EndpointStates.{EndpointState, StandsFor}
use Rattle.ra_model.proofs.Stands.{by_said}

abbrev pub with_unread : List ℕ → Endpoint → Endpoint
with_unread unread e = record e { unread = unread }

unread_stands : (unread : List ℕ) (s : EndpointState) (e : Endpoint) → StandsFor s e → StandsFor (record s { unread = unread }) (with_unread unread e)
unfolding owed
unread_stands unread s = by_said s (record s { unread = unread }) (with_unread unread) (λ base said h. record { same = refl; sent = h.sent; queue = h.queue })

either_unread : (b : Bool) (unread : List ℕ) (x y : Endpoint) → with_unread unread (cond b x y) ≡ cond b (with_unread unread x) (with_unread unread y)
either_unread true unread x y = refl
either_unread false unread x y = refl

-- what is unread decides nothing of what a frame changes, but for a Disconnect
regular_unread : (f : Frame) (m : ℕ) (unread : List ℕ) (e : Endpoint) → with_unread unread (on_regular f m e) ≡ on_regular f m (with_unread unread e)
regular_unread f m unread e =
    either_unread (eqb f.id (suc e.received)) unread _ _
    ∙ ap (λ (z : Endpoint). cond (eqb f.id (suc e.received)) (with_unread unread (record e { received = suc e.received; timing = cond (is_up e.phase) (message_heard m e.timing) e.timing })) z)
    (either_unread (ltb (suc e.received) f.id && not (asked_lately m e.timing)) unread _ _)

frame_unread : (kind : FrameKind) (f : Frame) (m : ℕ) (unread rest : List ℕ) (e : Endpoint) → (kind ≡ Disconnect → ⊥)
    → with_unread rest (on_frame kind f m (passed f unread m e)) ≡ on_frame kind f m (passed f rest m e)
unfolding owed rewritten
frame_unread Regular f m unread rest e other = regular_unread f m rest (passed f unread m e)
frame_unread Control f m unread rest e other = refl
frame_unread Disconnect f m unread rest e other = absurd (other refl)
frame_unread ReplayRequest f m unread rest e other = refl
frame_unread Pause f m unread rest e other = refl
frame_unread Resume f m unread rest e other = refl
frame_unread Other f m unread rest e other = refl

other_choice : (a b c d e f : Bool) → c ≡ false → cond a Regular (cond b Control (cond c Disconnect (cond d ReplayRequest (cond e Pause (cond f Resume Other))))) ≡ Disconnect → ⊥
other_choice true b c d e f is h = cc
other_choice false true c d e f is h = cc
other_choice false false true d e f is h = cc
other_choice false false false true e f is h = cc
other_choice false false false false true f is h = cc
other_choice false false false false false true is h = cc
other_choice false false false false false false is h = cc

other_type : (n : ℕ) → n ≢ 5 → frame_kind n ≡ Disconnect → ⊥
other_type n other = other_choice (eqb n 1) (eqb n 2) (eqb n 5) (eqb n 6) (eqb n 7) (eqb n 8) (ne_eqb n 5 other)

next_is : (f : Frame) (rest : List ℕ) (s : EndpointState) → is_linked s.phase ≡ true → first_frame s.unread ≡ Some (f, rest) → (e : Endpoint) → StandsFor s e → next_frame e ≡ Some (f, rest)
next_is f rest s linked first e h = ap next_frame h.same ∙ (cond-true (is_linked s.phase) _ _ linked ∙ first)

-- a frame of another type than a Disconnect
pub read_stands : (f : Frame) (rest : List ℕ) (now : ℕ) (s t : EndpointState) → is_linked s.phase ≡ true → first_frame s.unread ≡ Some (f, rest) → f.kind ≢ 5 → (e : Endpoint) → StandsFor s e
    → StandsFor t (applied (moment now e) f e) → StandsFor (record t { unread = rest }) (take_frame now e)
unfolding take_frame
read_stands f rest now s t linked first other e h k =
    let m : ℕ = moment now e in
    subst (λ (o : Option (Frame × List ℕ)). StandsFor (record t { unread = rest }) (took o m e)) (sym (next_is f rest s linked first e h))
    (subst (λ (x : Endpoint). StandsFor (record t { unread = rest }) x) (frame_unread (frame_kind f.kind) f m e.unread rest e (other_type f.kind other)) (unread_stands rest t (applied m f e) k))

-- a Disconnect
pub left_stands : (f : Frame) (rest : List ℕ) (now : ℕ) (s t : EndpointState) → is_linked s.phase ≡ true → first_frame s.unread ≡ Some (f, rest) → f.kind ≡ 5 → (e : Endpoint) → StandsFor s e
    → StandsFor t (applied (moment now e) f e) → StandsFor t (take_frame now e)
unfolding take_frame
left_stands f rest now s t linked first leaves e h k =
    let m : ℕ = moment now e in
    let kind : frame_kind f.kind ≡ Disconnect = ap frame_kind leaves in
    subst (λ (o : Option (Frame × List ℕ)). StandsFor t (took o m e)) (sym (next_is f rest s linked first e h))
    (subst (λ (c : FrameKind). StandsFor t (on_frame c f m (passed f rest m e))) (sym kind) (subst (λ (c : FrameKind). StandsFor t (on_frame c f m (passed f e.unread m e))) kind k))

pub read_delivery : (f : Frame) (rest : List ℕ) (s : EndpointState) → is_linked s.phase ≡ true → first_frame s.unread ≡ Some (f, rest) → (e : Endpoint) → StandsFor s e
    → Some (delivery_of (frame_kind f.kind) f e) ≡ delivery e
unfolding delivery
read_delivery f rest s linked first e h =
    sym (ap (λ (o : Option (Frame × List ℕ)). option_map (λ (n : Frame × List ℕ). delivery_of (frame_kind n.0.kind) n.0 e) o) (next_is f rest s linked first e h))
