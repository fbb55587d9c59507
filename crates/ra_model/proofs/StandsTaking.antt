-- What an endpoint in memory stands for once a frame of each kind has come, and what the frame hands up.
use Rattle.std.specs.Prelude.{option_map}
use Rattle.std.proofs.Common.{◌≡◌, ◌≢◌, Option, None, ℕ, suc, max, true, false, cond, not, ◌&&◌, ltb, Some, List, [], ◌∷◌, ◌++◌, ap, ◌∙◌, subst}
use Rattle.std.proofs.lemmas.Bool.{cond-true, cond-false, eq-eqb, ne_eqb}
use Rattle.ra_model.specs.declared.frame.Frame.{Frame}
use Rattle.ra_model.specs.declared.session.Up.{Up as Delivery}
use Rattle.ra_model.specs.declared.session.Up.TheVariants.{Message, Quiet}
use Rattle.ra_model.specs.Frames.{joined}
use Rattle.ra_model.specs.FirstFrame.{first_frame}
use Rattle.ra_model.specs.FrameKinds.{FrameKind, frame_kind, replay_request}
use Rattle.ra_model.specs.FrameKinds.FrameKind.{Regular, Other}
use Rattle.ra_model.specs.Timing.{message_heard, asked_lately}
use Rattle.ra_model.specs.Endpoints.{Endpoint, is_up, is_linked}
use Rattle.ra_model.specs.Taking.{next_frame, take_frame, delivery, delivery_of}
use Rattle.ra_model.specs.EndpointStates.{EndpointState, IsConsistent, IsNext, with_said, StandsFor}
use Rattle.ra_model.proofs.Stands.{state_passed, state_on_frame, take_stands, delivery_is}

pub take_kind : (kind : FrameKind) (f : Frame) (rest : List ℕ) (now : ℕ) (s : EndpointState) → IsNext kind f rest s → IsConsistent s → (e : Endpoint) → StandsFor s e
    → (let m : ℕ = max now s.timing.latest in StandsFor (state_on_frame kind f m (state_passed f rest m s)) (take_frame now e))
take_kind kind f rest now s comes whole e h =
    let m : ℕ = max now s.timing.latest in
    subst (λ (k : FrameKind). StandsFor (state_on_frame k f m (state_passed f rest m s)) (take_frame now e)) comes.is (take_stands f rest now s whole comes.linked comes.first e h)

pub delivery_kind : (kind : FrameKind) (f : Frame) (rest : List ℕ) (s : EndpointState) → IsNext kind f rest s → (e : Endpoint) → StandsFor s e → delivery e ≡ Some (delivery_of kind f (with_said 0 [] s))
delivery_kind kind f rest s comes e h = delivery_is f rest s comes.linked comes.first e h ∙ ap (λ (k : FrameKind). Some (delivery_of k f (with_said 0 [] s))) comes.is

-- the next message
pub take_message : (f : Frame) (rest : List ℕ) (now : ℕ) (s : EndpointState) → IsNext Regular f rest s → f.id ≡ suc s.received → IsConsistent s → (e : Endpoint) → StandsFor s e
    → (let m : ℕ = max now s.timing.latest in let p : EndpointState = state_passed f rest m s in
    StandsFor (record p { received = suc p.received; timing = cond (is_up p.phase) (message_heard m p.timing) p.timing }) (take_frame now e))
take_message f rest now s comes next whole e h =
    subst (λ (x : EndpointState). StandsFor x (take_frame now e)) (cond-true _ _ _ (eq-eqb f.id (suc s.received) next)) (take_kind Regular f rest now s comes whole e h)

pub message_delivery : (f : Frame) (rest : List ℕ) (s : EndpointState) → IsNext Regular f rest s → f.id ≡ suc s.received → (e : Endpoint) → StandsFor s e → delivery e ≡ Some (Message f.id f.body)
message_delivery f rest s comes next e h = delivery_kind Regular f rest s comes e h ∙ ap (λ (d : Delivery). Some d) (cond-true _ _ _ (eq-eqb f.id (suc s.received) next))

-- a message behind the next one, which asks for a replay
pub take_gap : (f : Frame) (rest : List ℕ) (now : ℕ) (s : EndpointState) → IsNext Regular f rest s → (ltb (suc s.received) f.id && not (asked_lately (max now s.timing.latest) s.timing)) ≡ true → f.id ≢ suc s.received → IsConsistent s → (e : Endpoint) → StandsFor s e
    → (let m : ℕ = max now s.timing.latest in let p : EndpointState = state_passed f rest m s in
    StandsFor (record p { unwritten = p.unwritten ++ joined (replay_request ∷ []); timing = record p.timing { asked = Some m } }) (take_frame now e))
take_gap f rest now s comes gap other whole e h =
    subst (λ (x : EndpointState). StandsFor x (take_frame now e))
    (cond-false _ _ _ (ne_eqb f.id (suc s.received) other) ∙ cond-true _ _ _ gap)
    (take_kind Regular f rest now s comes whole e h)

-- any other message, which is dropped
pub take_dropped : (f : Frame) (rest : List ℕ) (now : ℕ) (s : EndpointState) → IsNext Regular f rest s → f.id ≢ suc s.received → (ltb (suc s.received) f.id && not (asked_lately (max now s.timing.latest) s.timing)) ≡ false
    → IsConsistent s → (e : Endpoint) → StandsFor s e → (let m : ℕ = max now s.timing.latest in StandsFor (state_passed f rest m s) (take_frame now e))
take_dropped f rest now s comes other unasked whole e h =
    subst (λ (x : EndpointState). StandsFor x (take_frame now e)) (cond-false _ _ _ (ne_eqb f.id (suc s.received) other) ∙ cond-false _ _ _ unasked) (take_kind Regular f rest now s comes whole e h)

pub quiet_delivery : (f : Frame) (rest : List ℕ) (s : EndpointState) → IsNext Regular f rest s → f.id ≢ suc s.received → (e : Endpoint) → StandsFor s e → delivery e ≡ Some Quiet
quiet_delivery f rest s comes other e h = delivery_kind Regular f rest s comes e h ∙ ap (λ (d : Delivery). Some d) (cond-false _ _ _ (ne_eqb f.id (suc s.received) other))

-- there is no frame
pub delivery_none : (s : EndpointState) → cond (is_linked s.phase) (first_frame s.unread) None ≡ None → (e : Endpoint) → StandsFor s e → delivery e ≡ None
unfolding delivery
delivery_none s none e h =
    ap (λ (x : Endpoint). option_map (λ (n : Frame × List ℕ). delivery_of (frame_kind n.0.kind) n.0 x) (next_frame x)) h.same
    ∙ ap (λ (o : Option (Frame × List ℕ)). option_map (λ (n : Frame × List ℕ). delivery_of (frame_kind n.0.kind) n.0 (with_said e.base e.said s)) o) none

-- a frame of any other type
pub other_kind : (kind : ℕ) → kind ≢ 1 → kind ≢ 2 → kind ≢ 5 → kind ≢ 6 → kind ≢ 7 → kind ≢ 8 → frame_kind kind ≡ Other
other_kind kind a b c d e f =
    cond-false _ _ _ (ne_eqb kind 1 a) ∙ cond-false _ _ _ (ne_eqb kind 2 b) ∙ cond-false _ _ _ (ne_eqb kind 5 c) ∙ cond-false _ _ _ (ne_eqb kind 6 d)
    ∙ cond-false _ _ _ (ne_eqb kind 7 e) ∙ cond-false _ _ _ (ne_eqb kind 8 f)
