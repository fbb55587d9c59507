-- What an endpoint in memory stands for once a frame was applied that is not among its unread bytes, or stays there; and what the frame hands up.
use Rattle.std.proofs.Common.{◌≡◌, ◌≢◌, ℕ, suc, ◌+◌, ◌≤◌, max, min, Bool, true, false, cond, not, ◌&&◌, eqb, ltb, Some, List, [], ◌∷◌, ◌++◌, map, refl, ap, sym, ◌∙◌, subst, arith}
use Rattle.std.proofs.lemmas.Bool.{cond-true, cond-false, eq-eqb, ne_eqb}
use Rattle.ra_model.specs.declared.frame.Frame.{Frame}
use Rattle.ra_model.specs.declared.session.Entry.{Entry}
use Rattle.ra_model.specs.declared.session.Up.TheVariants.{Message, Quiet}
use Rattle.ra_model.specs.Frames.{joined}
use Rattle.ra_model.specs.FrameKinds.{FrameKind, frame_kind, replay_request}
use Rattle.ra_model.specs.FrameKinds.FrameKind.{Regular, Control, Disconnect, ReplayRequest, Pause, Resume, Other}
use Rattle.ra_model.specs.Timing.{watched, message_heard, asked_lately}
use Rattle.ra_model.specs.Endpoints.{Endpoint, is_up, sent, owed, entry_frame, first_written}
use Rattle.ra_model.specs.Calls.{moment, rewritten, replayed, checked}
use Rattle.ra_model.specs.Taking.{passed, on_regular, on_frame, delivery_of}
use Rattle.ra_model.specs.HeardPlaces.{applied}
use Rattle.ra_model.specs.EndpointStates.{EndpointState, IsConsistent, with_said, StandsFor, IsOrdered, behind, entry_written}
use Rattle.ra_model.proofs.Calls.{length-rewritten}
use Rattle.ra_model.proofs.Queue.{ordered, acknowledged, written_again}
use Rattle.ra_model.proofs.Stands.{by_said, state_passed, state_on_regular, state_on_frame, state_replayed, state_checked}

replayed_stands : (m : ℕ) (s : EndpointState) (e : Endpoint) → StandsFor s e → StandsFor (state_replayed m s) (replayed m e)
unfolding owed
replayed_stands m s = by_said s (state_replayed m s) (replayed m) (λ base said h.
    let e : Endpoint = with_said base said s in
    record {
      same = ap (λ (es : List Entry). record (with_said base (rewritten m e) s) { unwritten = s.unwritten ++ joined (map entry_frame es) }) (sym h.queue);
      sent = h.sent ∙ ap (λ (n : ℕ). base + n) (sym (length-rewritten m e));
      queue = ap (λ (es : List Entry). map (entry_written m) es) h.queue ∙ sym (written_again e m);
    })

checked_stands : (m : ℕ) (s : EndpointState) (e : Endpoint) → StandsFor s e → StandsFor (state_checked m s) (checked m e)
unfolding owed
checked_stands m s = by_said s (state_checked m s) (checked m) (λ base said h.
    let e : Endpoint = with_said base said s in
    let made : ℕ → List Entry → Endpoint = λ n es. record e { timing = watched (is_up s.phase && ltb s.acknowledged n) (first_written es) m s.timing } in
    record {
      same = ap (λ (n : ℕ). made n (owed e)) (sym h.sent) ∙ ap (λ (es : List Entry). made s.sent es) (sym h.queue);
      sent = h.sent;
      queue = h.queue;
    })

passed_stands : (f : Frame) (rest : List ℕ) (m : ℕ) (s : EndpointState) → IsConsistent s → (e : Endpoint) → StandsFor s e → StandsFor (state_passed f rest m s) (passed f rest m e)
unfolding owed
passed_stands f rest m s whole = by_said s (state_passed f rest m s) (passed f rest m) (λ base ms h.
    let e : Endpoint = with_said base ms s in
    let upto : ℕ → ℕ = λ n. max s.acknowledged (min f.ack n) in
    let order : IsOrdered e = ordered s e h whole.all in
    let high : s.acknowledged ≤ sent e = order.acknowledged in
    record {
      same = ap (λ (n : ℕ). record e { unread = rest; acknowledged = upto n; timing = record s.timing { latest = m } }) (sym h.sent);
      sent = h.sent;
      queue = ap (λ (es : List Entry). behind (upto s.sent) es) h.queue ∙ ap (λ (n : ℕ). behind (upto n) (owed e)) h.sent
          ∙ sym (acknowledged e (upto (sent e)) order (omega arith) (omega arith));
    })

either : (b : Bool) (s t : EndpointState) (x y : Endpoint) → StandsFor s x → StandsFor t y → StandsFor (cond b s t) (cond b x y)
either true s t x y p q = p
either false s t x y p q = q

on_frame_stands : (kind : FrameKind) (f : Frame) (m : ℕ) (s : EndpointState) (e : Endpoint) → StandsFor s e → StandsFor (state_on_frame kind f m s) (on_frame kind f m e)
unfolding owed
on_frame_stands Regular f m s = by_said s (state_on_regular f m s) (on_regular f m) (λ base said h.
    either (eqb f.id (suc s.received)) _ _ _ _ (record { same = refl; sent = h.sent; queue = h.queue })
    (either (ltb (suc s.received) f.id && not (asked_lately m s.timing)) _ _ _ _ (record { same = refl; sent = h.sent; queue = h.queue }) h))
on_frame_stands Control f m s = λ e h. h
on_frame_stands Disconnect f m s = by_said s _ (on_frame Disconnect f m) (λ base said h. record { same = refl; sent = h.sent; queue = h.queue })
on_frame_stands ReplayRequest f m s = λ e h. checked_stands m (state_replayed m s) (replayed m e) (replayed_stands m s e h)
on_frame_stands Pause f m s = by_said s _ (on_frame Pause f m) (λ base said h. record { same = refl; sent = h.sent; queue = h.queue })
on_frame_stands Resume f m s = by_said s _ (on_frame Resume f m) (λ base said h. record { same = refl; sent = h.sent; queue = h.queue })
on_frame_stands Other f m s = λ e h. h

-- a frame of this kind
pub applied_kind : (kind : FrameKind) (f : Frame) (now : ℕ) (s : EndpointState) → frame_kind f.kind ≡ kind → IsConsistent s → (e : Endpoint) → StandsFor s e
    → (let m : ℕ = max now s.timing.latest in StandsFor (state_on_frame kind f m (state_passed f s.unread m s)) (applied (moment now e) f e))
applied_kind kind f now s is whole = by_said s _ (λ (e : Endpoint). applied (moment now e) f e) (λ base ms h.
    let x : Endpoint = with_said base ms s in
    let m : ℕ = max now s.timing.latest in
    subst (λ (k : FrameKind). StandsFor (state_on_frame k f m (state_passed f s.unread m s)) (applied m f x)) is
    (on_frame_stands (frame_kind f.kind) f m (state_passed f s.unread m s) (passed f s.unread m x) (passed_stands f s.unread m s whole x h)))

-- the next message
pub applied_message : (f : Frame) (now : ℕ) (s : EndpointState) → frame_kind f.kind ≡ Regular → f.id ≡ suc s.received → IsConsistent s → (e : Endpoint) → StandsFor s e
    → (let m : ℕ = max now s.timing.latest in let p : EndpointState = state_passed f s.unread m s in
    StandsFor (record p { received = suc p.received; timing = cond (is_up p.phase) (message_heard m p.timing) p.timing }) (applied (moment now e) f e))
applied_message f now s is next whole e h =
    subst (λ (x : EndpointState). StandsFor x (applied (moment now e) f e)) (cond-true _ _ _ (eq-eqb f.id (suc s.received) next)) (applied_kind Regular f now s is whole e h)

-- a message behind the next one, which asks for a replay
pub applied_gap : (f : Frame) (now : ℕ) (s : EndpointState) → frame_kind f.kind ≡ Regular → (ltb (suc s.received) f.id && not (asked_lately (max now s.timing.latest) s.timing)) ≡ true → f.id ≢ suc s.received
    → IsConsistent s → (e : Endpoint) → StandsFor s e
    → (let m : ℕ = max now s.timing.latest in let p : EndpointState = state_passed f s.unread m s in
    StandsFor (record p { unwritten = p.unwritten ++ joined (replay_request ∷ []); timing = record p.timing { asked = Some m } }) (applied (moment now e) f e))
applied_gap f now s is gap other whole e h =
    subst (λ (x : EndpointState). StandsFor x (applied (moment now e) f e))
    (cond-false _ _ _ (ne_eqb f.id (suc s.received) other) ∙ cond-true _ _ _ gap)
    (applied_kind Regular f now s is whole e h)

-- any other message, which is dropped
pub applied_dropped : (f : Frame) (now : ℕ) (s : EndpointState) → frame_kind f.kind ≡ Regular → f.id ≢ suc s.received → (ltb (suc s.received) f.id && not (asked_lately (max now s.timing.latest) s.timing)) ≡ false
    → IsConsistent s → (e : Endpoint) → StandsFor s e → (let m : ℕ = max now s.timing.latest in StandsFor (state_passed f s.unread m s) (applied (moment now e) f e))
applied_dropped f now s is other unasked whole e h =
    subst (λ (x : EndpointState). StandsFor x (applied (moment now e) f e)) (cond-false _ _ _ (ne_eqb f.id (suc s.received) other) ∙ cond-false _ _ _ unasked) (applied_kind Regular f now s is whole e h)

-- what a frame hands up
pub handed_kind : (kind : FrameKind) (f : Frame) (s : EndpointState) → frame_kind f.kind ≡ kind → (e : Endpoint) → StandsFor s e
    → delivery_of kind f (with_said 0 [] s) ≡ delivery_of (frame_kind f.kind) f e
handed_kind kind f s is e h =
    sym (ap (λ (x : Endpoint). delivery_of (frame_kind f.kind) f x) h.same ∙ ap (λ (k : FrameKind). delivery_of k f (with_said e.base e.said s)) is ∙ same_delivery kind)
  where
    same_delivery : (k : FrameKind) → delivery_of k f (with_said e.base e.said s) ≡ delivery_of k f (with_said 0 [] s)
    same_delivery Regular = refl
    same_delivery Control = refl
    same_delivery Disconnect = refl
    same_delivery ReplayRequest = refl
    same_delivery Pause = refl
    same_delivery Resume = refl
    same_delivery Other = refl

pub handed_message : (f : Frame) (s : EndpointState) → frame_kind f.kind ≡ Regular → f.id ≡ suc s.received → (e : Endpoint) → StandsFor s e → Message f.id f.body ≡ delivery_of (frame_kind f.kind) f e
handed_message f s is next e h = sym (cond-true _ _ _ (eq-eqb f.id (suc s.received) next)) ∙ handed_kind Regular f s is e h

pub handed_quiet : (f : Frame) (s : EndpointState) → frame_kind f.kind ≡ Regular → f.id ≢ suc s.received → (e : Endpoint) → StandsFor s e → Quiet ≡ delivery_of (frame_kind f.kind) f e
handed_quiet f s is other e h = sym (cond-false _ _ _ (ne_eqb f.id (suc s.received) other)) ∙ handed_kind Regular f s is e h
