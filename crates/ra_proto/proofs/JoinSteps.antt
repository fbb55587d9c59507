-- What an endpoint keeps, once a link began and was joined at once.
use Rattle.std.proofs.Common.{◌≡◌, ℕ, ◌++◌, ◌≤◌, Bool, true, false, cond, not, ◌&&◌, eqb, ltb, max, List, map, refl, ap, sym, ◌∙◌, subst, append-nil, arith}
use Rattle.std.proofs.lemmas.Bool.{cond-true, cond-false}
use Rattle.std.proofs.lemmas.Bool.Decides.{nat_tests}
use Rattle.ra_model.specs.declared.session.Phase.TheVariants.{Up}
use Rattle.ra_model.specs.Calls.{begin, finish, when}
use Rattle.ra_model.specs.Endpoints.{Endpoint, entry_frame, first_written, is_ended, is_joining}
use Rattle.ra_model.specs.EndpointStates.{EndpointState, StandsFor, entry_written}
use Rattle.ra_model.specs.FrameKinds.{ack_frame, resume_frame}
use Rattle.ra_model.specs.Frames as frames
use Rattle.ra_model.specs.Timing.{link_begun, link_up, watched}
use Rattle.ra_model.proofs.Stands.{state_on_link, state_up, state_replayed, state_acknowledging, state_dated, begin_first_stands, begin_later_stands, finish_stands, resume_stands}
use Rattle.ra_proto.specs.Joining.{rejoined, joined}

abbrev pub state_joined : Bool → Bool → ℕ → List ℕ → ℕ → EndpointState → EndpointState
state_joined again with_resume epoch chunk m s = record s {
  phase = Up;
  epoch = epoch;
  queue = map (entry_written m) s.queue;
  told = cond again s.received s.told;
  unread = chunk;
  unwritten = (frames.joined (when again (ack_frame s.received)) ++ frames.joined (map entry_frame s.queue)) ++ frames.joined (when with_resume resume_frame);
  paused = false;
  timing = watched (true && ltb s.acknowledged s.sent) (first_written (map (entry_written m) s.queue)) m (link_up s.keeps_alive m (link_begun m s.timing));
}

-- without a Resume
abbrev state_quiet : Bool → ℕ → List ℕ → ℕ → EndpointState → EndpointState
state_quiet again epoch chunk m s = record (state_joined again false epoch chunk m s) {
  unwritten = frames.joined (when again (ack_frame s.received)) ++ frames.joined (map entry_frame s.queue);
}

later_is : (epoch : ℕ) (chunk : List ℕ) (m n : ℕ) (s : EndpointState) → n ≡ m
    → state_up n (state_replayed n (state_acknowledging (state_dated n (state_on_link epoch chunk m s)))) ≡ state_quiet true epoch chunk m s
unfolding link_begun
later_is epoch chunk m n s same =
    ap (λ (k : ℕ). state_up k (state_replayed k (state_acknowledging (state_dated k (state_on_link epoch chunk m s))))) same

later_moment : (now latest : ℕ) → max now (max now latest) ≡ max now latest
later_moment now latest = omega arith

latest_begun : (now m : ℕ) (s : EndpointState) → m ≡ max now s.timing.latest → max now (link_begun m s.timing).latest ≡ m
unfolding link_begun
latest_begun now m s is = ap (λ (k : ℕ). max now k) is ∙ later_moment now s.timing.latest ∙ sym is

phase_is : (s : EndpointState) (e : Endpoint) → StandsFor s e → is_joining e.phase ≡ is_joining s.phase
phase_is s e stands = ap (λ (x : Endpoint). is_joining x.phase) stands.same

-- up to the Resume
quiet_stands : (again : Bool) (epoch : ℕ) (chunk : List ℕ) (now : ℕ) (s : EndpointState) → (not (is_ended s.phase) && ltb s.epoch epoch) ≡ true → eqb s.epoch 0 ≡ not again
    → (e : Endpoint) → StandsFor s e → StandsFor (state_quiet again epoch chunk (max now s.timing.latest) s) (rejoined now (begin epoch chunk now e))
quiet_stands true epoch chunk now s can later e h =
    let m : ℕ = max now s.timing.latest in
    let x : EndpointState = state_on_link epoch chunk m s in
    let b : StandsFor x (begin epoch chunk now e) = begin_later_stands epoch chunk now s can later e h in
    subst (λ (z : Endpoint). StandsFor (state_quiet true epoch chunk m s) z) (sym (cond-true (is_joining (begin epoch chunk now e).phase) _ _ (phase_is x (begin epoch chunk now e) b)))
    (subst (λ (z : EndpointState). StandsFor z (finish now (begin epoch chunk now e))) (later_is epoch chunk m (max now x.timing.latest) s (latest_begun now m s refl))
    (finish_stands now x refl (begin epoch chunk now e) b))
quiet_stands false epoch chunk now s can first e h =
    let m : ℕ = max now s.timing.latest in
    let b : StandsFor (state_quiet false epoch chunk m s) (begin epoch chunk now e) = begin_first_stands epoch chunk now s can first e h in
    subst (λ (z : Endpoint). StandsFor (state_quiet false epoch chunk m s) z) (sym (cond-false (is_joining (begin epoch chunk now e).phase) _ _ (phase_is (state_quiet false epoch chunk m s) (begin epoch chunk now e) b))) b

pub join_stands : (again with_resume : Bool) (epoch : ℕ) (chunk : List ℕ) (now : ℕ) (s : EndpointState) → (not (is_ended s.phase) && ltb s.epoch epoch) ≡ true → eqb s.epoch 0 ≡ not again
    → (e : Endpoint) → StandsFor s e → StandsFor (state_joined again with_resume epoch chunk (max now s.timing.latest) s) (joined with_resume now (begin epoch chunk now e))
join_stands again true epoch chunk now s can is e h =
    resume_stands (state_quiet again epoch chunk (max now s.timing.latest) s) refl (rejoined now (begin epoch chunk now e)) (quiet_stands again epoch chunk now s can is e h)
join_stands again false epoch chunk now s can is e h =
    subst (λ (bytes : List ℕ). StandsFor (record (state_quiet again epoch chunk (max now s.timing.latest) s) { unwritten = bytes }) (rejoined now (begin epoch chunk now e)))
    (sym (append-nil (frames.joined (when again (ack_frame s.received)) ++ frames.joined (map entry_frame s.queue))))
    (quiet_stands again epoch chunk now s can is e h)

pub is_first : (n : ℕ) → eqb n 0 ≡ not (ltb 0 n)
is_first n = grind (arith, nat_tests)

pub told_within : (again : Bool) (received told : ℕ) → told ≤ received → cond again received (cond false received told) ≤ received
told_within true received told h = omega arith
told_within false received told h = h
