-- What an endpoint in memory stands for stays so through each call: what the call changes in memory, and that it is the change.
use Rattle.std.proofs.Common.{◌≡◌, ℕ, suc, ◌+◌, ◌-◌, ◌<◌, ◌≤◌, max, min, Bool, true, false, cond, not, ◌&&◌, eqb, ltb, leb, Option, Some, None, List, [], ◌∷◌, ◌++◌, length, map, drop, refl, ap, sym, ◌∙◌, subst, arith, length-append}
use Rattle.std.specs.Prelude.{option_map}
use Rattle.std.proofs.lemmas.Bool.{cond-true, cond-false, and_from, le-leb, lt-ltb}
use Rattle.std.proofs.Math.Seq.{drop-nil}
use Rattle.ra_model.specs.declared.session.Up.{Up as Delivery}
use Rattle.ra_model.specs.declared.frame.Frame.{Frame}
use Rattle.ra_model.specs.declared.session.Entry.{Entry}
use Rattle.ra_model.specs.declared.session.Phase.TheVariants.{Away, Joining, Up, Ended}
use Rattle.ra_model.specs.Frames.{joined, body_limit, last_id}
use Rattle.ra_model.specs.FirstFrame.{first_frame}
use Rattle.ra_model.specs.FrameKinds.{FrameKind, frame_kind, regular, control_frame, ack_frame, disconnect_frame, replay_request, pause_frame, resume_frame, keep_alive_frame}
use Rattle.ra_model.specs.FrameKinds.FrameKind.{Regular, Control, Disconnect, ReplayRequest, Pause, Resume, Other}
use Rattle.ra_model.specs.Timing.{watched, fires, timeout_served, acks, acknowledge_served, keep_alive_served, message_heard, link_begun, link_up, alarms_cleared, asked_lately, is_due}
use Rattle.ra_model.specs.Endpoints.{Endpoint, SaidMessage, is_up, is_linked, is_ended, is_joining, sent, owed, numbered, entry_frame, first_written, new_endpoint}
use Rattle.ra_model.specs.Calls.{dated, when, written, rewritten, replayed, checked, brought_up, can_say, say, control, ask_pause, ask_resume, on_link, begin, acknowledging, finish, fed_after, feed, wrote, lose, leave, ticked, tick, times_out}
use Rattle.ra_model.specs.Taking.{next_frame, passed, on_regular, on_frame, took, take_frame, delivery, delivery_of}
use Rattle.ra_model.specs.EndpointStates.{EndpointState, IsConsistent, with_said, StandsFor, IsOrdered, behind, entry_written}
use Rattle.ra_model.proofs.Calls.{length-rewritten}
use Rattle.ra_model.proofs.Queue.{ordered, said, acknowledged, written_again}

-- it is enough to look at the endpoint that is as in memory, and said anything that fits
pub by_said : (s s' : EndpointState) (call : Endpoint → Endpoint)
    → ((base : ℕ) (said : List SaidMessage) → StandsFor s (with_said base said s) → StandsFor s' (call (with_said base said s)))
    → (e : Endpoint) → StandsFor s e → StandsFor s' (call e)
by_said s s' call step e h = subst (λ (x : Endpoint). StandsFor s' (call x)) (sym h.same) (step e.base e.said (subst (λ (x : Endpoint). StandsFor s x) h.same h))

-- a call that applies, and one that does not
applies : (s : EndpointState) (b : Bool) (x y : Endpoint) → b ≡ true → StandsFor s x → StandsFor s (cond b x y)
applies s b x y is h = subst (λ (e : Endpoint). StandsFor s e) (sym (cond-true b x y is)) h

fails : (s : EndpointState) (b : Bool) (x y : Endpoint) → b ≡ false → StandsFor s y → StandsFor s (cond b x y)
fails s b x y is h = subst (λ (e : Endpoint). StandsFor s e) (sym (cond-false b x y is)) h

-- the steps that calls have in common

abbrev pub state_dated : ℕ → EndpointState → EndpointState
state_dated m s = record s { timing = record s.timing { latest = m } }

abbrev pub state_written : List Frame → EndpointState → EndpointState
state_written frames s = record s { unwritten = s.unwritten ++ joined frames }

abbrev pub state_replayed : ℕ → EndpointState → EndpointState
state_replayed m s = record s { queue = map (entry_written m) s.queue; unwritten = s.unwritten ++ joined (map entry_frame s.queue) }

abbrev pub state_waits : EndpointState → Bool
state_waits s = is_up s.phase && ltb s.acknowledged s.sent

abbrev pub state_checked : ℕ → EndpointState → EndpointState
state_checked m s = record s { timing = watched (state_waits s) (first_written s.queue) m s.timing }

abbrev pub state_up : ℕ → EndpointState → EndpointState
state_up m s = state_checked m (record s { phase = Up; timing = link_up s.keeps_alive m s.timing })

dated_stands : (m : ℕ) (s : EndpointState) (e : Endpoint) → StandsFor s e → StandsFor (state_dated m s) (dated m e)
unfolding owed
dated_stands m s = by_said s (state_dated m s) (dated m) (λ base said h. record { same = refl; sent = h.sent; queue = h.queue })

written_stands : (frames : List Frame) (s : EndpointState) (e : Endpoint) → StandsFor s e → StandsFor (state_written frames s) (written frames e)
unfolding owed
written_stands frames s = by_said s (state_written frames s) (written frames) (λ base said h. record { same = refl; sent = h.sent; queue = h.queue })

replayed_stands : (m : ℕ) (s : EndpointState) (e : Endpoint) → StandsFor s e → StandsFor (state_replayed m s) (replayed m e)
unfolding owed
replayed_stands m s = by_said s (state_replayed m s) (replayed m) (λ base said h.
    let e : Endpoint = with_said base said s in
    record {
      same = ap (λ (es : List Entry). record (with_said base (rewritten m e) s) { unwritten = s.unwritten ++ joined (map entry_frame es) }) (sym h.queue);
      sent = h.sent ∙ ap (λ (n : ℕ). base + n) (sym (length-rewritten m e));
      queue = ap (λ (es : List Entry). map (entry_written m) es) h.queue ∙ sym (written_again e m);
    })

checked_stands : (m : ℕ) (s : EndpointState) (e : Endpoint) → StandsFor s e → StandsFor (state_checked m s) (checked m e)
unfolding owed
checked_stands m s = by_said s (state_checked m s) (checked m) (λ base said h.
    let e : Endpoint = with_said base said s in
    let made : ℕ → List Entry → Endpoint = λ n es. record e { timing = watched (is_up s.phase && ltb s.acknowledged n) (first_written es) m s.timing } in
    record {
      same = ap (λ (n : ℕ). made n (owed e)) (sym h.sent) ∙ ap (λ (es : List Entry). made s.sent es) (sym h.queue);
      sent = h.sent;
      queue = h.queue;
    })

up_stands : (m : ℕ) (s : EndpointState) (e : Endpoint) → StandsFor s e → StandsFor (state_up m s) (brought_up m e)
unfolding owed
up_stands m s e h =
    checked_stands m (record s { phase = Up; timing = link_up s.keeps_alive m s.timing }) (record e { phase = Up; timing = link_up e.keeps_alive m e.timing })
    (by_said s (record s { phase = Up; timing = link_up s.keeps_alive m s.timing }) (λ (x : Endpoint). record x { phase = Up; timing = link_up x.keeps_alive m x.timing })
    (λ base said k. record { same = refl; sent = k.sent; queue = k.queue }) e h)

-- a new endpoint

abbrev pub new_state : ℕ → ℕ → Bool → EndpointState
new_state base now keeps_alive =
    let e : Endpoint = new_endpoint base now keeps_alive in
    record { phase = Away; epoch = 0; sent = base; queue = []; received = base; acknowledged = base; told = base; unread = []; unwritten = []; paused = false; keeps_alive = keeps_alive; timing = e.timing }

pub new_stands : (base now : ℕ) (keeps_alive : Bool) → StandsFor (new_state base now keeps_alive) (new_endpoint base now keeps_alive)
unfolding owed
new_stands base now keeps_alive = record { same = refl; sent = omega arith; queue = sym (ap (λ (ms : List SaidMessage). numbered base ms) (drop-nil (base - base))) }

-- messages

abbrev pub said_entry : List ℕ → ℕ → EndpointState → Entry
said_entry body m s = record { id = s.sent + 1; ack = s.received; body = body; written = cond (is_up s.phase) (Some m) None }

-- before the check of the timeout
abbrev pub state_added : List ℕ → ℕ → EndpointState → EndpointState
state_added body m s = record s {
  sent = s.sent + 1;
  queue = s.queue ++ said_entry body m s ∷ [];
  told = s.received;
  unwritten = s.unwritten ++ joined (when (is_up s.phase) (regular (s.sent + 1) s.received body));
  timing = record s.timing { latest = m };
}

abbrev pub state_said : List ℕ → ℕ → EndpointState → EndpointState
state_said body m s = state_checked m (state_added body m s)

abbrev added : List ℕ → ℕ → Endpoint → Endpoint
added body m e = record (dated m e) {
  said = e.said ++ record { body = body; ack = e.received; written = cond (is_up e.phase) (Some m) None } ∷ [];
  told = e.received;
  unwritten = e.unwritten ++ joined (when (is_up e.phase) (regular (suc (sent e)) e.received body));
}

added_stands : (body : List ℕ) (m : ℕ) (s : EndpointState) → IsConsistent s → (e : Endpoint) → StandsFor s e → StandsFor (state_added body m s) (added body m e)
unfolding owed
added_stands body m s whole = by_said s (state_added body m s) (added body m) (λ base ms h.
    let e : Endpoint = with_said base ms s in
    let entry : SaidMessage = record { body = body; ack = s.received; written = cond (is_up s.phase) (Some m) None } in
    let made : ℕ → Endpoint = λ n. record (with_said base (ms ++ entry ∷ []) s) {
      told = s.received;
      unwritten = s.unwritten ++ joined (when (is_up s.phase) (regular n s.received body));
      timing = record s.timing { latest = m };
    } in
    let longer : s.sent ≡ base + length ms = h.sent in
    let next : suc (base + length ms) ≡ s.sent + 1 = omega arith in
    record {
      same = ap made next;
      sent = omega (arith, length-append ms (entry ∷ []));
      queue = ap (λ (es : List Entry). es ++ said_entry body m s ∷ []) h.queue
          ∙ ap (λ (n : ℕ). owed e ++ record { id = n; ack = s.received; body = body; written = entry.written } ∷ []) (sym next)
          ∙ sym (said e entry (ordered s e h whole.all));
    })

pub say_stands : (body : List ℕ) (now : ℕ) (s : EndpointState) → IsConsistent s → is_ended s.phase ≡ false → length body ≤ body_limit → s.sent < last_id → (e : Endpoint) → StandsFor s e
    → StandsFor (state_said body (max now s.timing.latest) s) (say body now e)
unfolding say
say_stands body now s whole going fits room = by_said s (state_said body (max now s.timing.latest) s) (say body now) (λ base ms h.
    let x : Endpoint = with_said base ms s in
    let m : ℕ = max now s.timing.latest in
    let longer : s.sent ≡ base + length ms = h.sent in
    let can : can_say body x ≡ true = and_from _ _ (ap not going) (and_from _ _ (le-leb (length body) body_limit fits) (lt-ltb (base + length ms) last_id (omega arith))) in
    applies (state_said body m s) (can_say body x) _ _ can (checked_stands m (state_added body m s) (added body m x) (added_stands body m s whole x h)))

-- frames of the endpoint itself

pub control_stands : (body : List ℕ) (s : EndpointState) → (is_linked s.phase && leb (length body) body_limit) ≡ true → (e : Endpoint) → StandsFor s e → StandsFor (state_written (control_frame body ∷ []) s) (control body e)
unfolding control
control_stands body s can = by_said s (state_written (control_frame body ∷ []) s) (control body) (λ base ms h. applies _ _ _ _ can (written_stands (control_frame body ∷ []) s (with_said base ms s) h))

pub pause_stands : (s : EndpointState) → is_linked s.phase ≡ true → (e : Endpoint) → StandsFor s e → StandsFor (state_written (pause_frame ∷ []) s) (ask_pause e)
unfolding ask_pause
pause_stands s up = by_said s (state_written (pause_frame ∷ []) s) ask_pause (λ base ms h. applies _ _ _ _ up (written_stands (pause_frame ∷ []) s (with_said base ms s) h))

pub resume_stands : (s : EndpointState) → is_linked s.phase ≡ true → (e : Endpoint) → StandsFor s e → StandsFor (state_written (resume_frame ∷ []) s) (ask_resume e)
unfolding ask_resume
resume_stands s up = by_said s (state_written (resume_frame ∷ []) s) ask_resume (λ base ms h. applies _ _ _ _ up (written_stands (resume_frame ∷ []) s (with_said base ms s) h))

-- links

abbrev pub state_on_link : ℕ → List ℕ → ℕ → EndpointState → EndpointState
state_on_link epoch chunk m s = record s { phase = Joining; epoch = epoch; unread = chunk; unwritten = []; paused = false; timing = link_begun m s.timing }

on_link_stands : (epoch : ℕ) (chunk : List ℕ) (m : ℕ) (s : EndpointState) (e : Endpoint) → StandsFor s e → StandsFor (state_on_link epoch chunk m s) (on_link epoch chunk m e)
unfolding owed
on_link_stands epoch chunk m s = by_said s (state_on_link epoch chunk m s) (on_link epoch chunk m) (λ base said h. record { same = refl; sent = h.sent; queue = h.queue })

-- the first link is up at once
pub begin_first_stands : (epoch : ℕ) (chunk : List ℕ) (now : ℕ) (s : EndpointState) → (not (is_ended s.phase) && ltb s.epoch epoch) ≡ true → eqb s.epoch 0 ≡ true → (e : Endpoint) → StandsFor s e
    → (let m : ℕ = max now s.timing.latest in StandsFor (state_up m (state_replayed m (state_on_link epoch chunk m s))) (begin epoch chunk now e))
unfolding begin
begin_first_stands epoch chunk now s can first = by_said s _ (begin epoch chunk now) (λ base ms h.
    let m : ℕ = max now s.timing.latest in
    let x : Endpoint = with_said base ms s in
    let fresh : StandsFor (state_on_link epoch chunk m s) (on_link epoch chunk m x) = on_link_stands epoch chunk m s x h in
    let replay = replayed_stands m (state_on_link epoch chunk m s) (on_link epoch chunk m x) fresh in
    applies _ _ _ _ can (applies _ _ _ _ first (up_stands m (state_replayed m (state_on_link epoch chunk m s)) (replayed m (on_link epoch chunk m x)) replay)))

-- a later one is joined
pub begin_later_stands : (epoch : ℕ) (chunk : List ℕ) (now : ℕ) (s : EndpointState) → (not (is_ended s.phase) && ltb s.epoch epoch) ≡ true → eqb s.epoch 0 ≡ false → (e : Endpoint) → StandsFor s e
    → StandsFor (state_on_link epoch chunk (max now s.timing.latest) s) (begin epoch chunk now e)
unfolding begin
begin_later_stands epoch chunk now s can later = by_said s _ (begin epoch chunk now) (λ base ms h.
    applies _ _ _ _ can (fails _ _ _ _ later (on_link_stands epoch chunk (max now s.timing.latest) s (with_said base ms s) h)))

abbrev pub state_acknowledging : EndpointState → EndpointState
state_acknowledging s = state_written (ack_frame s.received ∷ []) (record s { told = s.received })

acknowledging_stands : (s : EndpointState) (e : Endpoint) → StandsFor s e → StandsFor (state_acknowledging s) (acknowledging e)
unfolding owed
acknowledging_stands s = by_said s (state_acknowledging s) acknowledging (λ base said h. record { same = refl; sent = h.sent; queue = h.queue })

pub finish_stands : (now : ℕ) (s : EndpointState) → is_joining s.phase ≡ true → (e : Endpoint) → StandsFor s e
    → (let m : ℕ = max now s.timing.latest in StandsFor (state_up m (state_replayed m (state_acknowledging (state_dated m s)))) (finish now e))
unfolding finish
finish_stands now s joining = by_said s _ (finish now) (λ base ms h.
    let m : ℕ = max now s.timing.latest in
    let x : Endpoint = with_said base ms s in
    let before = acknowledging_stands (state_dated m s) (dated m x) (dated_stands m s x h) in
    let replay = replayed_stands m (state_acknowledging (state_dated m s)) (acknowledging (dated m x)) before in
    applies _ _ _ _ joining (up_stands m (state_replayed m (state_acknowledging (state_dated m s))) (replayed m (acknowledging (dated m x))) replay))

pub feed_stands : (epoch : ℕ) (piece : List ℕ) (now : ℕ) (s : EndpointState) → (is_linked s.phase && eqb epoch s.epoch) ≡ true → (e : Endpoint) → StandsFor s e
    → StandsFor (record s { unread = s.unread ++ piece; timing = record s.timing { latest = max now s.timing.latest; fed = fed_after piece s.timing.fed (max now s.timing.latest) } }) (feed epoch piece now e)
unfolding feed owed
feed_stands epoch piece now s can = by_said s _ (feed epoch piece now) (λ base said h. applies _ _ _ _ can (record { same = refl; sent = h.sent; queue = h.queue }))

pub wrote_stands : (n : ℕ) (s : EndpointState) → leb n (length (cond s.paused [] s.unwritten)) ≡ true → (e : Endpoint) → StandsFor s e → StandsFor (record s { unwritten = drop n s.unwritten }) (wrote n e)
unfolding wrote owed
wrote_stands n s can = by_said s _ (wrote n) (λ base said h. applies _ _ _ _ can (record { same = refl; sent = h.sent; queue = h.queue }))

pub lose_stands : (epoch : ℕ) (s : EndpointState) → (is_linked s.phase && eqb epoch s.epoch) ≡ true → (e : Endpoint) → StandsFor s e
    → StandsFor (record s { phase = Away; unread = []; unwritten = []; timing = alarms_cleared s.timing }) (lose epoch e)
unfolding lose owed
lose_stands epoch s can = by_said s _ (lose epoch) (λ base said h. applies _ _ _ _ can (record { same = refl; sent = h.sent; queue = h.queue }))

pub lose_other_stands : (epoch : ℕ) (s : EndpointState) → (is_linked s.phase && eqb epoch s.epoch) ≡ false → (e : Endpoint) → StandsFor s e → StandsFor s (lose epoch e)
unfolding lose owed
lose_other_stands epoch s other = by_said s _ (lose epoch) (λ base said h. fails _ _ _ _ other (record { same = refl; sent = h.sent; queue = h.queue }))

pub leave_stands : (s : EndpointState) → is_ended s.phase ≡ false → (e : Endpoint) → StandsFor s e
    → StandsFor (record s { phase = Ended; unwritten = s.unwritten ++ joined (when (is_linked s.phase) disconnect_frame) }) (leave e)
unfolding leave owed
leave_stands s going = by_said s _ leave (λ base said h. applies _ _ _ _ (ap not going) (record { same = refl; sent = h.sent; queue = h.queue }))

-- frames that come

abbrev pub state_passed : Frame → List ℕ → ℕ → EndpointState → EndpointState
state_passed f rest m s =
    let upto : ℕ = max s.acknowledged (min f.ack s.sent) in
    record s { unread = rest; acknowledged = upto; queue = behind upto s.queue; timing = record s.timing { latest = m } }

passed_stands : (f : Frame) (rest : List ℕ) (m : ℕ) (s : EndpointState) → IsConsistent s → (e : Endpoint) → StandsFor s e → StandsFor (state_passed f rest m s) (passed f rest m e)
unfolding owed
passed_stands f rest m s whole = by_said s (state_passed f rest m s) (passed f rest m) (λ base ms h.
    let e : Endpoint = with_said base ms s in
    let upto : ℕ → ℕ = λ n. max s.acknowledged (min f.ack n) in
    let order : IsOrdered e = ordered s e h whole.all in
    let high : s.acknowledged ≤ base + length ms = order.acknowledged in
    record {
      same = ap (λ (n : ℕ). record e { unread = rest; acknowledged = upto n; timing = record s.timing { latest = m } }) (sym h.sent);
      sent = h.sent;
      queue = ap (λ (es : List Entry). behind (upto s.sent) es) h.queue ∙ ap (λ (n : ℕ). behind (upto n) (owed e)) h.sent
          ∙ sym (acknowledged e (upto (base + length ms)) order (omega arith) (omega arith));
    })

abbrev pub state_on_regular : Frame → ℕ → EndpointState → EndpointState
state_on_regular f m s =
    cond (eqb f.id (suc s.received))
    (record s { received = suc s.received; timing = cond (is_up s.phase) (message_heard m s.timing) s.timing })
    (cond (ltb (suc s.received) f.id && not (asked_lately m s.timing))
    (record s { unwritten = s.unwritten ++ joined (replay_request ∷ []); timing = record s.timing { asked = Some m } })
    s)

abbrev pub state_on_frame : FrameKind → Frame → ℕ → EndpointState → EndpointState
state_on_frame Regular f m s = state_on_regular f m s
state_on_frame Control f m s = s
state_on_frame Disconnect f m s = record s { phase = Ended; unread = []; unwritten = [] }
state_on_frame ReplayRequest f m s = state_checked m (state_replayed m s)
state_on_frame Pause f m s = record s { paused = true }
state_on_frame Resume f m s = record s { paused = false }
state_on_frame Other f m s = s

either : (b : Bool) (s t : EndpointState) (x y : Endpoint) → StandsFor s x → StandsFor t y → StandsFor (cond b s t) (cond b x y)
either true s t x y p q = p
either false s t x y p q = q

on_frame_stands : (kind : FrameKind) (f : Frame) (m : ℕ) (s : EndpointState) (e : Endpoint) → StandsFor s e → StandsFor (state_on_frame kind f m s) (on_frame kind f m e)
unfolding owed
on_frame_stands Regular f m s = by_said s (state_on_regular f m s) (on_regular f m) (λ base said h.
    either (eqb f.id (suc s.received)) _ _ _ _ (record { same = refl; sent = h.sent; queue = h.queue })
    (either (ltb (suc s.received) f.id && not (asked_lately m s.timing)) _ _ _ _ (record { same = refl; sent = h.sent; queue = h.queue }) h))
on_frame_stands Control f m s = λ e h. h
on_frame_stands Disconnect f m s = by_said s _ (on_frame Disconnect f m) (λ base said h. record { same = refl; sent = h.sent; queue = h.queue })
on_frame_stands ReplayRequest f m s = λ e h. checked_stands m (state_replayed m s) (replayed m e) (replayed_stands m s e h)
on_frame_stands Pause f m s = by_said s _ (on_frame Pause f m) (λ base said h. record { same = refl; sent = h.sent; queue = h.queue })
on_frame_stands Resume f m s = by_said s _ (on_frame Resume f m) (λ base said h. record { same = refl; sent = h.sent; queue = h.queue })
on_frame_stands Other f m s = λ e h. h

-- a frame is applied
pub take_stands : (f : Frame) (rest : List ℕ) (now : ℕ) (s : EndpointState) → IsConsistent s → is_linked s.phase ≡ true → first_frame s.unread ≡ Some (f, rest) → (e : Endpoint) → StandsFor s e
    → (let m : ℕ = max now s.timing.latest in StandsFor (state_on_frame (frame_kind f.kind) f m (state_passed f rest m s)) (take_frame now e))
unfolding take_frame
take_stands f rest now s whole up is = by_said s _ (take_frame now) (λ base ms h.
    let x : Endpoint = with_said base ms s in
    let m : ℕ = max now s.timing.latest in
    let next : next_frame x ≡ Some (f, rest) = cond-true (is_linked s.phase) _ _ up ∙ is in
    subst (λ (o : Option (Frame × List ℕ)). StandsFor (state_on_frame (frame_kind f.kind) f m (state_passed f rest m s)) (took o m x)) (sym next)
    (on_frame_stands (frame_kind f.kind) f m (state_passed f rest m s) (passed f rest m x) (passed_stands f rest m s whole x h)))

-- there is no frame to apply
pub take_none_stands : (now : ℕ) (s : EndpointState) → cond (is_linked s.phase) (first_frame s.unread) None ≡ None → (e : Endpoint) → StandsFor s e → StandsFor s (take_frame now e)
unfolding take_frame
take_none_stands now s none = by_said s s (take_frame now) (λ base ms h.
    subst (λ (o : Option (Frame × List ℕ)). StandsFor s (took o (max now s.timing.latest) (with_said base ms s))) (sym none) h)

-- what a frame hands up
pub delivery_is : (f : Frame) (rest : List ℕ) (s : EndpointState) → is_linked s.phase ≡ true → first_frame s.unread ≡ Some (f, rest) → (e : Endpoint) → StandsFor s e
    → delivery e ≡ Some (delivery_of (frame_kind f.kind) f (with_said 0 [] s))
unfolding delivery
delivery_is f rest s up is e h =
    ap (λ (x : Endpoint). option_map (λ (n : Frame × List ℕ). delivery_of (frame_kind n.0.kind) n.0 x) (next_frame x)) h.same
    ∙ ap (λ (o : Option (Frame × List ℕ)). option_map (λ (n : Frame × List ℕ). delivery_of (frame_kind n.0.kind) n.0 (with_said e.base e.said s)) o) (cond-true (is_linked s.phase) _ _ up ∙ is)
    ∙ ap (λ (d : Delivery). Some d) (same_delivery (frame_kind f.kind))
  where
    same_delivery : (kind : FrameKind) → delivery_of kind f (with_said e.base e.said s) ≡ delivery_of kind f (with_said 0 [] s)
    same_delivery Regular = refl
    same_delivery Control = refl
    same_delivery Disconnect = refl
    same_delivery ReplayRequest = refl
    same_delivery Pause = refl
    same_delivery Resume = refl
    same_delivery Other = refl

-- ticks

abbrev pub state_writes_ack : ℕ → EndpointState → Bool
state_writes_ack m s = acks (ltb s.told s.received) m s.timing

abbrev pub state_writes_keep_alive : ℕ → EndpointState → Bool
state_writes_keep_alive m s = is_due s.timing.keep_alive m

abbrev pub state_ticked : ℕ → EndpointState → EndpointState
state_ticked m s = record s {
  told = cond (state_writes_ack m s) s.received (cond (state_writes_keep_alive m s) s.received s.told);
  unwritten = s.unwritten ++ joined (when (state_writes_ack m s) (ack_frame s.received) ++ when (state_writes_keep_alive m s) (keep_alive_frame s.received));
  timing = keep_alive_served m (timeout_served (state_waits s) (first_written s.queue) m (acknowledge_served (ltb s.told s.received) m s.timing));
}

ticked_stands : (m : ℕ) (s : EndpointState) (e : Endpoint) → StandsFor s e → StandsFor (state_ticked m s) (ticked m e)
unfolding owed
ticked_stands m s = by_said s (state_ticked m s) (ticked m) (λ base ms h.
    let e : Endpoint = with_said base ms s in
    let made : ℕ → List Entry → Endpoint = λ n es. record e {
      told = cond (state_writes_ack m s) s.received (cond (state_writes_keep_alive m s) s.received s.told);
      unwritten = s.unwritten ++ joined (when (state_writes_ack m s) (ack_frame s.received) ++ when (state_writes_keep_alive m s) (keep_alive_frame s.received));
      timing = keep_alive_served m (timeout_served (is_up s.phase && ltb s.acknowledged n) (first_written es) m (acknowledge_served (ltb s.told s.received) m s.timing));
    } in
    record {
      same = ap (λ (n : ℕ). made n (owed e)) (sym h.sent) ∙ ap (λ (es : List Entry). made s.sent es) (sym h.queue);
      sent = h.sent;
      queue = h.queue;
    })

pub tick_stands : (now : ℕ) (s : EndpointState) → is_up s.phase ≡ true → (e : Endpoint) → StandsFor s e → (let m : ℕ = max now s.timing.latest in StandsFor (state_ticked m (state_dated m s)) (tick now e))
unfolding tick
tick_stands now s up = by_said s _ (tick now) (λ base ms h.
    let m : ℕ = max now s.timing.latest in
    let x : Endpoint = with_said base ms s in
    applies _ _ _ _ up (ticked_stands m (state_dated m s) (dated m x) (dated_stands m s x h)))

pub tick_down_stands : (now : ℕ) (s : EndpointState) → is_up s.phase ≡ false → (e : Endpoint) → StandsFor s e → StandsFor s (tick now e)
unfolding tick
tick_down_stands now s down = by_said s s (tick now) (λ base ms h. fails _ _ _ _ down h)

-- whether it is a timeout
pub times_out_is : (now : ℕ) (s : EndpointState) (e : Endpoint) → StandsFor s e → times_out now e ≡ (is_up s.phase && fires (state_waits s) (first_written s.queue) (max now s.timing.latest) s.timing)
unfolding times_out owed
times_out_is now s e h =
    let timeout : ℕ → List Entry → Bool = λ n es. is_up s.phase && fires (is_up s.phase && ltb s.acknowledged n) (first_written es) (max now s.timing.latest) s.timing in
    ap (λ (x : Endpoint). is_up x.phase && fires (is_up x.phase && ltb x.acknowledged (sent x)) (first_written (owed x)) (max now x.timing.latest) x.timing) h.same
    ∙ ap (λ (n : ℕ). timeout n (owed (with_said e.base e.said s))) (sym h.sent)
    ∙ ap (λ (es : List Entry). timeout s.sent es) (sym (h.queue ∙ ap owed h.same))
