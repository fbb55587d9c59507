-- What the calls of a peer in memory stand for.
use Rattle.std.proofs.Common.{◌≡◌, ℕ, Bool, Option, Some, None, true, not, ◌+◌, [], ◌∷◌, ◌++◌, Result, Ok, Err, OnOk, List, refl, ap, sym, ◌∙◌, subst, cond, ◌&&◌, leb, length, eqb}
use Rattle.std.specs.Prelude.{◌≢◌, option_map}
use Rattle.std.proofs.lemmas.Bool.{cond_both, false≢true}
use Rattle.std.proofs.lemmas.List.{map-append}
use Rattle.ra_base.specs.declared.event.Side.{Side}
use Rattle.ra_base.specs.declared.event.Event.{Event}
use Rattle.ra_base.specs.declared.event.Event.TheVariants.{Link as LinkMade, At, Begin, Finish, Say, Control, Pause, Resume, Leave, Write, Read, Take, Tick, Lose, Cut}
use Rattle.ra_world.specs.EndEvents.{end_refusal, end_happens, end_effect}
use Rattle.ra_model.specs.declared.frame.Frame.{Frame}
use Rattle.ra_model.specs.declared.effect.Effect.TheVariants.{Done, Said, Ticked}
use Rattle.ra_model.specs.declared.fault.EndFault.{EndFault}
use Rattle.ra_model.specs.declared.fault.EndFault.TheVariants.{Ended, Stale, NoLink, NotJoining, TooLarge, IdsSpent, TooLong, NoMemory}
use Rattle.ra_model.specs.declared.fault.EventFault.TheVariants.{NoMemory as WantOfMemory}
use Rattle.ra_model.specs.EndpointStates.{EndpointState, StandsFor, with_said}
use Rattle.ra_model.specs.Endpoints.{Endpoint, SaidMessage, is_linked, is_up, is_joining, is_ended, shown, sent, owed}
use Rattle.ra_model.specs.Frames.{body_limit}
use Rattle.ra_model.specs.Views.{called}
use Rattle.ra_model.specs.Calls.{rewritten, say, said_now, dated, moment, can_say, finish, control, ask_pause, ask_resume, tick, times_out, lose, leave, wrote}
use Rattle.ra_model.specs.Refusals.{at_end, say_refusal, say_fault, take_refusal, take_fault}
use Rattle.ra_model.specs.declared.session.Up.{Up as Delivery}
use Rattle.ra_model.specs.declared.session.Up.TheVariants.{Message, Control as ControlBody, Quiet, Ended as Over}
use Rattle.ra_model.specs.Taking.{take_frame, delivery, delivery_of, took, next_frame, passed}
use Rattle.ra_model.specs.FrameKinds.{frame_kind}
use Rattle.ra_model.specs.Events.{taken, handed_up, heard_with}
use Rattle.ra_model.proofs.Takes.{messages_came}
use Rattle.ra_model.proofs.Calls.{messages_rewritten}
use Rattle.ra_model.proofs.Runs.{says_free}
use Rattle.ra_model.specs.Worlds.{Peer}
use Rattle.ra_model.specs.Pairs.{messages, body_of}
use Rattle.ra_proto.specs.Coming.{is_no_message}
use Rattle.ra_proto.specs.Refused.{RefusedBy as EndRefusedBy}
use Rattle.ra_world.specs.Outcomes.{Answers, event_fault, done_of}
use Rattle.ra_world.specs.WorldStates.{PeerState, StandsForPeer}

-- the fault of an end is that of the event
pub fault_refused : (fault : EndFault) (cause : Option EndFault) → (fault ≢ NoMemory → cause ≡ Some fault) → event_fault fault ≢ WantOfMemory → at_end cause ≡ Some (event_fault fault)
fault_refused Ended cause refused told = ap at_end (refused (λ is. cc))
fault_refused (Stale current) cause refused told = ap at_end (refused (λ is. cc))
fault_refused NoLink cause refused told = ap at_end (refused (λ is. cc))
fault_refused NotJoining cause refused told = ap at_end (refused (λ is. cc))
fault_refused (TooLarge len) cause refused told = ap at_end (refused (λ is. cc))
fault_refused IdsSpent cause refused told = ap at_end (refused (λ is. cc))
fault_refused (TooLong stated) cause refused told = ap at_end (refused (λ is. cc))
fault_refused NoMemory cause refused told = absurd (told refl)

pub done_answers : {X : Type 0} (r : Result X EndFault) (cause : Option EndFault) (T U : Type 0) → EndRefusedBy r cause → OnOk r T → (T → U) → Answers (done_of r) (at_end cause) Done U
done_answers (Ok value) cause T U free stands then = (ap at_end free, refl, then stands)
done_answers (Err fault) cause T U refused stands then = fault_refused fault cause refused

-- a call that says nothing
pub called_stands : (s : PeerState) (t : EndpointState) (call : Endpoint → Endpoint) (p : Peer) (applied : List Frame) → messages (call p.endpoint) ≡ messages p.endpoint → ((e : Endpoint) → StandsFor s.endpoint e → StandsFor t (call e)) → StandsForPeer s p
    → StandsForPeer (record { endpoint = t; said = s.said; heard = s.heard }) (record { endpoint = call p.endpoint; heard = p.heard; applied = applied })
called_stands s t call p applied silent stands h = record { endpoint = stands p.endpoint h.endpoint; said = h.said ∙ sym silent; heard = h.heard }

pub call_answers : {X : Type 0} (s : PeerState) (t : EndpointState) (call : Endpoint → Endpoint) (refusal : Endpoint → Option EndFault) (cause : Option EndFault) (r : Result X EndFault)
    → ((e : Endpoint) → messages (call e) ≡ messages e) → ((base : ℕ) (said : List SaidMessage) → cause ≡ refusal (with_said base said s.endpoint))
    → EndRefusedBy r cause → OnOk r ((e : Endpoint) → StandsFor s.endpoint e → StandsFor t (call e)) → (p : Peer) (applied : List Frame) → StandsForPeer s p
    → Answers (done_of r) (at_end (refusal p.endpoint)) Done (StandsForPeer (record { endpoint = t; said = s.said; heard = s.heard }) (record { endpoint = call p.endpoint; heard = p.heard; applied = applied }))
call_answers s t call refusal cause r silent same refused stands p applied h =
    let is : cause ≡ refusal p.endpoint = same p.endpoint.base p.endpoint.said ∙ sym (ap refusal h.endpoint.same) in
    done_answers r (refusal p.endpoint) ((e : Endpoint) → StandsFor s.endpoint e → StandsFor t (call e)) _
    (subst (λ (c : Option EndFault). EndRefusedBy r c) is refused) stands (λ stands. called_stands s t call p applied (silent p.endpoint) stands h)

-- calls that say nothing
module _ (e : Endpoint) where
  pub silent_control : (body : List ℕ) → messages (control body e) ≡ messages e
  unfolding control
  silent_control body = cond_both (is_linked e.phase && leb (length body) body_limit) _ _ (λ (x : Endpoint). messages x ≡ messages e) (λ _. refl) (λ _. refl)

  pub silent_pause : messages (ask_pause e) ≡ messages e
  unfolding ask_pause
  silent_pause = cond_both (is_linked e.phase) _ _ (λ (x : Endpoint). messages x ≡ messages e) (λ _. refl) (λ _. refl)

  pub silent_resume : messages (ask_resume e) ≡ messages e
  unfolding ask_resume
  silent_resume = cond_both (is_linked e.phase) _ _ (λ (x : Endpoint). messages x ≡ messages e) (λ _. refl) (λ _. refl)

  pub silent_tick : (now : ℕ) → messages (tick now e) ≡ messages e
  unfolding tick
  silent_tick now = cond_both (is_up e.phase) _ _ (λ (x : Endpoint). messages x ≡ messages e) (λ _. refl) (λ _. refl)

  pub silent_lose : (epoch : ℕ) → messages (lose epoch e) ≡ messages e
  unfolding lose
  silent_lose epoch = cond_both (is_linked e.phase && eqb epoch e.epoch) _ _ (λ (x : Endpoint). messages x ≡ messages e) (λ _. refl) (λ _. refl)

  pub silent_wrote : (n : ℕ) → messages (wrote n e) ≡ messages e
  unfolding wrote
  silent_wrote n = cond_both (leb n (length (shown e))) _ _ (λ (x : Endpoint). messages x ≡ messages e) (λ _. refl) (λ _. refl)

  pub silent_leave : messages (leave e) ≡ messages e
  unfolding leave
  silent_leave = cond_both (not (is_ended e.phase)) _ _ (λ (x : Endpoint). messages x ≡ messages e) (λ _. refl) (λ _. refl)

  pub silent_finish : (now : ℕ) → messages (finish now e) ≡ messages e
  unfolding finish owed rewritten
  silent_finish now = cond_both (is_joining e.phase) _ _ (λ (x : Endpoint). messages x ≡ messages e) (λ _. messages_rewritten (moment now e) e) (λ _. refl)

  took_silent : (next : Option (Frame × List ℕ)) (now : ℕ) → messages (took next now e) ≡ messages e
  took_silent None now = refl
  took_silent (Some next) now = messages_came (frame_kind next.0.kind) next.0 now (passed next.0 next.1 now e)

  pub silent_take : (now : ℕ) → messages (take_frame now e) ≡ messages e
  unfolding take_frame
  silent_take now = took_silent (next_frame e) (moment now e)

-- what a say adds to the messages
messages_said : (body : List ℕ) (now : ℕ) (e : Endpoint) → can_say body e ≡ true → messages (say body now e) ≡ messages e ++ body ∷ []
unfolding say
messages_said body now e can =
    subst (λ (b : Bool). messages (cond b (said_now body (moment now e) (dated (moment now e) e)) e) ≡ messages e ++ body ∷ []) (sym can)
    (map-append body_of e.said (record { body = body; ack = e.received; written = cond (is_up e.phase) (Some (moment now e)) None } ∷ []))

pub say_answers : (s : PeerState) (t : EndpointState) (given kept body : List ℕ) (said : List (List ℕ)) (now id : ℕ) → given ≡ body → kept ≡ body → said ≡ s.said ++ kept ∷ [] → say_fault s.endpoint.phase s.endpoint.sent (length given) ≡ None → id ≡ s.endpoint.sent + 1
    → ((e : Endpoint) → StandsFor s.endpoint e → StandsFor t (say given now e)) → (p : Peer) → StandsForPeer s p
    → (at_end (say_refusal body p.endpoint) ≡ None) × (Said id ≡ Said (sent p.endpoint + 1)) × StandsForPeer (record { endpoint = t; said = said; heard = s.heard }) (called (say body now) p)
say_answers s t given kept body said now id same copied more free is stands p h =
    let free' : say_refusal body p.endpoint ≡ None =
    ap (say_refusal body) h.endpoint.same ∙ ap (λ (n : ℕ). say_fault s.endpoint.phase n (length body)) (sym h.endpoint.sent) ∙ ap (λ (b : List ℕ). say_fault s.endpoint.phase s.endpoint.sent (length b)) (sym same) ∙ free in (
      ap at_end free',
      ap Said (is ∙ ap (λ (n : ℕ). n + 1) h.endpoint.sent),
      record {
        endpoint = subst (λ (b : List ℕ). StandsFor t (say b now p.endpoint)) same (stands p.endpoint h.endpoint);
        said = more ∙ ap (λ (b : List ℕ). s.said ++ b ∷ []) copied ∙ ap (λ (ms : List (List ℕ)). ms ++ body ∷ []) h.said ∙ sym (messages_said body now p.endpoint (says_free body p.endpoint free'));
        heard = h.heard;
      },
    )

pub take_answers : (s : PeerState) (x t : EndpointState) (up : Option Delivery) (heard : List (List ℕ)) (now : ℕ) → x ≡ s.endpoint → heard ≡ heard_with up s.heard → take_fault x.phase x.unread ≡ None
    → ((e : Endpoint) → StandsFor x e → StandsFor t (take_frame now e)) → ((e : Endpoint) → StandsFor x e → up ≡ delivery e) → (p : Peer) → StandsForPeer s p
    → (at_end (take_refusal p.endpoint) ≡ None) × (handed_up up ≡ handed_up (delivery p.endpoint)) × StandsForPeer (record { endpoint = t; said = s.said; heard = heard }) (taken now p)
take_answers s x t up heard now same more free stands handed p h =
    let there : StandsFor x p.endpoint = subst (λ (y : EndpointState). StandsFor y p.endpoint) (sym same) h.endpoint in
    let gives : up ≡ delivery p.endpoint = handed p.endpoint there in (
      ap at_end (ap take_refusal there.same ∙ free),
      ap handed_up gives,
      record {
        endpoint = stands p.endpoint there;
        said = h.said ∙ sym (silent_take p.endpoint now);
        heard = more ∙ ap (λ (ms : List (List ℕ)). heard_with up ms) h.heard ∙ ap (λ (d : Option Delivery). heard_with d p.heard) gives;
      },
    )

-- nothing comes
none_stays : (now : ℕ) (e : Endpoint) → delivery e ≡ None → take_frame now e ≡ e
unfolding take_frame delivery
none_stays now e is = none_took now e (next_frame e) is
  where
    none_took : (now : ℕ) (e : Endpoint) (next : Option (Frame × List ℕ)) → option_map (λ (n : Frame × List ℕ). delivery_of (frame_kind n.0.kind) n.0 e) next ≡ None
        → took next (moment now e) e ≡ e
    none_took now e None is = refl
    none_took now e (Some next) is = absurd cc

pub none_answers : (s : PeerState) (now : ℕ) → take_fault s.endpoint.phase s.endpoint.unread ≡ None → ((e : Endpoint) → StandsFor s.endpoint e → delivery e ≡ None) → (p : Peer) → StandsForPeer s p
    → (at_end (take_refusal p.endpoint) ≡ None) × (handed_up None ≡ handed_up (delivery p.endpoint)) × StandsForPeer s (taken now p)
none_answers s now free none =
    take_answers s s.endpoint s.endpoint None s.heard now refl refl free
    (λ e stands. subst (λ (x : Endpoint). StandsFor s.endpoint x) (sym (none_stays now e (none e stands))) stands) (λ e stands. sym (none e stands))

-- what comes is no message
no_message_heard : (up : Option Delivery) (heard : List (List ℕ)) → is_no_message up ≡ true → heard ≡ heard_with up heard
no_message_heard None heard is = refl
no_message_heard (Some (Message id body)) heard is = absurd (false≢true is)
no_message_heard (Some (ControlBody body)) heard is = refl
no_message_heard (Some Quiet) heard is = refl
no_message_heard (Some Over) heard is = refl

pub other_answers : (s : PeerState) (t : EndpointState) (up : Option Delivery) (now : ℕ) → take_fault s.endpoint.phase s.endpoint.unread ≡ None
    → ((e : Endpoint) → StandsFor s.endpoint e → StandsFor t (take_frame now e)) → ((e : Endpoint) → StandsFor s.endpoint e → up ≡ delivery e)
    → ((e : Endpoint) → StandsFor s.endpoint e → is_no_message (delivery e) ≡ true) → (p : Peer) → StandsForPeer s p
    → (at_end (take_refusal p.endpoint) ≡ None) × (handed_up up ≡ handed_up (delivery p.endpoint)) × StandsForPeer (record { endpoint = t; said = s.said; heard = s.heard }) (taken now p)
other_answers s t up now free stands handed other p h =
    let quiet : is_no_message up ≡ true = ap is_no_message (handed p.endpoint h.endpoint) ∙ other p.endpoint h.endpoint in
    take_answers s s.endpoint t up s.heard now refl (no_message_heard up s.heard quiet) free stands handed p h

pub lose_stands : (s : PeerState) (t : EndpointState) (present : ℕ) → present ≡ s.endpoint.epoch → ((e : Endpoint) → StandsFor s.endpoint e → StandsFor t (lose present e)) → (p : Peer) → StandsForPeer s p
    → StandsForPeer (record { endpoint = t; said = s.said; heard = s.heard }) (called (lose p.endpoint.epoch) p)
lose_stands s t present is stands p h =
    let same : present ≡ p.endpoint.epoch = is ∙ sym (ap (λ (e : Endpoint). e.epoch) h.endpoint.same) in
    subst (λ (n : ℕ). StandsForPeer (record { endpoint = t; said = s.said; heard = s.heard }) (called (lose n) p)) same
    (called_stands s t (lose present) p p.applied (silent_lose p.endpoint present) stands h)

pub tick_answers : (s : PeerState) (t : EndpointState) (now : ℕ) (timed_out : Bool) → ((e : Endpoint) → StandsFor s.endpoint e → StandsFor t (tick now e)) → ((e : Endpoint) → StandsFor s.endpoint e → timed_out ≡ times_out now e) → (p : Peer) → StandsForPeer s p
    → (Ticked timed_out ≡ Ticked (times_out now p.endpoint)) × StandsForPeer (record { endpoint = t; said = s.said; heard = s.heard }) (called (tick now) p)
tick_answers s t now timed_out stands told p h = (ap Ticked (told p.endpoint h.endpoint), called_stands s t (tick now) p p.applied (silent_tick p.endpoint now) stands h)

-- events that are not of one end alone
pub elsewhere : (event : Event) → ((s : Side) → event ≡ Finish s → ⊥) → ((s : Side) (body : List ℕ) → event ≡ Say s body → ⊥) → ((s : Side) (body : List ℕ) → event ≡ Control s body → ⊥) → ((s : Side) → event ≡ Pause s → ⊥) → ((s : Side) → event ≡ Resume s → ⊥)
    → ((s : Side) → event ≡ Leave s → ⊥) → ((s : Side) → event ≡ Take s → ⊥) → ((s : Side) → event ≡ Tick s → ⊥) → ((s : Side) → event ≡ Lose s → ⊥) → (now : ℕ) (s : PeerState) (p : Peer) → StandsForPeer s p
    → (end_refusal event p ≡ None) × (Done ≡ end_effect event now p) × StandsForPeer s (end_happens event now p)
unfolding end_refusal end_happens end_effect
elsewhere LinkMade a b c d e f g h i now s p t = (refl, refl, t)
elsewhere (At moment) a b c d e f g h i now s p t = (refl, refl, t)
elsewhere (Begin side link count) a b c d e f g h i now s p t = (refl, refl, t)
elsewhere (Finish side) a b c d e f g h i now s p t = absurd (a side refl)
elsewhere (Say side body) a b c d e f g h i now s p t = absurd (b side body refl)
elsewhere (Control side body) a b c d e f g h i now s p t = absurd (c side body refl)
elsewhere (Pause side) a b c d e f g h i now s p t = absurd (d side refl)
elsewhere (Resume side) a b c d e f g h i now s p t = absurd (e side refl)
elsewhere (Leave side) a b c d e f g h i now s p t = absurd (f side refl)
elsewhere (Write side count) a b c d e f g h i now s p t = (refl, refl, t)
elsewhere (Read side link count) a b c d e f g h i now s p t = (refl, refl, t)
elsewhere (Take side) a b c d e f g h i now s p t = absurd (g side refl)
elsewhere (Tick side) a b c d e f g h i now s p t = absurd (h side refl)
elsewhere (Lose side) a b c d e f g h i now s p t = absurd (i side refl)
elsewhere (Cut link) a b c d e f g h i now s p t = (refl, refl, t)
