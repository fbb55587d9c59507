-- Each event is at most one step of the conversation.
use Rattle.std.proofs.Common.{◌≡◌, ℕ, ◌≤◌, cond, not, ◌&&◌, eqb, leb, Option, Some, None, List, [], ◌∷◌, ◌++◌, length, take, refl, ap, sym, ◌∙◌, subst, append_assoc}
use Rattle.std.specs.Prelude.{slice_get}
use Rattle.std.proofs.lemmas.Bool.{cond_both, false≢true}
use Rattle.std.proofs.lemmas.List.{map-append}
use Rattle.ra_model.specs.Frames.{body_limit, last_id}
use Rattle.ra_model.specs.FrameKinds.{frame_kind}
use Rattle.ra_model.specs.declared.frame.Frame.{Frame}
use Rattle.ra_model.specs.Endpoints.{Endpoint, is_up, is_linked, is_joining, is_ended, owed, shown}
use Rattle.ra_model.specs.Calls.{rewritten, moment, can_say, say, control, ask_pause, ask_resume, finish, feed, tick, lose, leave, wrote}
use Rattle.ra_model.specs.Taking.{take_frame, delivery, next_frame, took, passed}
use Rattle.ra_model.specs.declared.session.Up.{Up as Delivery}
use Rattle.ra_model.specs.declared.session.Up.TheVariants.{Message, Control as ControlBody, Quiet, Ended as Closed}
use Rattle.ra_model.specs.declared.fault.EventFault.{EventFault as Fault}
use Rattle.ra_model.specs.Links.{Link, other, at_number, put_number, amount, readable, read_on}
use Rattle.ra_model.specs.Worlds.{Peer, World, new_world, with_endpoint, peer, with_peer, with_links}
use Rattle.ra_model.specs.Events.{begun, on_endpoint, begins, reads, writes, links_written, heard_with, taken, cuts, happens, unless, after, run}
use Rattle.ra_model.specs.Refusals.{refusal, say_refusal}
use Rattle.ra_base.specs.declared.event.Side.{Side}
use Rattle.ra_base.specs.declared.event.Side.TheVariants.{A, B}
use Rattle.ra_base.specs.declared.event.Count.{Count}
use Rattle.ra_base.specs.declared.event.Event.{Event}
use Rattle.ra_base.specs.declared.event.Event.TheVariants.{Link as LinkMade, At, Begin, Finish, Say, Control, Pause, Resume, Leave, Write, Read, Take, Tick, Lose, Cut}
use Rattle.ra_model.specs.Pairs.{body_of, messages, IsPrefixOf}
use Rattle.ra_model.specs.Conversations.{Conversation, Step, conversation_after, conversation_of, conversed, new_conversation, steps_of_delivery, steps_of, unless_steps, run_steps, with_next}
use Rattle.ra_model.specs.Conversations.Step.{Says, Hears}
use Rattle.ra_model.proofs.Calls.{messages_rewritten}
use Rattle.ra_model.proofs.Takes.{messages_came}
use Rattle.ra_model.proofs.LinkMoves.{messages_begun, messages_fed}
use Rattle.ra_model.proofs.Sound.{Sound, from}
use Rattle.ra_model.proofs.Runs.{called_over, sound_after, sound_new, end_none, says_free}
use Rattle.ra_model.proofs.Takes.{view_take}

-- from one world to another by these steps
abbrev MovesBy : List Step → World → World → Type 0
MovesBy steps w v = conversed steps (conversation_of w) ≡ conversation_of v

-- one peer is changed, and nothing was said or heard
silent : (s : Side) (w : World) (p : Peer) (links : List Link) → messages p.endpoint ≡ messages (peer s w).endpoint → p.heard ≡ (peer s w).heard → MovesBy [] w (with_peer s p (with_links links w))
silent A w p links said heard = λ i. record { said_a = sym said i; heard_a = sym heard i; said_b = messages w.b.endpoint; heard_b = w.b.heard }
silent B w p links said heard = λ i. record { said_a = messages w.a.endpoint; heard_a = w.a.heard; said_b = sym said i; heard_b = sym heard i }

-- one more message was said
says : (s : Side) (w : World) (p : Peer) (links : List Link) (m : List ℕ) → messages p.endpoint ≡ messages (peer s w).endpoint ++ m ∷ [] → p.heard ≡ (peer s w).heard → MovesBy (Says s m ∷ []) w (with_peer s p (with_links links w))
says A w p links m said heard = λ i. record { said_a = sym said i; heard_a = sym heard i; said_b = messages w.b.endpoint; heard_b = w.b.heard }
says B w p links m said heard = λ i. record { said_a = messages w.a.endpoint; heard_a = w.a.heard; said_b = sym said i; heard_b = sym heard i }

-- the next message was heard
next_heard : (said heard : List (List ℕ)) (m : List ℕ) → slice_get said (length heard) ≡ Some m → heard ++ m ∷ [] ≡ with_next (slice_get said (length heard)) heard
next_heard said heard m is = ap (λ (o : Option (List ℕ)). with_next o heard) (sym is)

hears : (s : Side) (w : World) (p : Peer) (links : List Link) (m : List ℕ) → messages p.endpoint ≡ messages (peer s w).endpoint → p.heard ≡ (peer s w).heard ++ m ∷ []
    → slice_get (messages (peer (other s) w).endpoint) (length (peer s w).heard) ≡ Some m → MovesBy (Hears s ∷ []) w (with_peer s p (with_links links w))
hears A w p links m said heard next =
    λ i. record { said_a = sym said i; heard_a = sym (heard ∙ next_heard (messages w.b.endpoint) w.a.heard m next) i; said_b = messages w.b.endpoint; heard_b = w.b.heard }
hears B w p links m said heard next =
    λ i. record { said_a = messages w.a.endpoint; heard_a = w.a.heard; said_b = sym said i; heard_b = sym (heard ∙ next_heard (messages w.a.endpoint) w.b.heard m next) i }

at_front : (heard rest said : List (List ℕ)) (m : List ℕ) → (heard ++ m ∷ []) ++ rest ≡ said → slice_get said (length heard) ≡ Some m
at_front heard rest said m is = subst (λ (t : List (List ℕ)). slice_get t (length heard) ≡ Some m) (sym (append_assoc heard (m ∷ []) rest) ∙ is) (there heard)
  where
    there : (xs : List (List ℕ)) → slice_get (xs ++ m ∷ rest) (length xs) ≡ Some m
    there [] = refl
    there (x ∷ xs) = there xs

-- what was said by calls that say nothing
messages_control : (body : List ℕ) (e : Endpoint) → messages (control body e) ≡ messages e
unfolding control
messages_control body e = cond_both (is_linked e.phase && leb (length body) body_limit) _ _ (λ (x : Endpoint). messages x ≡ messages e) (λ yes. refl) (λ no. refl)

messages_pause : (e : Endpoint) → messages (ask_pause e) ≡ messages e
unfolding ask_pause
messages_pause e = cond_both (is_linked e.phase) _ _ (λ (x : Endpoint). messages x ≡ messages e) (λ yes. refl) (λ no. refl)

messages_resume : (e : Endpoint) → messages (ask_resume e) ≡ messages e
unfolding ask_resume
messages_resume e = cond_both (is_linked e.phase) _ _ (λ (x : Endpoint). messages x ≡ messages e) (λ yes. refl) (λ no. refl)

messages_tick : (now : ℕ) (e : Endpoint) → messages (tick now e) ≡ messages e
unfolding tick
messages_tick now e = cond_both (is_up e.phase) _ _ (λ (x : Endpoint). messages x ≡ messages e) (λ yes. refl) (λ no. refl)

messages_wrote : (n : ℕ) (e : Endpoint) → messages (wrote n e) ≡ messages e
unfolding wrote
messages_wrote n e = cond_both (leb n (length (shown e))) _ _ (λ (x : Endpoint). messages x ≡ messages e) (λ yes. refl) (λ no. refl)

messages_lose : (epoch : ℕ) (e : Endpoint) → messages (lose epoch e) ≡ messages e
unfolding lose
messages_lose epoch e = cond_both (is_linked e.phase && eqb epoch e.epoch) _ _ (λ (x : Endpoint). messages x ≡ messages e) (λ yes. refl) (λ no. refl)

messages_leave : (e : Endpoint) → messages (leave e) ≡ messages e
unfolding leave
messages_leave e = cond_both (not (is_ended e.phase)) _ _ (λ (x : Endpoint). messages x ≡ messages e) (λ yes. refl) (λ no. refl)

messages_finish : (now : ℕ) (e : Endpoint) → messages (finish now e) ≡ messages e
unfolding finish rewritten owed
messages_finish now e = cond_both (is_joining e.phase) _ _ (λ (x : Endpoint). messages x ≡ messages e) (λ yes. messages_rewritten (moment now e) e) (λ no. refl)

messages_say : (body : List ℕ) (now : ℕ) (e : Endpoint) → say_refusal body e ≡ None → messages (say body now e) ≡ messages e ++ body ∷ []
unfolding say
messages_say body now e free =
    cond_both (can_say body e) _ _ (λ (x : Endpoint). messages x ≡ messages e ++ body ∷ [])
    (λ yes. map-append body_of e.said (record { body = body; ack = e.received; written = cond (is_up e.phase) (Some (moment now e)) None } ∷ []))
    (λ no. absurd (false≢true (sym no ∙ says_free body e free)))

messages_took : (next : Option (Frame × List ℕ)) (now : ℕ) (e : Endpoint) → messages (took next now e) ≡ messages e
messages_took None now e = refl
messages_took (Some next) now e = messages_came (frame_kind next.0.kind) next.0 now (passed next.0 next.1 now e)

messages_take : (now : ℕ) (e : Endpoint) → messages (take_frame now e) ≡ messages e
unfolding take_frame
messages_take now e = messages_took (next_frame e) (moment now e) e

-- what was handed up is the next message, or none
step_taken : (s : Side) (w : World) (p : Peer) (up : Option Delivery) → messages p.endpoint ≡ messages (peer s w).endpoint → p.heard ≡ heard_with up (peer s w).heard → IsPrefixOf p.heard (messages (peer (other s) w).endpoint)
    → MovesBy (steps_of_delivery s up) w (with_peer s p (with_links w.links w))
step_taken s w p None said heard prefix = silent s w p w.links said heard
step_taken s w p (Some (Message id body)) said heard prefix =
    hears s w p w.links body said heard (at_front (peer s w).heard prefix.0 _ body (ap (λ (t : List (List ℕ)). t ++ prefix.0) (sym heard) ∙ prefix.1))
step_taken s w p (Some (ControlBody body)) said heard prefix = silent s w p w.links said heard
step_taken s w p (Some Quiet) said heard prefix = silent s w p w.links said heard
step_taken s w p (Some Closed) said heard prefix = silent s w p w.links said heard

step_call : (s : Side) (w : World) (call : Endpoint → Endpoint) → messages (call (peer s w).endpoint) ≡ messages (peer s w).endpoint → MovesBy [] w (on_endpoint s call w)
step_call s w call same = silent s w (with_endpoint (call (peer s w).endpoint) (peer s w)) w.links same refl

step_begins : (s : Side) (link : ℕ) (count : Count) (found : Option Link) (w : World) → MovesBy [] w (begins s link count found w)
step_begins s link count None w = refl
step_begins s link count (Some l) w =
    let n : ℕ = amount count (length (readable s l)) in
    silent s w (begun link (take n (readable s l)) w.now (peer s w)) (put_number w.links link (read_on s n l)) (messages_begun link (take n (readable s l)) w.now (peer s w).endpoint) refl

step_reads : (s : Side) (link : ℕ) (count : Count) (found : Option Link) (w : World) → MovesBy [] w (reads s link count found w)
step_reads s link count None w = refl
step_reads s link count (Some l) w =
    let n : ℕ = amount count (length (readable s l)) in
    let call : Endpoint → Endpoint = feed link (take n (readable s l)) w.now in
    let links : List Link = put_number w.links link (read_on s n l) in
    subst (λ (x : World). MovesBy [] w x) (sym (called_over s w call links))
    (silent s w (with_endpoint (call (peer s w).endpoint) (peer s w)) links (messages_fed link (take n (readable s l)) w.now (peer s w).endpoint) refl)

step_writes : (s : Side) (n : ℕ) (w : World) → MovesBy [] w (writes s n w)
step_writes s n w =
    let e : Endpoint = (peer s w).endpoint in
    let links : List Link = links_written s (take n (shown e)) e.epoch (at_number w.links e.epoch) w.links in
    subst (λ (x : World). MovesBy [] w x) (sym (called_over s w (wrote n) links)) (silent s w (with_endpoint (wrote n e) (peer s w)) links (messages_wrote n e) refl)

step_cuts : (link : ℕ) (found : Option Link) (w : World) → MovesBy [] w (cuts link found w)
step_cuts link None w = refl
step_cuts link (Some l) w = refl

step_say : (s : Side) (body : List ℕ) (w : World) → say_refusal body (peer s w).endpoint ≡ None → MovesBy (Says s body ∷ []) w (on_endpoint s (say body w.now) w)
step_say s body w free = says s w (with_endpoint (say body w.now (peer s w).endpoint) (peer s w)) w.links body (messages_say body w.now (peer s w).endpoint free) refl

step_take : (s : Side) (w : World) → IsPrefixOf (taken w.now (peer s w)).heard (messages (peer (other s) w).endpoint) → MovesBy (steps_of w (Take s)) w (with_peer s (taken w.now (peer s w)) w)
step_take s w prefix = step_taken s w (taken w.now (peer s w)) (delivery (peer s w).endpoint) (messages_take w.now (peer s w).endpoint) refl prefix

step_happens : (start : ℕ) (event : Event) (w : World) → Sound start w → refusal w event ≡ None → MovesBy (steps_of w event) w (happens event w)
unfolding happens refusal
step_happens start LinkMade w h free = refl
step_happens start (At now) w h free = refl
step_happens start (Begin s link count) w h free = step_begins s link count (at_number w.links link) w
step_happens start (Finish s) w h free = step_call s w (finish w.now) (messages_finish w.now (peer s w).endpoint)
step_happens start (Say s body) w h free = step_say s body w (end_none _ free)
step_happens start (Control s body) w h free = step_call s w (control body) (messages_control body (peer s w).endpoint)
step_happens start (Pause s) w h free = step_call s w ask_pause (messages_pause (peer s w).endpoint)
step_happens start (Resume s) w h free = step_call s w ask_resume (messages_resume (peer s w).endpoint)
step_happens start (Leave s) w h free = step_call s w leave (messages_leave (peer s w).endpoint)
step_happens start (Write s count) w h free = step_writes s (amount count (length (shown (peer s w).endpoint))) w
step_happens start (Read s link count) w h free = step_reads s link count (at_number w.links link) w
step_happens start (Take s) w h free = step_take s w (view_take start s (peer s w).endpoint.epoch (peer (other s) w).endpoint.epoch (peer s w) (peer (other s) w) w.links w.now (from start s w h)).back.prefix
step_happens start (Tick s) w h free = step_call s w (tick w.now) (messages_tick w.now (peer s w).endpoint)
step_happens start (Lose s) w h free = step_call s w (lose (peer s w).endpoint.epoch) (messages_lose (peer s w).endpoint.epoch (peer s w).endpoint)
step_happens start (Cut link) w h free = step_cuts link (at_number w.links link) w

step_unless : (start : ℕ) (fault : Option Fault) (event : Event) (w : World) → Sound start w → refusal w event ≡ fault → MovesBy (unless_steps fault (steps_of w event)) w (unless fault (happens event w) w)
step_unless start None event w h is = step_happens start event w h is
step_unless start (Some fault) event w h is = refl

conversed_append : (xs ys : List Step) (c : Conversation) → conversed (xs ++ ys) c ≡ conversed ys (conversed xs c)
conversed_append [] ys c = refl
conversed_append (x ∷ xs) ys c = conversed_append xs ys (conversation_after x c)

steps_run : (start : ℕ) (events : List Event) (w : World) → Sound start w → MovesBy (run_steps events w) w (run events w)
steps_run start [] w h = refl
steps_run start (event ∷ events) w h =
    let first : List Step = unless_steps (refusal w event) (steps_of w event) in
    conversed_append first (run_steps events (after event w)) (conversation_of w)
    ∙ ap (λ (c : Conversation). conversed (run_steps events (after event w)) c) (step_unless start (refusal w event) event w h refl)
    ∙ steps_run start events (after event w) (sound_after start event w h)

pub conversation : (base : ℕ) (events : List Event) → base ≤ last_id → conversation_of (run events (new_world base)) ≡ conversed (run_steps events (new_world base)) new_conversation
conversation base events fits = sym (steps_run base events (new_world base) (sound_new base fits))
