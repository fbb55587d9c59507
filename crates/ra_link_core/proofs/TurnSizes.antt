-- How much the first turn of a piece, and the first of a session's link, leave unread.
use Rattle.std.proofs.Common.{◌≡◌, ℕ, suc, ◌+◌, ◌<◌, ◌≤◌, Bool, true, false, ◌&&◌, ◌||◌, not, Option, Some, None, List, [], ◌∷◌, ◌++◌, length, drop, map, inl, inr, refl, ap, sym, subst, ◌∙◌, arith, eqb, cond, length-append}
use Rattle.std.proofs.lemmas.Bool.{cond_both, and_parts, leb-true, leb-false, lt-ltb, cond-true, cases_lt, false≢true}
use Rattle.std.proofs.lemmas.Option.{cond_some, none-some}
use Rattle.std.proofs.lemmas.List.{length-drop, length-take, get_or_append_left}
use Rattle.std.specs.Prelude.{◌⊎◌, option_map, nat_le, nat_lt}
use Rattle.std.specs.Option.{is_some}
use Rattle.ra_base.specs.declared.key.Cause.{Cause}
use Rattle.ra_model.specs.declared.frame.Frame.{Frame}
use Rattle.ra_model.specs.declared.session.Up.{Up as Delivery}
use Rattle.ra_model.specs.declared.session.Up.TheVariants.{Message as HandedUp, Control, Quiet, Ended as Closed}
use Rattle.ra_model.specs.FirstFrame.{first_frame, split_frame, has_frame, is_too_long, is_wide, header_len, stated}
use Rattle.ra_model.specs.FrameKinds.{FrameKind, frame_kind}
use Rattle.ra_model.specs.FrameKinds.FrameKind.{Regular, Control as ControlFrame, Disconnect, ReplayRequest, Pause, Resume, Other}
use Rattle.ra_model.specs.Frames.{body_limit, frame_bytes}
use Rattle.ra_model.specs.Endpoints.{Endpoint, is_linked, is_joining, is_ended, shown}
use Rattle.ra_model.specs.Refusals.{or_fault, fault_if}
use Rattle.ra_model.specs.Timing.{asked_lately}
use Rattle.ra_model.specs.Calls.{say, can_say, can_feed, can_begin, feed, wrote, moment, begin, finish, ask_resume, on_link, brought_up, replayed}
use Rattle.ra_model.specs.Taking.{next_frame, passed, on_frame, took, take_frame, delivery}
use Rattle.ra_model.proofs.Framing.{length-frame_bytes, header_some, header_more, has_from}
use Rattle.ra_model.proofs.CuttingLemmas.{found_shorter}
use Rattle.ra_proto.specs.SayAll.{say_all}
use Rattle.ra_ipc.specs.Packets.{message_bytes}
use Rattle.ra_session.specs.OnLinks.{IsRunning}
use Rattle.ra_session.specs.Sessions.{Session}
use Rattle.ra_session.specs.Hearing.{Heard, spoils, hears}
use Rattle.ra_session.specs.SessionCalls.{emptied, take_out, feed_session, attach, joined, rejoined, resumes}
use Rattle.ra_session.specs.SessionRefusals.{ended, stale, attach_refusal}
use Rattle.ra_session.specs.TurnRefusals.{turn_refusal}
use Rattle.ra_session.specs.Turns.{is_ready, heard_at, on_heard, on_delivery, take_in, take_turn, turn, taken_answer, turn_answer}
use Rattle.ra_session.proofs.TurnLaws.{due_took, due_linked}

-- ---- what a call leaves unread, and its phase

abbrev SameInput : Endpoint → Endpoint → Type 0
SameInput after before = (after.unread ≡ before.unread) × (after.phase ≡ before.phase)

said_input : (body : List ℕ) (now : ℕ) (e : Endpoint) → SameInput (say body now e) e
unfolding say
said_input body now e = cond_both (can_say body e) _ _ (λ (x : Endpoint). SameInput x e) (λ yes. (refl, refl)) (λ no. (refl, refl))

said_all_input : (bodies : List (List ℕ)) (now : ℕ) (e : Endpoint) → SameInput (say_all bodies now e) e
unfolding say_all
said_all_input [] now e = (refl, refl)
said_all_input (body ∷ bodies) now e =
    let rest = said_all_input bodies now (say body now e) in
    let one = said_input body now e in
    (rest.0 ∙ one.0, rest.1 ∙ one.1)

emptied_input : (e : Endpoint) → SameInput (emptied e) e
unfolding wrote
emptied_input e = cond_both (nat_le (length (shown e)) (length (shown e))) _ _ (λ (x : Endpoint). SameInput x e) (λ yes. (refl, refl)) (λ no. (refl, refl))

heard_input : (means : Heard) (now : ℕ) (s : Session) → SameInput (on_heard means now s).peer.endpoint s.peer.endpoint
heard_input (spoils bad) now s = (refl, refl)
heard_input (hears h) now s = said_all_input (map message_bytes h.says) now s.peer.endpoint

delivery_input : (up : Option Delivery) (now : ℕ) (s : Session) → SameInput (on_delivery up now s).peer.endpoint s.peer.endpoint
delivery_input None now s = (refl, refl)
delivery_input (Some (HandedUp id body)) now s = heard_input (heard_at s id body now) now s
delivery_input (Some (Control body)) now s = (refl, refl)
delivery_input (Some Quiet) now s = (refl, refl)
delivery_input (Some Closed) now s = (refl, refl)

taken_input : (now : ℕ) (s : Session) → SameInput (take_in now s).peer.endpoint (take_frame now s.peer.endpoint)
unfolding take_in
taken_input now s = delivery_input (delivery s.peer.endpoint) now _

turned_input : (now : ℕ) (s : Session) → SameInput (take_turn now s).peer.endpoint (take_in now s).peer.endpoint
unfolding take_turn take_out
turned_input now s = emptied_input (take_in now s).peer.endpoint

-- what a turn leaves is what its frame leaves
after_is : (epoch : ℕ) (piece : List ℕ) (now : ℕ) (s : Session) → SameInput (turn epoch piece now s).peer.endpoint (take_frame now (feed_session epoch piece now s).peer.endpoint)
unfolding turn
after_is epoch piece now s =
    let fed : Session = feed_session epoch piece now s in
    let out = turned_input now fed in
    let one = taken_input now fed in
    (out.0 ∙ one.0, out.1 ∙ one.1)

record IsFed (piece : List ℕ) (after before : Endpoint) : Type 0 where
  unread : (after.unread ≡ before.unread ++ piece) ⊎ (after.unread ≡ before.unread)
  phase : after.phase ≡ before.phase

fed_input : (epoch : ℕ) (piece : List ℕ) (now : ℕ) (s : Session) → IsFed piece (feed_session epoch piece now s).peer.endpoint s.peer.endpoint
unfolding feed_session feed
fed_input epoch piece now s =
    cond_both (can_feed epoch s.peer.endpoint) _ _ (λ (x : Endpoint). IsFed piece x s.peer.endpoint)
    (λ yes. record { unread = inl refl; phase = refl }) (λ no. record { unread = inr refl; phase = refl })

some_map : {X Y : Type 0} (f : X → Y) (o : Option X) → is_some (option_map f o) ≡ is_some o
some_map f None = refl
some_map f (Some x) = refl

took_is : (epoch : ℕ) (piece : List ℕ) (now : ℕ) (s : Session) → (turn_answer epoch piece now s).took ≡ is_some (next_frame (feed_session epoch piece now s).peer.endpoint)
unfolding turn_answer taken_answer delivery
took_is epoch piece now s = some_map _ (next_frame (feed_session epoch piece now s).peer.endpoint)

-- ---- the first frame

-- a frame that is found takes as many bytes as it has
split_size : (wide : Bool) (n : ℕ) (text : List ℕ) → header_len wide + n ≤ length text → length (frame_bytes (split_frame wide n text).0) ≡ header_len wide + n
unfolding split_frame
split_size wide n text whole =
    let f : Frame = (split_frame wide n text).0 in
    let body : length f.body ≡ n = omega (arith, length-take n (drop (header_len wide) text), length-drop (header_len wide) text) in
    length-frame_bytes f ∙ ap (λ (k : ℕ). header_len wide + k) body

-- and is found in the bytes that it has
found_within : (text more : List ℕ) (f : Frame) (rest : List ℕ) → first_frame (text ++ more) ≡ Some (f, rest) → length (frame_bytes f) ≤ length text → first_frame text ≡ None → ⊥
unfolding first_frame has_frame
found_within text more f rest is fits none =
    let whole : List ℕ = text ++ more in
    let two : (has_frame (is_wide whole) (stated whole) whole ≡ true) × (split_frame (is_wide whole) (stated whole) whole ≡ (f, rest)) = cond_some _ _ _ is in
    let outer : (nat_le (header_len (is_wide whole)) (length whole) ≡ true) × ((nat_le (stated whole) body_limit && nat_le (header_len (is_wide whole) + stated whole) (length whole)) ≡ true) =
    and_parts (nat_le (header_len (is_wide whole)) (length whole)) (nat_le (stated whole) body_limit && nat_le (header_len (is_wide whole) + stated whole) (length whole)) two.0 in
    let inner : (nat_le (stated whole) body_limit ≡ true) × (nat_le (header_len (is_wide whole) + stated whole) (length whole) ≡ true) =
    and_parts (nat_le (stated whole) body_limit) (nat_le (header_len (is_wide whole) + stated whole) (length whole)) outer.1 in
    let there : header_len (is_wide whole) + stated whole ≤ length whole = leb-true (header_len (is_wide whole) + stated whole) (length whole) inner.1 in
    let low : stated whole ≤ body_limit = leb-true (stated whole) body_limit inner.0 in
    let size : length (frame_bytes f) ≡ header_len (is_wide whole) + stated whole =
    sym (ap (λ (p : Frame × List ℕ). length (frame_bytes p.0)) two.1) ∙ split_size (is_wide whole) (stated whole) whole there in
    let positive : 0 < header_len (is_wide whole) = header_some (is_wide whole) in
    let some : 0 < length text = omega arith in
    let wide : is_wide whole ≡ is_wide text = ap (λ (b : ℕ). nat_le 128 b) (get_or_append_left text more 0 0 some) in
    let header : header_len (is_wide whole) ≤ length text = omega arith in
    let header_there : header_len (is_wide text) ≤ length text = subst (λ (w : Bool). header_len w ≤ length text) wide header in
    let same : stated whole ≡ stated text = (header_more text more header_there).1 in
    let small : stated text ≤ body_limit = subst (λ (n : ℕ). n ≤ body_limit) same low in
    let sum : header_len (is_wide whole) + stated whole ≤ length text = omega arith in
    let room : header_len (is_wide text) + stated text ≤ length text =
    subst (λ (n : ℕ). header_len (is_wide text) + n ≤ length text) same (subst (λ (w : Bool). header_len w + stated whole ≤ length text) wide sum) in
    none-some _ (sym none ∙ cond-true _ _ _ (has_from (is_wide text) (stated text) text small room))

-- where none was whole before, the first ends within the piece
ends_within : (text piece : List ℕ) (f : Frame) (rest : List ℕ) → first_frame text ≡ None → first_frame (text ++ piece) ≡ Some (f, rest) → length rest ≤ length piece
ends_within text piece f rest none is = by (cases_lt (length text) (length (frame_bytes f)))
  where
    by : (length text < length (frame_bytes f)) ⊎ (length (frame_bytes f) ≤ length text) → length rest ≤ length piece
    by (inl above) = omega (arith, above, found_shorter (text ++ piece) f rest is, length-append text piece)
    by (inr within) = absurd (found_within text piece f rest is within none)

-- an endpoint that has a link after a frame has what follows the frame
frame_input : (kind : FrameKind) (f : Frame) (now : ℕ) (e : Endpoint) → is_linked (on_frame kind f now e).phase ≡ true → (on_frame kind f now e).unread ≡ e.unread
frame_input Regular f now e linked =
    cond_both (eqb f.id (suc e.received)) _ _ (λ (x : Endpoint). x.unread ≡ e.unread) (λ yes. refl)
    (λ no. cond_both (nat_lt (suc e.received) f.id && not (asked_lately now e.timing)) _ _ (λ (x : Endpoint). x.unread ≡ e.unread) (λ yes. refl) (λ _. refl))
frame_input ControlFrame f now e linked = refl
frame_input Disconnect f now e linked = absurd (false≢true linked)
frame_input ReplayRequest f now e linked = refl
frame_input Pause f now e linked = refl
frame_input Resume f now e linked = refl
frame_input Other f now e linked = refl

next_of : (b : Bool) (o : Option (Frame × List ℕ)) (next : Frame × List ℕ) → cond b o None ≡ Some next → (b ≡ true) × (o ≡ Some next)
next_of true o next is = (refl, is)
next_of false o next is = absurd (none-some _ is)

idle_parts : (linked long : Bool) (o : Option (Frame × List ℕ)) → linked ≡ true → (linked && (long || is_some o)) ≡ false → o ≡ None
idle_parts true true o up ready = absurd (false≢true (sym ready))
idle_parts true false None up ready = refl
idle_parts true false (Some x) up ready = absurd (false≢true (sym ready))
idle_parts false long o up ready = absurd (false≢true up)

left_at : (next : Option (Frame × List ℕ)) (piece : List ℕ) (now : ℕ) (fed e : Endpoint) → next_frame fed ≡ next → is_some next ≡ true → is_linked (took next now fed).phase ≡ true
    → IsFed piece fed e → is_ready e ≡ false → length (took next now fed).unread ≤ length piece
left_at None piece now fed e is some linked input idle = absurd (false≢true some)
left_at (Some next) piece now fed e is some linked input idle =
    let two = next_of (is_linked fed.phase) (first_frame fed.unread) next is in
    let up : is_linked e.phase ≡ true = ap is_linked (sym input.phase) ∙ two.0 in
    let none : first_frame e.unread ≡ None = idle_parts (is_linked e.phase) (is_too_long e.unread) (first_frame e.unread) up idle in
    let rest : (took (Some next) now fed).unread ≡ next.1 = frame_input (frame_kind next.0.kind) next.0 now (passed next.0 next.1 now fed) linked in
    by none rest two.1 input.unread
  where
    by : first_frame e.unread ≡ None → (took (Some next) now fed).unread ≡ next.1 → first_frame fed.unread ≡ Some next → (fed.unread ≡ e.unread ++ piece) ⊎ (fed.unread ≡ e.unread)
        → length (took (Some next) now fed).unread ≤ length piece
    by none rest found (inl more) =
        let least = ends_within e.unread piece next.0 next.1 none (ap first_frame (sym more) ∙ found) in
        omega (arith, ap length rest, least)
    by none rest found (inr same) = absurd (none-some _ (sym none ∙ ap first_frame (sym same) ∙ found))

-- where no turn was due, a turn after which one is due leaves at most its piece
pub first_left : (epoch : ℕ) (piece : List ℕ) (now : ℕ) (s : Session) → is_ready s.peer.endpoint ≡ false → turn_refusal epoch piece now s ≡ None → (turn_answer epoch piece now s).again ≡ true
    → length (turn epoch piece now s).peer.endpoint.unread ≤ length piece
unfolding take_frame
first_left epoch piece now s idle admits again =
    let fed = (feed_session epoch piece now s).peer.endpoint in
    let after = after_is epoch piece now s in
    let some : is_some (next_frame fed) ≡ true = sym (took_is epoch piece now s) ∙ due_took epoch piece now s admits again in
    let linked : is_linked (took (next_frame fed) (moment now fed) fed).phase ≡ true = ap is_linked (sym after.1) ∙ due_linked epoch piece now s again in
    let left = left_at (next_frame fed) piece (moment now fed) fed s.peer.endpoint refl some linked (fed_input epoch piece now s) idle in
    omega (arith, ap length after.0, left)

-- ---- a link that begins

begun_unread : (epoch : ℕ) (chunk : List ℕ) (now : ℕ) (e : Endpoint) → can_begin epoch e ≡ true → (begin epoch chunk now e).unread ≡ chunk
unfolding begin
begun_unread epoch chunk now e can = here (can_begin epoch e) can
  where
    here : (b : Bool) → b ≡ true → (cond b (cond (eqb e.epoch 0) (brought_up (moment now e) (replayed (moment now e) (on_link epoch chunk (moment now e) e))) (on_link epoch chunk (moment now e) e)) e).unread ≡ chunk
    here true is = cond_both (eqb e.epoch 0) _ _ (λ (x : Endpoint). x.unread ≡ chunk) (λ yes. refl) (λ no. refl)
    here false is = absurd (false≢true is)

rejoined_unread : (now : ℕ) (e : Endpoint) → (rejoined now e).unread ≡ e.unread
unfolding finish
rejoined_unread now e =
    cond_both (is_joining e.phase) _ _ (λ (x : Endpoint). x.unread ≡ e.unread)
    (λ yes. cond_both (is_joining e.phase) _ _ (λ (x : Endpoint). x.unread ≡ e.unread) (λ again. refl) (λ no. refl))
    (λ no. refl)

resumed_unread : (e : Endpoint) → (ask_resume e).unread ≡ e.unread
unfolding ask_resume
resumed_unread e = cond_both (is_linked e.phase) _ _ (λ (x : Endpoint). x.unread ≡ e.unread) (λ yes. refl) (λ no. refl)

joined_unread : (with_resume : Bool) (now : ℕ) (e : Endpoint) → (joined with_resume now e).unread ≡ e.unread
joined_unread true now e = resumed_unread (rejoined now e) ∙ rejoined_unread now e
joined_unread false now e = rejoined_unread now e

attach_admits : (c : Option Cause) (le : Bool) (n : ℕ) → or_fault (option_map (λ cause. ended cause) c) (fault_if le (stale n)) ≡ None → (c ≡ None) × (le ≡ false)
attach_admits None true n is = cc
attach_admits None false n is = (refl, refl)
attach_admits (Some cause) le n is = cc

can : (over lt : Bool) → over ≡ false → lt ≡ true → (not over && lt) ≡ true
can true lt a b = absurd (false≢true (sym a))
can false lt a b = b

-- it has its chunk unread
pub attach_unread : (epoch : ℕ) (chunk : List ℕ) (now : ℕ) (s : Session) → IsRunning s → attach_refusal epoch s ≡ None → (attach epoch chunk now s).peer.endpoint.unread ≡ chunk
unfolding attach attach_refusal
attach_unread epoch chunk now s runs admits =
    let e = s.peer.endpoint in
    let two = attach_admits s.cause (nat_le epoch e.epoch) e.epoch admits in
    joined_unread (resumes s.serves s.kind) now (begin epoch chunk now e)
    ∙ begun_unread epoch chunk now e (can (is_ended e.phase) (nat_lt e.epoch epoch) (runs two.0) (not_le epoch e.epoch two.1))
  where
    not_le : (a b : ℕ) → nat_le a b ≡ false → nat_lt b a ≡ true
    not_le a b is = lt-ltb b a (leb-false a b is)
