-- What a turn takes, and whether another one is due.
use Rattle.std.proofs.Common.{◌≡◌, ℕ, ◌+◌, ◌≤◌, Bool, true, false, ◌&&◌, ◌||◌, not, Option, Some, None, List, [], ◌∷◌, length, map, refl, ap, sym, ◌∙◌, arith, suc, eqb, cond, length-append, append-nil}
use Rattle.std.proofs.lemmas.Bool.{cond_both, and_parts, leb-true, false≢true}
use Rattle.std.specs.Prelude.{option_map, nat_le, nat_lt}
use Rattle.std.specs.Option.{is_some}
use Rattle.ra_model.specs.declared.frame.Frame.{Frame}
use Rattle.ra_model.specs.declared.session.Phase.{Phase}
use Rattle.ra_model.specs.declared.session.Up.{Up as Delivery}
use Rattle.ra_model.specs.declared.session.Up.TheVariants.{Message as HandedUp, Control, Quiet, Ended as Closed}
use Rattle.ra_model.specs.FirstFrame.{first_frame, is_too_long, is_wide, header_len, stated}
use Rattle.ra_model.specs.FrameKinds.{FrameKind, frame_kind}
use Rattle.ra_model.specs.FrameKinds.FrameKind.{Regular, Control as ControlFrame, Disconnect, ReplayRequest, Pause, Resume, Other}
use Rattle.ra_model.specs.Endpoints.{Endpoint, is_linked, shown}
use Rattle.ra_model.specs.Refusals.{or_fault, fault_if}
use Rattle.ra_model.specs.Timing.{asked_lately}
use Rattle.ra_model.specs.Calls.{say, can_say, can_feed, feed, wrote, moment}
use Rattle.ra_model.specs.Taking.{next_frame, passed, on_frame, took, take_frame, delivery_of, delivery}
use Rattle.ra_model.proofs.Framing.{length-frame_bytes, first_frame-nil}
use Rattle.ra_model.proofs.CuttingLemmas.{found_shorter}
use Rattle.ra_proto.specs.SayAll.{say_all}
use Rattle.ra_ipc.specs.Packets.{message_bytes}
use Rattle.ra_session.specs.Sessions.{Session}
use Rattle.ra_session.specs.Hearing.{Heard, spoils, hears}
use Rattle.ra_session.specs.SessionCalls.{emptied, take_out, feed_session}
use Rattle.ra_session.specs.Turns.{is_ready, heard_at, on_heard, on_delivery, take_in, take_turn, turn, taken_answer, turn_answer}
use Rattle.ra_session.specs.SessionRefusals.{Refusal, too_long, feed_refusal}
use Rattle.ra_session.specs.TurnRefusals.{delivery_refusal, taken_refusal, turn_refusal}

-- ---- what a call leaves unread, and its phase

abbrev SameInput : Endpoint → Endpoint → Type 0
SameInput after before = (after.unread ≡ before.unread) × (after.phase ≡ before.phase)

said_input : (body : List ℕ) (now : ℕ) (e : Endpoint) → SameInput (say body now e) e
unfolding say
said_input body now e = cond_both (can_say body e) _ _ (λ (x : Endpoint). SameInput x e) (λ yes. (refl, refl)) (λ no. (refl, refl))

said_all_input : (bodies : List (List ℕ)) (now : ℕ) (e : Endpoint) → SameInput (say_all bodies now e) e
unfolding say_all
said_all_input [] now e = (refl, refl)
said_all_input (body ∷ bodies) now e =
    let rest = said_all_input bodies now (say body now e) in
    let one = said_input body now e in
    (rest.0 ∙ one.0, rest.1 ∙ one.1)

emptied_input : (e : Endpoint) → SameInput (emptied e) e
unfolding wrote
emptied_input e = cond_both (nat_le (length (shown e)) (length (shown e))) _ _ (λ (x : Endpoint). SameInput x e) (λ yes. (refl, refl)) (λ no. (refl, refl))

heard_input : (means : Heard) (now : ℕ) (s : Session) → SameInput (on_heard means now s).peer.endpoint s.peer.endpoint
heard_input (spoils bad) now s = (refl, refl)
heard_input (hears h) now s = said_all_input (map message_bytes h.says) now s.peer.endpoint

delivery_input : (up : Option Delivery) (now : ℕ) (s : Session) → SameInput (on_delivery up now s).peer.endpoint s.peer.endpoint
delivery_input None now s = (refl, refl)
delivery_input (Some (HandedUp id body)) now s = heard_input (heard_at s id body now) now s
delivery_input (Some (Control body)) now s = (refl, refl)
delivery_input (Some Quiet) now s = (refl, refl)
delivery_input (Some Closed) now s = (refl, refl)

-- what the turn leaves is what its frame leaves
taken_input : (now : ℕ) (s : Session) → SameInput (take_in now s).peer.endpoint (take_frame now s.peer.endpoint)
unfolding take_in
taken_input now s = delivery_input (delivery s.peer.endpoint) now _

turned_input : (now : ℕ) (s : Session) → SameInput (take_turn now s).peer.endpoint (take_in now s).peer.endpoint
unfolding take_turn take_out
turned_input now s = emptied_input (take_in now s).peer.endpoint

ready_same : (after before : Endpoint) → SameInput after before → is_ready after ≡ is_ready before
ready_same after before same =
    ap (λ (text : List ℕ). is_linked after.phase && (is_too_long text || is_some (first_frame text))) same.0
    ∙ ap (λ (phase : Phase). is_linked phase && (is_too_long before.unread || is_some (first_frame before.unread))) same.1

fed_input : (epoch : ℕ) (piece : List ℕ) (now : ℕ) (s : Session)
    → length (feed_session epoch piece now s).peer.endpoint.unread ≤ length s.peer.endpoint.unread + length piece
unfolding feed_session feed
fed_input epoch piece now s =
    cond_both (can_feed epoch s.peer.endpoint) _ _ (λ (x : Endpoint). length x.unread ≤ length s.peer.endpoint.unread + length piece)
    (λ yes. omega (arith, length-append s.peer.endpoint.unread piece)) (λ no. omega arith)

-- ---- the least frame, and the least header

header_least : (wide : Bool) → 13 ≤ header_len wide
header_least true = omega arith
header_least false = omega arith

found_least : (text : List ℕ) (f : Frame) (rest : List ℕ) → first_frame text ≡ Some (f, rest) → length rest + 13 ≤ length text
found_least text f rest is = omega (arith, found_shorter text f rest is, length-frame_bytes f, header_least f.wide)

found_some : (text : List ℕ) (found : Option (Frame × List ℕ)) → first_frame text ≡ found → is_some found ≡ true → 13 ≤ length text
found_some text None is some = absurd (false≢true some)
found_some text (Some found) is some = omega (arith, found_least text found.0 found.1 is)

too_long_least : (text : List ℕ) → is_too_long text ≡ true → 13 ≤ length text
unfolding is_too_long
too_long_least text is =
    let there : header_len (is_wide text) ≤ length text =
    leb-true (header_len (is_wide text)) (length text) (and_parts _ _ is).0 in
    omega (arith, there, header_least (is_wide text))

either_least : (text : List ℕ) (b : Bool) → is_too_long text ≡ b → (b || is_some (first_frame text)) ≡ true → 13 ≤ length text
either_least text true is some = too_long_least text is
either_least text false is some = found_some text (first_frame text) refl some

-- an endpoint that is ready has a link, and the least header
ready_parts : (e : Endpoint) → is_ready e ≡ true → (is_linked e.phase ≡ true) × (13 ≤ length e.unread)
ready_parts e ready =
    let parts = and_parts (is_linked e.phase) _ ready in
    (parts.0, either_least e.unread (is_too_long e.unread) refl parts.1)

-- ---- one frame

-- an endpoint that is ready after a frame has what follows the frame
frame_input : (kind : FrameKind) (f : Frame) (now : ℕ) (e : Endpoint) → is_linked (on_frame kind f now e).phase ≡ true → (on_frame kind f now e).unread ≡ e.unread
frame_input Regular f now e linked =
    cond_both (eqb f.id (suc e.received)) _ _ (λ (x : Endpoint). x.unread ≡ e.unread) (λ yes. refl)
    (λ no. cond_both (nat_lt (suc e.received) f.id && not (asked_lately now e.timing)) _ _ (λ (x : Endpoint). x.unread ≡ e.unread) (λ yes. refl) (λ _. refl))
frame_input ControlFrame f now e linked = refl
frame_input Disconnect f now e linked = absurd (false≢true linked)
frame_input ReplayRequest f now e linked = refl
frame_input Pause f now e linked = refl
frame_input Resume f now e linked = refl
frame_input Other f now e linked = refl

linked_first : (b : Bool) (o found : Option (Frame × List ℕ)) → (cond b o None) ≡ found → is_some found ≡ true → o ≡ found
linked_first true o found is some = is
linked_first false o found is some = absurd (false≢true (ap is_some is ∙ some))

none_ready : (linked long : Bool) (o : Option (Frame × List ℕ)) → long ≡ false → cond linked o None ≡ None → (linked && (long || is_some o)) ≡ true → false ≡ true
none_ready true long o short none ready = sym (ap is_some none) ∙ sym (ap (λ b. b || is_some o) short) ∙ ready
none_ready false long o short none ready = ready

-- where another frame is due, one was taken, and so much is left
record Takes (before after : Endpoint) : Type 0 where
  some : is_some (next_frame before) ≡ true
  fewer : length after.unread + 13 ≤ length before.unread

takes_at : (next : Option (Frame × List ℕ)) (now : ℕ) (e : Endpoint) → next_frame e ≡ next → is_too_long e.unread ≡ false
    → is_ready (took next now e) ≡ true → Takes e (took next now e)
takes_at None now e is short ready = absurd (false≢true (none_ready (is_linked e.phase) (is_too_long e.unread) (first_frame e.unread) short is ready))
takes_at (Some next) now e is short ready =
    let found : first_frame e.unread ≡ Some next = linked_first (is_linked e.phase) (first_frame e.unread) (Some next) is refl in
    let least = found_least e.unread next.0 next.1 found in
    let rest : (on_frame (frame_kind next.0.kind) next.0 now (passed next.0 next.1 now e)).unread ≡ next.1 =
    frame_input (frame_kind next.0.kind) next.0 now (passed next.0 next.1 now e) (ready_parts (took (Some next) now e) ready).0 in
    record { some = ap is_some is; fewer = omega (arith, ap length rest, least) }

takes : (now : ℕ) (e : Endpoint) → is_too_long e.unread ≡ false → is_ready (take_frame now e) ≡ true → Takes e (take_frame now e)
unfolding take_frame
takes now e short ready = takes_at (next_frame e) (moment now e) e refl short ready

some_map : {X Y : Type 0} (f : X → Y) (o : Option X) → is_some (option_map f o) ≡ is_some o
some_map f None = refl
some_map f (Some x) = refl

-- ---- whole turns

second_none : {X : Type 0} (a b : Option X) → or_fault a b ≡ None → (a ≡ None) × (b ≡ None)
second_none None b none = (refl, none)
second_none (Some x) b none = cc

not_too_long : (long : Bool) (r : Refusal) (next : Option Refusal) → or_fault (fault_if long r) next ≡ None → long ≡ false
not_too_long true r next none = cc
not_too_long false r next none = refl

taken_short : (now : ℕ) (s : Session) → taken_refusal now s ≡ None → is_too_long s.peer.endpoint.unread ≡ false
unfolding taken_refusal
taken_short now s none = not_too_long (is_too_long s.peer.endpoint.unread) (too_long (stated s.peer.endpoint.unread)) _ none

turn_short : (epoch : ℕ) (piece : List ℕ) (now : ℕ) (s : Session) → turn_refusal epoch piece now s ≡ None
    → is_too_long (feed_session epoch piece now s).peer.endpoint.unread ≡ false
unfolding turn_refusal
turn_short epoch piece now s none =
    taken_short now (feed_session epoch piece now s) (second_none (feed_refusal epoch s) (taken_refusal now (feed_session epoch piece now s)) none).1

again_is : (epoch : ℕ) (piece : List ℕ) (now : ℕ) (s : Session)
    → (turn_answer epoch piece now s).again ≡ is_ready (take_frame now (feed_session epoch piece now s).peer.endpoint)
unfolding turn_answer taken_answer
again_is epoch piece now s =
    let fed : Session = feed_session epoch piece now s in
    ready_same (take_in now fed).peer.endpoint (take_frame now fed.peer.endpoint) (taken_input now fed)

took_is : (epoch : ℕ) (piece : List ℕ) (now : ℕ) (s : Session)
    → (turn_answer epoch piece now s).took ≡ is_some (next_frame (feed_session epoch piece now s).peer.endpoint)
unfolding turn_answer taken_answer delivery
took_is epoch piece now s = some_map _ (next_frame (feed_session epoch piece now s).peer.endpoint)

after_is : (epoch : ℕ) (piece : List ℕ) (now : ℕ) (s : Session)
    → SameInput (turn epoch piece now s).peer.endpoint (take_frame now (feed_session epoch piece now s).peer.endpoint)
unfolding turn
after_is epoch piece now s =
    let fed : Session = feed_session epoch piece now s in
    let out = turned_input now fed in
    let one = taken_input now fed in
    (out.0 ∙ one.0, out.1 ∙ one.1)

-- `again` says whether the session is ready after the turn
again_after : (epoch : ℕ) (piece : List ℕ) (now : ℕ) (s : Session) → (turn_answer epoch piece now s).again ≡ is_ready (turn epoch piece now s).peer.endpoint
again_after epoch piece now s =
    again_is epoch piece now s
    ∙ sym (ready_same (turn epoch piece now s).peer.endpoint (take_frame now (feed_session epoch piece now s).peer.endpoint) (after_is epoch piece now s))

turn_takes : (epoch : ℕ) (piece : List ℕ) (now : ℕ) (s : Session) → turn_refusal epoch piece now s ≡ None → (turn_answer epoch piece now s).again ≡ true
    → Takes (feed_session epoch piece now s).peer.endpoint (take_frame now (feed_session epoch piece now s).peer.endpoint)
turn_takes epoch piece now s none again =
    takes now (feed_session epoch piece now s).peer.endpoint (turn_short epoch piece now s none) (sym (again_is epoch piece now s) ∙ again)

pub due_took : (epoch : ℕ) (piece : List ℕ) (now : ℕ) (s : Session) → turn_refusal epoch piece now s ≡ None → (turn_answer epoch piece now s).again ≡ true
    → (turn_answer epoch piece now s).took ≡ true
due_took epoch piece now s none again = took_is epoch piece now s ∙ (turn_takes epoch piece now s none again).some

pub due_left : (epoch : ℕ) (piece : List ℕ) (now : ℕ) (s : Session) → (turn_answer epoch piece now s).again ≡ true
    → 13 ≤ length (turn epoch piece now s).peer.endpoint.unread
due_left epoch piece now s again = (ready_parts (turn epoch piece now s).peer.endpoint (sym (again_after epoch piece now s) ∙ again)).1

pub due_linked : (epoch : ℕ) (piece : List ℕ) (now : ℕ) (s : Session) → (turn_answer epoch piece now s).again ≡ true
    → is_linked (turn epoch piece now s).peer.endpoint.phase ≡ true
due_linked epoch piece now s again = (ready_parts (turn epoch piece now s).peer.endpoint (sym (again_after epoch piece now s) ∙ again)).0

pub due_fewer : (epoch : ℕ) (piece : List ℕ) (now : ℕ) (s : Session) → turn_refusal epoch piece now s ≡ None → (turn_answer epoch piece now s).again ≡ true
    → length (turn epoch piece now s).peer.endpoint.unread + 13 ≤ length s.peer.endpoint.unread + length piece
due_fewer epoch piece now s none again =
    let fewer = (turn_takes epoch piece now s none again).fewer in
    let same = ap length (after_is epoch piece now s).0 in
    omega (arith, fewer, same, fed_input epoch piece now s)

-- ---- where no turn is due

neither : (linked long : Bool) (o : Option (Frame × List ℕ)) → linked ≡ true → (linked && (long || is_some o)) ≡ false → (o ≡ None) × (long ≡ false)
neither true true o up ready = absurd (false≢true (sym ready))
neither true false None up ready = (refl, refl)
neither true false (Some x) up ready = absurd (false≢true (sym ready))
neither false long o up ready = absurd (false≢true up)

idle : (epoch : ℕ) (piece : List ℕ) (now : ℕ) (s : Session) → (turn_answer epoch piece now s).again ≡ false
    → is_linked (turn epoch piece now s).peer.endpoint.phase ≡ true
    → (first_frame (turn epoch piece now s).peer.endpoint.unread ≡ None) × (is_too_long (turn epoch piece now s).peer.endpoint.unread ≡ false)
idle epoch piece now s again linked = neither _ _ _ linked (sym (again_after epoch piece now s) ∙ again)

pub idle_frame : (epoch : ℕ) (piece : List ℕ) (now : ℕ) (s : Session) → (turn_answer epoch piece now s).again ≡ false
    → is_linked (turn epoch piece now s).peer.endpoint.phase ≡ true → first_frame (turn epoch piece now s).peer.endpoint.unread ≡ None
idle_frame epoch piece now s again linked = (idle epoch piece now s again linked).0

pub idle_header : (epoch : ℕ) (piece : List ℕ) (now : ℕ) (s : Session) → (turn_answer epoch piece now s).again ≡ false
    → is_linked (turn epoch piece now s).peer.endpoint.phase ≡ true → is_too_long (turn epoch piece now s).peer.endpoint.unread ≡ false
idle_header epoch piece now s again linked = (idle epoch piece now s again linked).1

-- ---- where nothing is unread and nothing comes

fed_nothing : (epoch now : ℕ) (s : Session) → s.peer.endpoint.unread ≡ [] → (feed_session epoch [] now s).peer.endpoint.unread ≡ []
unfolding feed_session feed
fed_nothing epoch now s is =
    cond_both (can_feed epoch s.peer.endpoint) _ _ (λ (x : Endpoint). x.unread ≡ []) (λ yes. append-nil s.peer.endpoint.unread ∙ is) (λ no. is)

no_frame : (e : Endpoint) → e.unread ≡ [] → next_frame e ≡ None
no_frame e is =
    cond_both (is_linked e.phase) (first_frame e.unread) None (λ (o : Option (Frame × List ℕ)). o ≡ None) (λ yes. ap first_frame is ∙ first_frame-nil) (λ no. refl)

nil_short : is_too_long [] ≡ false
unfolding is_too_long
nil_short = refl

none_delivered : (e : Endpoint) → next_frame e ≡ None → delivery e ≡ None
unfolding delivery
none_delivered e none = ap (option_map (λ (next : Frame × List ℕ). delivery_of (frame_kind next.0.kind) next.0 e)) none

admitted : (long : Bool) (r : Refusal) (up : Option Delivery) (now : ℕ) (s : Session) (e : Endpoint) → long ≡ false → up ≡ None
    → or_fault (fault_if long r) (delivery_refusal up now s e) ≡ None
admitted true r up now s e short none = absurd (false≢true (sym short))
admitted false r up now s e short none = ap (λ (u : Option Delivery). delivery_refusal u now s e) none

none_judged : (now : ℕ) (s : Session) → s.peer.endpoint.unread ≡ [] → taken_refusal now s ≡ None
unfolding taken_refusal
none_judged now s is =
    let e : Endpoint = s.peer.endpoint in
    admitted (is_too_long e.unread) (too_long (stated e.unread)) (delivery e) now s e (ap is_too_long is ∙ nil_short) (none_delivered e (no_frame e is))

or_none : {X : Type 0} (o : Option X) → or_fault o None ≡ o
or_none None = refl
or_none (Some x) = refl

pub nothing_refused : (epoch now : ℕ) (s : Session) → s.peer.endpoint.unread ≡ [] → turn_refusal epoch [] now s ≡ feed_refusal epoch s
unfolding turn_refusal
nothing_refused epoch now s is =
    ap (λ (r : Option Refusal). or_fault (feed_refusal epoch s) r) (none_judged now (feed_session epoch [] now s) (fed_nothing epoch now s is))
    ∙ or_none (feed_refusal epoch s)

pub nothing_took : (epoch now : ℕ) (s : Session) → s.peer.endpoint.unread ≡ [] → (turn_answer epoch [] now s).took ≡ false
nothing_took epoch now s is =
    took_is epoch [] now s ∙ ap is_some (no_frame (feed_session epoch [] now s).peer.endpoint (fed_nothing epoch now s is))

took_none : (e : Endpoint) (now : ℕ) → next_frame e ≡ None → take_frame now e ≡ e
unfolding take_frame
took_none e now none = ap (λ (next : Option (Frame × List ℕ)). took next (moment now e) e) none

nil_idle : (linked : Bool) (text : List ℕ) → text ≡ [] → (linked && (is_too_long text || is_some (first_frame text))) ≡ false
nil_idle true text is = rw is (ap (λ b. b || is_some (first_frame [])) nil_short ∙ ap is_some first_frame-nil)
nil_idle false text is = refl

pub nothing_again : (epoch now : ℕ) (s : Session) → s.peer.endpoint.unread ≡ [] → (turn_answer epoch [] now s).again ≡ false
nothing_again epoch now s is =
    let e : Endpoint = (feed_session epoch [] now s).peer.endpoint in
    let empty : e.unread ≡ [] = fed_nothing epoch now s is in
    again_is epoch [] now s ∙ ap is_ready (took_none e now (no_frame e empty)) ∙ nil_idle (is_linked e.phase) e.unread empty
