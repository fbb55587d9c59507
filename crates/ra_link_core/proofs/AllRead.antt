-- A served link whose session goes on has no whole frame unread after a piece.
use Rattle.std.proofs.Common.{◌≡◌, ℕ, zero, suc, ◌+◌, ◌*◌, ◌/◌, ◌<◌, ◌≤◌, Bool, true, false, ◌&&◌, ◌||◌, cond, Option, Some, None, List, [], ◌∷◌, length, drop, refl, sym, ap, subst, ◌∙◌, arith}
use Rattle.std.proofs.Math.Nat.{lt-div-mul-add}
use Rattle.std.specs.Prelude.{⊤}
use Rattle.std.specs.Option.{is_some}
use Rattle.ra_base.specs.declared.handshake.Reason.{Reason}
use Rattle.ra_base.specs.declared.handshake.Request.{Request}
use Rattle.ra_base.specs.declared.key.Cause.{Cause}
use Rattle.ra_base.specs.declared.key.Seat.{Seat}
use Rattle.ra_items.specs.Heads.{Head}
use Rattle.ra_model.specs.declared.frame.Frame.{Frame}
use Rattle.ra_model.specs.Endpoints.{is_linked}
use Rattle.ra_model.specs.FirstFrame.{first_frame, is_too_long}
use Rattle.ra_opening.specs.Openings.{Grounds, opened}
use Rattle.ra_opening.specs.Openings.{Stage}
use Rattle.ra_opening.specs.Openings.Stage.{Heading, Shaking, Asked, Over}
use Rattle.ra_registry.specs.Admission.{admission_refusal, seat_for}
use Rattle.ra_registry.proofs.SameKeys.{same_key_itself}
use Rattle.ra_session.specs.OnLinks.{IsRunning}
use Rattle.ra_session.specs.SessionCalls.{attach}
use Rattle.ra_session.specs.SessionRefusals.{Refusal, ended, stale, no_link, too_long, bad_ipc, too_large, ids_spent, no_such_call, wrong_kind, attach_refusal}
use Rattle.ra_session.specs.Sessions.{Session}
use Rattle.ra_session.specs.TurnRefusals.{turn_refusal}
use Rattle.ra_session.specs.Turns.{is_ready, turn, turn_answer}
use Rattle.ra_session.proofs.TurnLaws.{due_left, due_fewer, idle_frame, idle_header}
use Rattle.ra_upgrade.specs.declared.request_head.HeadFault.{HeadFault}
use Rattle.ra_upgrade.specs.declared.request_head.Upgrade.{Upgrade}
use Rattle.ra_hub.specs.Hubs.{Hub, at_key}
use Rattle.ra_hub.specs.Jobs.{SeenJob}
use Rattle.ra_hub.specs.Running.{HubRuns}
use Rattle.ra_link_core.specs.HubEvents.{event_done, on_session}
use Rattle.ra_link_core.specs.HubEvents.HubEvent.{Admit, Attach, Turn}
use Rattle.ra_link_core.specs.LinkRuns.{Piece, End, Serving, new_serving, writes, does, Turned, stops, turn_refused, turn_ended, turn_by, turn_in, turned, turned_again, turns_for, served, attached_by, attached_in, attached, asked_by, asked, opening_end, opening_by, with_piece, piece_by, piece_done, link_run}
use Rattle.ra_link_core.proofs.NeverUnlinked.{Sound, SeatSound, new_sound, piece_sound, admit_runs, is_that}
use Rattle.ra_link_core.proofs.TurnSizes.{first_left, attach_unread}

-- ---- the session of a seat

-- its session has no whole frame unread
abbrev pub IdleAt : Seat → Hub → Type 0
IdleAt seat h = (x : Session) → h.session seat.key ≡ Some x → is_ready x.peer.endpoint ≡ false

abbrev pub ReadAt : Option Seat → Option End → Hub → Type 0
ReadAt None end h = ⊤
ReadAt (Some seat) end h = end ≡ None → IdleAt seat h

abbrev pub IsRead : Serving → Type 0
IsRead s = ReadAt s.seat s.end s.hub

ended_read : (seat : Option Seat) (end : End) (h : Hub) → ReadAt seat (Some end) h
ended_read None end h = tt
ended_read (Some seat) end h = λ is. cc

none_some : {T : Type 0} (x : Session) → None ≡ Some x → T
none_some x e = cc

-- the session that was set is there
set_there : (seat : Seat) (h : Hub) (t : Session) → (at_key seat.key t h).session seat.key ≡ Some t
set_there seat h t = ap (λ (b : Bool). cond b (Some t) (h.session seat.key)) (same_key_itself seat.key)

turn_there : (seat : Seat) (piece : List ℕ) (now : ℕ) (h : Hub) (x : Session) → h.session seat.key ≡ Some x
    → (event_done (Turn seat piece now) h).session seat.key ≡ Some (turn seat.epoch piece now x)
unfolding event_done
turn_there seat piece now h x is =
    ap (λ (o : Option Session). (on_session o (λ (s : Session). at_key seat.key (turn seat.epoch piece now s) h) h).session seat.key) is
    ∙ set_there seat h (turn seat.epoch piece now x)

attach_there : (seat : Seat) (chunk : List ℕ) (now : ℕ) (h : Hub) (x : Session) → h.session seat.key ≡ Some x
    → (event_done (Attach seat chunk now) h).session seat.key ≡ Some (attach seat.epoch chunk now x)
unfolding event_done
attach_there seat chunk now h x is =
    ap (λ (o : Option Session). (on_session o (λ (s : Session). at_key seat.key (attach seat.epoch chunk now s) h) h).session seat.key) is
    ∙ set_there seat h (attach seat.epoch chunk now x)

idle_by : (linked long : Bool) (o : Option (Frame × List ℕ)) → (linked ≡ true → long ≡ false) → (linked ≡ true → o ≡ None) → (linked && (long || is_some o)) ≡ false
idle_by true long o short none = ap (λ (b : Bool). b || is_some o) (short refl) ∙ ap is_some (none refl)
idle_by false long o short none = refl

turn_idle : (epoch : ℕ) (piece : List ℕ) (now : ℕ) (x : Session) → (turn_answer epoch piece now x).again ≡ false → is_ready (turn epoch piece now x).peer.endpoint ≡ false
turn_idle epoch piece now x again =
    let e = (turn epoch piece now x).peer.endpoint in
    idle_by (is_linked e.phase) (is_too_long e.unread) (first_frame e.unread) (idle_header epoch piece now x again) (idle_frame epoch piece now x again)

-- ---- turns

-- one more turn is due, of which at most n are allowed, and n are enough
record IsWithin (n : ℕ) (seat : Seat) (s : Serving) : Type 0 where
  session : Session
  there : s.hub.session seat.key ≡ Some session
  least : 13 ≤ length session.peer.endpoint.unread
  most : length session.peer.endpoint.unread < 13 * n + 13
  seat_is : s.seat ≡ Some seat

record TurnRead (n : ℕ) (seat : Seat) (t : Turned) : Type 0 where
  idle : t.again ≡ false → IsRead t.after
  more : t.again ≡ true → IsWithin n seat t.after

stops_read : (n : ℕ) (seat : Seat) (s : Serving) → IsRead s → TurnRead n seat (stops s)
stops_read n seat s read = record { idle = λ is. read; more = λ is. cc }

refused_read : (r : Refusal) (seat : Seat) (piece : List ℕ) (now : ℕ) (s : Serving) → IsRead (turn_refused r seat piece now s)
refused_read (bad_ipc bad message) seat piece now s = tt
refused_read (ended cause) seat piece now s = ended_read s.seat _ s.hub
refused_read (stale current) seat piece now s = ended_read s.seat _ s.hub
refused_read no_link seat piece now s = ended_read s.seat _ s.hub
refused_read (too_long n) seat piece now s = ended_read s.seat _ s.hub
refused_read (too_large n) seat piece now s = ended_read s.seat _ s.hub
refused_read ids_spent seat piece now s = ended_read s.seat _ s.hub
refused_read (no_such_call id) seat piece now s = ended_read s.seat _ s.hub
refused_read wrong_kind seat piece now s = ended_read s.seat _ s.hub

-- so few bytes are left where a turn asks for another one
abbrev LeavesFew : ℕ → ℕ → List ℕ → ℕ → Session → Type 0
LeavesFew n epoch piece now x = turn_refusal epoch piece now x ≡ None → (turn_answer epoch piece now x).again ≡ true → length (turn epoch piece now x).peer.endpoint.unread < 13 * n + 13

made_read : (c : Option Cause) (again : Bool) (n : ℕ) (seat : Seat) (piece : List ℕ) (now : ℕ) (x : Session) (s : Serving) → s.seat ≡ Some seat
    → s.hub.session seat.key ≡ Some (turn seat.epoch piece now x) → again ≡ (turn_answer seat.epoch piece now x).again → turn_refusal seat.epoch piece now x ≡ None
    → LeavesFew n seat.epoch piece now x → TurnRead n seat (turn_ended c again seat now s)
made_read None again n seat piece now x s is there same admits few = record {
  idle = λ none.
      subst (λ (o : Option Seat). ReadAt o s.end s.hub) (sym is)
      (λ going y found. subst (λ (z : Session). is_ready z.peer.endpoint ≡ false) (is_that (turn seat.epoch piece now x) y (sym there ∙ found)) (turn_idle seat.epoch piece now x (sym same ∙ none)));
  more = λ yes. record {
    session = turn seat.epoch piece now x;
    there = there;
    least = due_left seat.epoch piece now x (sym same ∙ yes);
    most = few admits (sym same ∙ yes);
    seat_is = is;
  };
}
made_read (Some cause) again n seat piece now x s is there same admits few = record { idle = λ none. tt; more = λ yes. cc }

turn_read : (n : ℕ) (seat : Seat) (piece : List ℕ) (now : ℕ) (s : Serving) → s.seat ≡ Some seat
    → ((x : Session) → s.hub.session seat.key ≡ Some x → LeavesFew n seat.epoch piece now x) → TurnRead n seat (turned seat piece now s)
unfolding turned
turn_read n seat piece now s is few = here (s.hub.session seat.key) refl
  where
    by : (x : Session) (r : Option Refusal) → s.hub.session seat.key ≡ Some x → turn_refusal seat.epoch piece now x ≡ r
        → TurnRead n seat (turn_by r (turn_answer seat.epoch piece now x) seat piece now s)
    by x (Some r) there refuses = stops_read n seat _ (refused_read r seat piece now s)
    by x None there admits =
        made_read (turn_answer seat.epoch piece now x).ended (turn_answer seat.epoch piece now x).again n seat piece now x
        (writes (turn_answer seat.epoch piece now x).out (does (Turn seat piece now) s)) is (turn_there seat piece now s.hub x there) refl admits (few x there)

    here : (o : Option Session) → s.hub.session seat.key ≡ o → TurnRead n seat (turn_in o seat piece now s)
    here None there = stops_read n seat s (subst (λ (o : Option Seat). ReadAt o s.end s.hub) (sym is) (λ going x found. none_some x (sym there ∙ found)))
    here (Some x) there = by x (turn_refusal seat.epoch piece now x) there refl

-- a turn with nothing takes a frame off
next_few : (n : ℕ) (seat : Seat) (now : ℕ) (s : Serving) → IsWithin (suc n) seat s → (x : Session) → s.hub.session seat.key ≡ Some x → LeavesFew n seat.epoch [] now x
next_few n seat now s within x there admits again =
    let same : within.session ≡ x = is_that within.session x (sym within.there ∙ there) in
    let most : length x.peer.endpoint.unread < 13 * suc n + 13 = subst (λ (z : Session). length z.peer.endpoint.unread < 13 * suc n + 13) same within.most in
    omega (arith, most, due_fewer seat.epoch [] now x admits again)

one_more : (n : ℕ) (seat : Seat) (now : ℕ) (t : Turned) → TurnRead (suc n) seat t → (rest : Serving) → (TurnRead n seat (turned seat [] now t.after) → IsRead rest) → IsRead (cond t.again rest t.after)
one_more n seat now t read rest goes = here t.again refl
  where
    here : (b : Bool) → t.again ≡ b → IsRead (cond b rest t.after)
    here false is = read.idle is
    here true is = let w = read.more is in goes (turn_read n seat [] now t.after w.seat_is (next_few n seat now t.after w))

again_read : (n : ℕ) (seat : Seat) (now : ℕ) (t : Turned) → TurnRead n seat t → IsRead (turned_again n seat now t)
unfolding turned_again
again_read zero seat now t read = here t.again refl
  where
    here : (b : Bool) → t.again ≡ b → IsRead t.after
    here false is = read.idle is
    here true is = let w = read.more is in absurd (omega (arith, w.least, w.most))
again_read (suc n) seat now t read =
    one_more n seat now t read (turned_again n seat now (turned seat [] now t.after)) (again_read n seat now (turned seat [] now t.after))

served_read : (n : ℕ) (seat : Seat) (piece : List ℕ) (now : ℕ) (s : Serving) → s.seat ≡ Some seat
    → ((x : Session) → s.hub.session seat.key ≡ Some x → LeavesFew n seat.epoch piece now x) → IsRead (served n seat piece now s)
unfolding served
served_read n seat piece now s is few = again_read n seat now (turned seat piece now s) (turn_read n seat piece now s is few)

enough : (bytes : List ℕ) (n : ℕ) → n ≤ length bytes → n < 13 * turns_for bytes + 13
enough bytes n less = let whole : length bytes < length bytes / 13 * 13 + 13 = lt-div-mul-add (omega arith) in omega (arith, less, whole)

-- a piece, where no turn was due
piece_few : (seat : Seat) (piece : List ℕ) (now : ℕ) (s : Serving) → IdleAt seat s.hub → (x : Session) → s.hub.session seat.key ≡ Some x → LeavesFew (turns_for piece) seat.epoch piece now x
piece_few seat piece now s idle x there admits again = enough piece _ (first_left seat.epoch piece now x (idle x there) admits again)

-- the chunk of a link that begins
chunk_few : (seat : Seat) (chunk : List ℕ) (now : ℕ) (s : Serving) (x : Session) → s.hub.session seat.key ≡ Some x → IsRunning x → attach_refusal seat.epoch x ≡ None
    → (y : Session) → (does (Attach seat chunk now) s).hub.session seat.key ≡ Some y → LeavesFew (turns_for chunk) seat.epoch [] now y
chunk_few seat chunk now s x there runs admits y found admitted again =
    let same : attach seat.epoch chunk now x ≡ y = is_that (attach seat.epoch chunk now x) y (sym (attach_there seat chunk now s.hub x there) ∙ found) in
    let unread : y.peer.endpoint.unread ≡ chunk = ap (λ (z : Session). z.peer.endpoint.unread) (sym same) ∙ attach_unread seat.epoch chunk now x runs admits in
    enough chunk _ (omega (arith, ap length unread, due_fewer seat.epoch [] now y admitted again))

-- ---- requests

attached_read : (seat : Seat) (chunk : List ℕ) (now : ℕ) (s : Serving) → s.seat ≡ Some seat → ((x : Session) → s.hub.session seat.key ≡ Some x → IsRunning x) → IsRead (attached seat chunk now s)
unfolding attached
attached_read seat chunk now s is runs = here (s.hub.session seat.key) refl
  where
    by : (x : Session) (r : Option Refusal) → s.hub.session seat.key ≡ Some x → attach_refusal seat.epoch x ≡ r → IsRead (attached_by r seat chunk now s)
    by x (Some r) there refuses = ended_read s.seat _ s.hub
    by x None there admits = served_read (turns_for chunk) seat [] now (does (Attach seat chunk now) s) is (chunk_few seat chunk now s x there (runs x there) admits)

    here : (o : Option Session) → s.hub.session seat.key ≡ o → IsRead (attached_in o seat chunk now s)
    here None there = subst (λ (o : Option Seat). ReadAt o s.end s.hub) (sym is) (λ going x found. none_some x (sym there ∙ found))
    here (Some x) there = by x (attach_refusal seat.epoch x) there refl

asked_read : (request : Request) (place : ℕ) (chunk : List ℕ) (now : ℕ) (s : Serving) → HubRuns s.hub → IsRead (asked request place chunk now s)
unfolding asked
asked_read request place chunk now s runs = by (admission_refusal s.hub.registry request now)
  where
    by : (r : Option Reason) → IsRead (asked_by r (seat_for s.hub.registry request) place chunk now (does (Admit request now) s))
    by (Some reason) = ended_read s.seat _ _
    by None =
        attached_read (seat_for s.hub.registry request) chunk now _ refl
        (λ x there. admit_runs request now s.hub runs (seat_for s.hub.registry request).key x there)

-- ---- the whole link

unseated_read : (s : Serving) → s.seat ≡ None → IsRead s
unseated_read s is = subst (λ (o : Option Seat). ReadAt o s.end s.hub) (sym is) tt

opening_read : (stage : Stage) (text : List ℕ) (now : ℕ) (s : Serving) → s.seat ≡ None → HubRuns s.hub → IsRead (opening_by stage text now s)
opening_read Heading text now s is runs = unseated_read s is
opening_read (Shaking shake) text now s is runs = unseated_read s is
opening_read (Asked request place) text now s is runs = asked_read request place (drop place text) now s runs
opening_read (Over end) text now s is runs = unseated_read (record s { end = opening_end end }) is

piece_read : (grounds : Grounds) (head : Head Upgrade HeadFault) (before : List ℕ) (piece : Piece) (s : Serving) → Sound s → IsRead s → IsRead (piece_done grounds head before piece s)
unfolding piece_done
piece_read grounds head before piece s sound read = here s.end s.seat refl refl
  where
    here : (end : Option End) (seat : Option Seat) → s.end ≡ end → s.seat ≡ seat → IsRead (piece_by end seat grounds (with_piece head before piece.bytes) head piece s)
    here (Some end) seat is at = read
    here None (Some seat) is at =
        served_read (turns_for piece.bytes) seat piece.bytes piece.now s at
        (piece_few seat piece.bytes piece.now s (subst (λ (o : Option Seat). ReadAt o s.end s.hub) at read is))
    here None None is at =
        opening_read (opened grounds head (with_piece head before piece.bytes)).stage (with_piece head before piece.bytes) piece.now _ at
        (subst (λ (o : Option Seat). SeatSound o s.end s.hub) at sound.seated is)

run_read : (grounds : Grounds) (head : Head Upgrade HeadFault) (text : List ℕ) (pieces : List Piece) (s : Serving) → Sound s → IsRead s → IsRead (link_run grounds head text pieces s)
run_read grounds head text [] s sound read = read
run_read grounds head text (piece ∷ pieces) s sound read =
    run_read grounds head (with_piece head text piece.bytes) pieces (piece_done grounds head text piece s) (piece_sound grounds head text piece s sound) (piece_read grounds head text piece s sound read)

pub all_read : (grounds : Grounds) (head : Head Upgrade HeadFault) (text : List ℕ) (pieces : List Piece) (h : Hub) (jobs : List SeenJob) (seat : Seat) (x : Session)
    → HubRuns h → (link_run grounds head text pieces (new_serving h jobs)).seat ≡ Some seat → (link_run grounds head text pieces (new_serving h jobs)).end ≡ None
    → (link_run grounds head text pieces (new_serving h jobs)).hub.session seat.key ≡ Some x → is_ready x.peer.endpoint ≡ false
all_read grounds head text pieces h jobs seat x runs seated going there =
    let s = link_run grounds head text pieces (new_serving h jobs) in
    let read : IsRead s = run_read grounds head text pieces (new_serving h jobs) (new_sound h jobs runs) tt in
    subst (λ (o : Option Seat). ReadAt o s.end s.hub) seated read going x there
