-- The session of a dialer that is not over has not ended.
use Rattle.std.proofs.Common.{◌≡◌, ℕ, ◌+◌, ◌-◌, Bool, true, false, List, [], ◌∷◌, ◌++◌, Option, Some, None, refl, ap, sym, ◌∙◌}
use Rattle.std.proofs.lemmas.Bool.{cond_both, true≢false}
use Rattle.std.specs.Prelude.{nat_le}
use Rattle.std.specs.Option.{is_some}
use Rattle.ra_base.specs.declared.key.Cause.{Cause}
use Rattle.ra_base.specs.declared.kind.Kind.{Kind}
use Rattle.ra_base.specs.declared.kind.Kind.TheVariants.{Management, ExtensionHost, Tunnel}
use Rattle.ra_model.specs.declared.session.Up.{Up as Delivery}
use Rattle.ra_model.specs.declared.session.Up.TheVariants.{Message as HandedUp, Control, Quiet, Ended as Closed}
use Rattle.ra_model.specs.Endpoints.{Endpoint}
use Rattle.ra_model.specs.Events.{taken}
use Rattle.ra_model.specs.Refusals.{or_fault}
use Rattle.ra_model.specs.Taking.{delivery}
use Rattle.ra_values.specs.Tree.{Tree}
use Rattle.ra_session.specs.Sessions.{Session}
use Rattle.ra_session.specs.Saying.{opening}
use Rattle.ra_session.specs.Hearing.{Heard, spoils, hears}
use Rattle.ra_session.specs.SessionCalls as calls
use Rattle.ra_session.specs.SessionCalls.{attach, feed_session, take_out as take_out_session, lose_session, tick_session}
use Rattle.ra_session.specs.SessionRefusals.{Refusal, ended, stale, no_link, too_long, bad_ipc, too_large, ids_spent, no_such_call, wrong_kind, attach_refusal, feed_refusal, tick_refusal, leave_refusal}
use Rattle.ra_session.specs.Moments.{timeout_of}
use Rattle.ra_session.specs.Turns.{on_heard, heard_at, on_delivery, ended_by, take_in, take_turn, turn, taken_answer, turn_answer}
use Rattle.ra_session.specs.TurnRefusals.{if_too_long, heard_refusal, delivery_refusal, taken_refusal, turn_refusal}
use Rattle.ra_dial.specs.declared.values.DialEvent.{DialEvent}
use Rattle.ra_dial.specs.declared.values.DialEvent.TheVariants as events
use Rattle.ra_dial.specs.declared.stage.Stage.{Stage}
use Rattle.ra_dial.specs.declared.stage.Stage.TheVariants as stages
use Rattle.ra_dial.specs.ShakingStates.{ShakingState}
use Rattle.ra_dial.specs.Clients.{Settings}
use Rattle.ra_dial.specs.Dialers.{Dialer, epoch}
use Rattle.ra_dial.specs.DialerStates.{DialerState, StandsForDialer}
use Rattle.ra_dial.specs.Handshakes.{Head, Look, is_open, goes_on, fails as spoils_it, refuses, accepts, looked_at, taken_by}
use Rattle.ra_dial.specs.Attempts.{Step, patience, fails, waits_until, waits_since, begins}
use Rattle.ra_dial.specs.Links.{loses, next_epoch, attaches_unless, attaches, after_look, shakes, feeds_unless, feeds_attached, after_turn, refused_turn, after_refusal, turns_unless, turns, ticks_unless, ticks, leaves_unless, leaves}
use Rattle.ra_dial.specs.Table.{new_dialer, on_tick, on_linked, on_no_link, on_piece, on_frame, on_link_lost, on_stop, by_event, is_late, on_event, unless_over, step, session_after, without_next, without_rest}
use Rattle.ra_dial.specs.Runs.{Move, event, take_out, take_rest, call, listen, cancel, dispose, say, moved, after, is_over, HasSession}

abbrev IsGoing : Session → Type 0
IsGoing s = s.cause ≡ None

-- ---- sessions

-- an event with the table's answer
abbrev Going : Step → Type 0
Going step = HasSession step.1

-- a dialer that is over has nothing to show
done : {P : Type 0} → true ≡ false → P
done is = absurd (true≢false is)

going_attach : (n : ℕ) (chunk : List ℕ) (now : ℕ) (s : Session) → IsGoing s → IsGoing (attach n chunk now s)
unfolding attach
going_attach n chunk now s going = going

going_feed : (n : ℕ) (piece : List ℕ) (now : ℕ) (s : Session) → IsGoing s → IsGoing (feed_session n piece now s)
unfolding feed_session
going_feed n piece now s going = going

going_lose : (n : ℕ) (s : Session) → IsGoing s → IsGoing (lose_session n s)
unfolding lose_session
going_lose n s going = going

going_out : (s : Session) → IsGoing s → IsGoing (take_out_session s)
unfolding take_out_session
going_out s going = going

going_tick : (now : ℕ) (s : Session) → IsGoing s → IsGoing (tick_session now s)
unfolding tick_session
going_tick now s going = cond_both (is_some s.cause) s _ (λ (x : Session). IsGoing x) (λ yes. going) (λ no. going)

-- ---- a turn

second_none : {X : Type 0} (a b : Option X) → or_fault a b ≡ None → b ≡ None
second_none None b none = none
second_none (Some x) b none = cc

-- a message that is not refused leaves the cause
going_heard : (means : Heard) (body : List ℕ) (now : ℕ) (e : Endpoint) (s : Session) → heard_refusal means body e ≡ None → IsGoing s → IsGoing (on_heard means now s)
going_heard (spoils bad) body now e s admits going = cc
going_heard (hears h) body now e s admits going = going

-- where a frame that is not refused does not end the session, the session goes on. `t` is the session with the frame taken
going_delivery : (up : Option Delivery) (now : ℕ) (s t : Session) (e : Endpoint) → t ≡ record s { peer = t.peer } → delivery_refusal up now s e ≡ None → ended_by up ≡ None
    → IsGoing s → IsGoing (on_delivery up now t)
going_delivery None now s t e same admits none going = ap (λ (x : Session). x.cause) same ∙ going
going_delivery (Some (HandedUp id body)) now s t e same admits none going =
    let means : heard_at t id body now ≡ heard_at s id body now = ap (λ (x : Session). heard_at x id body now) same in
    going_heard (heard_at t id body now) body now e t (ap (λ (h : Heard). heard_refusal h body e) means ∙ admits) (ap (λ (x : Session). x.cause) same ∙ going)
going_delivery (Some (Control body)) now s t e same admits none going = ap (λ (x : Session). x.cause) same ∙ going
going_delivery (Some Quiet) now s t e same admits none going = ap (λ (x : Session). x.cause) same ∙ going
going_delivery (Some Closed) now s t e same admits none going = cc

going_taken : (now : ℕ) (s : Session) → taken_refusal now s ≡ None → (taken_answer now s).ended ≡ None → IsGoing s → IsGoing (take_turn now s)
unfolding taken_refusal taken_answer take_turn take_in take_out_session
going_taken now s admits none going =
    going_delivery (delivery s.peer.endpoint) now s (record s { peer = taken now s.peer }) s.peer.endpoint refl
    (second_none (if_too_long s.peer.endpoint) (delivery_refusal (delivery s.peer.endpoint) now s s.peer.endpoint) admits) none going

going_turn : (n : ℕ) (piece : List ℕ) (now : ℕ) (s : Session) → turn_refusal n piece now s ≡ None → (turn_answer n piece now s).ended ≡ None → IsGoing s
    → IsGoing (turn n piece now s)
unfolding turn_refusal turn_answer turn
going_turn n piece now s admits none going =
    going_taken now (feed_session n piece now s) (second_none (feed_refusal n s) (taken_refusal now (feed_session n piece now s)) admits) none
    (going_feed n piece now s going)

-- ---- the table's rows

fails_going : (drops : Bool) (now : ℕ) (d : Dialer) → IsGoing d.session → Going (fails drops now d)
unfolding fails
fails_going drops now d going = λ not_over. going

loses_going : (drops : Bool) (now : ℕ) (d : Dialer) → IsGoing d.session → Going (loses drops now d)
unfolding loses
loses_going drops now d going = λ not_over. going_lose (epoch d) d.session going

until_going : (until now : ℕ) (d : Dialer) → IsGoing d.session → Going (waits_until until now d)
unfolding waits_until
until_going until now d going = cond_both (nat_le until now) _ _ (λ (s : Step). Going s) (λ yes not_over. going) (λ no not_over. going)

since_going : (drops : Bool) (since now : ℕ) (d : Dialer) → IsGoing d.session → Going (waits_since drops since now d)
unfolding waits_since
since_going drops since now d going = cond_both (nat_le patience (now - since)) _ _ (λ (s : Step). Going s) (λ yes. fails_going drops now d going) (λ no not_over. going)

begins_going : (since : ℕ) (key drawn : List ℕ) (d : Dialer) → IsGoing d.session → Going (begins since key drawn d)
unfolding begins
begins_going since key drawn d going = λ not_over. going

attaches_going : (refusal : Option Refusal) (chunk : List ℕ) (now : ℕ) (d : Dialer) → IsGoing d.session → Going (attaches_unless refusal chunk now d)
attaches_going None chunk now d going = λ not_over. going_attach (next_epoch (epoch d)) chunk now d.session going
attaches_going (Some refusal) chunk now d going = fails_going true now d going

look_going : (since : ℕ) (look : Look) (s : ShakingState) (now : ℕ) (d : Dialer) → IsGoing d.session → Going (after_look since look s now d)
unfolding attaches
look_going since is_open s now d going = λ not_over. going
look_going since (goes_on written) s now d going = λ not_over. going
look_going since spoils_it s now d going = fails_going true now d going
look_going since (refuses reason) s now d going = done
look_going since (accepts chunk) s now d going = attaches_going (attach_refusal (next_epoch (epoch d)) d.session) chunk now d going

shakes_going : (since : ℕ) (s : ShakingState) (head : Head) (now : ℕ) (d : Dialer) → IsGoing d.session → Going (shakes since s head now d)
unfolding shakes
shakes_going since s head now d going =
    let looked = looked_at d.settings head s in
    look_going since looked.0 looked.1 now (record d { read = d.read + taken_by s looked.1 }) going

feeds_going : (refusal : Option Refusal) (piece : List ℕ) (now : ℕ) (d : Dialer) → IsGoing d.session → Going (feeds_unless refusal piece now d)
feeds_going None piece now d going = λ not_over. going_feed (epoch d) piece now d.session going
feeds_going (Some refusal) piece now d going = λ not_over. going

refusal_going : (refusal : Refusal) (now : ℕ) (d : Dialer) → IsGoing d.session → Going (after_refusal refusal now (refused_turn refusal now d))
refusal_going (bad_ipc bad message) now d going = done
refusal_going (too_long n) now d going = loses_going true now d going
refusal_going ids_spent now d going = done
refusal_going (ended cause) now d going = λ not_over. going
refusal_going (stale current) now d going = λ not_over. going
refusal_going no_link now d going = λ not_over. going
refusal_going (too_large len) now d going = λ not_over. going
refusal_going (no_such_call id) now d going = λ not_over. going
refusal_going wrong_kind now d going = λ not_over. going

turned_going : (refusal : Option Refusal) (now : ℕ) (d : Dialer) → turn_refusal (epoch d) [] now d.session ≡ refusal → IsGoing d.session
    → Going (turns_unless refusal now d)
turned_going None now d is going = by_end (turn_answer (epoch d) [] now d.session).ended refl
  where
    by_end : (end : Option Cause) → (turn_answer (epoch d) [] now d.session).ended ≡ end
        → Going (after_turn (turn_answer (epoch d) [] now d.session) end
        (record d { pending = d.pending ++ (turn_answer (epoch d) [] now d.session).out; session = turn (epoch d) [] now d.session }))
    by_end None none = λ not_over. going_turn (epoch d) [] now d.session is none going
    by_end (Some cause) some = done
turned_going (Some refusal) now d is going = refusal_going refusal now d going

turns_going : (now : ℕ) (d : Dialer) → IsGoing d.session → Going (turns now d)
unfolding turns
turns_going now d going = turned_going (turn_refusal (epoch d) [] now d.session) now d refl going

ticked_going : (refusal : Option Refusal) (now : ℕ) (d : Dialer) → IsGoing d.session → Going (ticks_unless refusal now d)
ticked_going (Some refusal) now d going = done
ticked_going None now d going =
    let after_it : Dialer = record d { session = tick_session now d.session } in
    let going_after : IsGoing after_it.session = going_tick now d.session going in
    cond_both (timeout_of now d.session) _ _ (λ (s : Step). Going s) (λ yes. loses_going true now after_it going_after) (λ no not_over. going_after)

ticks_going : (now : ℕ) (d : Dialer) → IsGoing d.session → Going (ticks now d)
unfolding ticks
ticks_going now d going = ticked_going (tick_refusal now d.session) now d going

left_going : (refusal : Option Refusal) (d : Dialer) → Going (leaves_unless refusal d)
left_going None d = done
left_going (Some refusal) d = done

leaves_going : (d : Dialer) → Going (leaves d)
unfolding leaves
leaves_going d = left_going (leave_refusal d.session) d

-- ---- the events

tick_going : (stage : Stage) (now : ℕ) (d : Dialer) → IsGoing d.session → Going (on_tick stage now d)
tick_going (stages.Resting until) now d going = until_going until now d going
tick_going (stages.Calling since) now d going = since_going false since now d going
tick_going (stages.Shaking since s) now d going = since_going true since now d going
tick_going stages.Attached now d going = ticks_going now d going
tick_going (stages.Over end) now d going = λ not_over. going

linked_going : (stage : Stage) (draw : ℕ → List ℕ) (d : Dialer) → IsGoing d.session → Going (on_linked stage draw d)
linked_going (stages.Resting until) draw d going = λ not_over. going
linked_going (stages.Calling since) draw d going = begins_going since (draw 0) (draw 1) d going
linked_going (stages.Shaking since s) draw d going = λ not_over. going
linked_going stages.Attached draw d going = λ not_over. going
linked_going (stages.Over end) draw d going = λ not_over. going

no_link_going : (stage : Stage) (now : ℕ) (d : Dialer) → IsGoing d.session → Going (on_no_link stage now d)
no_link_going (stages.Resting until) now d going = λ not_over. going
no_link_going (stages.Calling since) now d going = fails_going false now d going
no_link_going (stages.Shaking since s) now d going = λ not_over. going
no_link_going stages.Attached now d going = λ not_over. going
no_link_going (stages.Over end) now d going = λ not_over. going

piece_going : (stage : Stage) (piece : List ℕ) (now : ℕ) (d : Dialer) → IsGoing d.session → Going (on_piece stage piece now d)
unfolding feeds_attached
piece_going (stages.Resting until) piece now d going = λ not_over. going
piece_going (stages.Calling since) piece now d going = λ not_over. going
piece_going (stages.Shaking since s) piece now d going = λ not_over. going
piece_going stages.Attached piece now d going = feeds_going (feed_refusal (epoch d) d.session) piece now d going
piece_going (stages.Over end) piece now d going = λ not_over. going

frame_going : (stage : Stage) (head : Head) (now : ℕ) (d : Dialer) → IsGoing d.session → Going (on_frame stage head now d)
frame_going (stages.Resting until) head now d going = λ not_over. going
frame_going (stages.Calling since) head now d going = λ not_over. going
frame_going (stages.Shaking since s) head now d going = shakes_going since s head now d going
frame_going stages.Attached head now d going = turns_going now d going
frame_going (stages.Over end) head now d going = λ not_over. going

lost_going : (stage : Stage) (now : ℕ) (d : Dialer) → IsGoing d.session → Going (on_link_lost stage now d)
lost_going (stages.Resting until) now d going = λ not_over. going
lost_going (stages.Calling since) now d going = λ not_over. going
lost_going (stages.Shaking since s) now d going = fails_going false now d going
lost_going stages.Attached now d going = loses_going false now d going
lost_going (stages.Over end) now d going = λ not_over. going

stop_going : (stage : Stage) (d : Dialer) → IsGoing d.session → Going (on_stop stage d)
stop_going (stages.Resting until) d going = done
stop_going (stages.Calling since) d going = done
stop_going (stages.Shaking since s) d going = done
stop_going stages.Attached d going = leaves_going d
stop_going (stages.Over end) d going = λ not_over. going

event_going : (head : Head) (draw : ℕ → List ℕ) (e : DialEvent) (now : ℕ) (d : Dialer) → IsGoing d.session → Going (by_event head draw e now d)
event_going head draw events.Tick now d going = tick_going d.stage now d going
event_going head draw events.Linked now d going = linked_going d.stage draw d going
event_going head draw events.NoLink now d going = no_link_going d.stage now d going
event_going head draw (events.Piece piece) now d going = piece_going d.stage piece now d going
event_going head draw events.Frame now d going = frame_going d.stage head now d going
event_going head draw events.LinkLost now d going = lost_going d.stage now d going
event_going head draw events.Stop now d going = stop_going d.stage d going

any_event_going : (head : Head) (draw : ℕ → List ℕ) (e : DialEvent) (now : ℕ) (d : Dialer) → IsGoing d.session → Going (on_event head draw e now d)
unfolding on_event
any_event_going head draw e now d going =
    cond_both (is_late e d.stage d.lost now) _ _ (λ (s : Step). Going s) (λ yes. done) (λ no. event_going head draw e now d going)

unless_going : (stage : Stage) (next : Step) (d : Dialer) → d.stage ≡ stage → (is_over stage ≡ false → Going next) → Going (unless_over stage next d)
unless_going (stages.Resting until) next d is going = going refl
unless_going (stages.Calling since) next d is going = going refl
unless_going (stages.Shaking since s) next d is going = going refl
unless_going stages.Attached next d is going = going refl
unless_going (stages.Over end) next d is going = λ not_over. absurd (true≢false (sym (ap is_over is) ∙ not_over))

step_going : (head : Head) (draw : ℕ → List ℕ) (e : DialEvent) (now : ℕ) (d : Dialer) → HasSession d → HasSession (step head draw e now d).1
unfolding step
step_going head draw e now d has =
    unless_going d.stage (on_event head draw e now d) d refl (λ not_over. any_event_going head draw e now d (has not_over))

-- ---- the calls beside the events

session_going : (stage : Stage) (s : Session) → IsGoing s → IsGoing (session_after stage s)
session_going (stages.Resting until) s going = going
session_going (stages.Calling since) s going = going
session_going (stages.Shaking since shaking) s going = going
session_going stages.Attached s going = going_out s going
session_going (stages.Over end) s going = going

out_going : (pending : List ℕ) (n : ℕ) (d : Dialer) → HasSession d → HasSession (without_next pending n d)
out_going [] n d has = λ not_over. session_going d.stage d.session (has not_over)
out_going (b ∷ bs) n d has = has

still_over : (stage : Stage) → is_over (without_rest stage) ≡ is_over stage
still_over (stages.Resting until) = refl
still_over (stages.Calling since) = refl
still_over (stages.Shaking since s) = refl
still_over stages.Attached = refl
still_over (stages.Over end) = refl

pub moved_going : (m : Move) (d : Dialer) → HasSession d → HasSession (moved m d)
unfolding calls.call calls.listen calls.cancel calls.dispose calls.say_body
moved_going (event head draw e now) d has = step_going head draw e now d has
moved_going (take_out n) d has = out_going d.pending n d has
moved_going take_rest d has = λ not_over. has (sym (still_over d.stage) ∙ not_over)
moved_going (call channel name arg now) d has = has
moved_going (listen channel name arg now) d has = has
moved_going (cancel id now) d has = has
moved_going (dispose id now) d has = has
moved_going (say body now) d has = has

opening_going : (kind : Kind) (context : Tree) (now : ℕ) (s : Session) → IsGoing s → IsGoing (opening kind context now s)
opening_going Management context now s going = going
opening_going ExtensionHost context now s going = going
opening_going Tunnel context now s going = going

pub new_going : (settings : Settings) (context : Tree) (now : ℕ) → HasSession (new_dialer settings context now)
new_going settings context now = λ not_over. opening_going settings.key.kind context now _ refl

after_going : (moves : List Move) (d : Dialer) → HasSession d → HasSession (after moves d)
after_going [] d has = has
after_going (m ∷ ms) d has = after_going ms (moved m d) (moved_going m d has)

pub always_going : (settings : Settings) (context : Tree) (now : ℕ) (moves : List Move) → HasSession (after moves (new_dialer settings context now))
always_going settings context now moves = after_going moves (new_dialer settings context now) (new_going settings context now)

-- the same of a dialer in memory
pub state_going : (h : DialerState) (d : Dialer) → StandsForDialer h d → HasSession d → is_over h.stage ≡ false → h.session.cause ≡ None
state_going h d stands has not_over =
    let stage_is : d.stage ≡ h.stage = ap (λ (x : Dialer). x.stage) stands.same in
    let cause_is : d.session.cause ≡ h.session.cause = ap (λ (x : Session). x.cause) stands.session.same in
    sym cause_is ∙ has (ap is_over stage_is ∙ not_over)
