-- The session of a client takes nothing back, whatever its dialer does.
use Rattle.std.proofs.Common.{ℕ, ◌+◌, ◌-◌, Bool, true, false, cond, Option, Some, None, List, [], ◌∷◌, ◌++◌}
use Rattle.std.specs.Prelude.{nat_le}
use Rattle.ra_base.specs.declared.key.Cause.{Cause}
use Rattle.ra_model.specs.Pairs.{IsLater}
use Rattle.ra_model.proofs.Later.{later_refl, later_trans}
use Rattle.ra_session.specs.Moments.{timeout_of}
use Rattle.ra_session.specs.SessionCalls.{tick_session}
use Rattle.ra_session.specs.SessionRefusals.{Refusal, ended, stale, no_link, too_long, bad_ipc, too_large, ids_spent, no_such_call, wrong_kind, attach_refusal, feed_refusal, tick_refusal, leave_refusal}
use Rattle.ra_session.specs.Sessions.{Session}
use Rattle.ra_session.specs.TurnRefusals.{turn_refusal}
use Rattle.ra_session.specs.Turns.{TurnAnswer, turn, turn_answer}
use Rattle.ra_views.specs.SessionViews.{SessionOnlyGrows}
use Rattle.ra_views.proofs.SessionsRise.{rises_tick, rises_lose, rises_attach, rises_feed, rises_turn, rises_out, rises_leave}
use Rattle.ra_dial.specs.declared.stage.Stage.{Stage}
use Rattle.ra_dial.specs.declared.stage.Stage.TheVariants as stages
use Rattle.ra_dial.specs.declared.values.DialEvent.{DialEvent}
use Rattle.ra_dial.specs.declared.values.DialEvent.TheVariants as events
use Rattle.ra_dial.specs.declared.values.DialEnd.TheVariants as dial_ends
use Rattle.ra_dial.specs.Attempts.{Step, finishes, fails, waits_until, waits_since, begins, patience}
use Rattle.ra_dial.specs.Dialers.{Dialer, epoch}
use Rattle.ra_dial.specs.Handshakes.{Head, Look, is_open, goes_on, fails as spoils, refuses, accepts, looked_at, taken_by}
use Rattle.ra_dial.specs.Links.{loses, attaches, attaches_unless, next_epoch, after_look, shakes, feeds_attached, feeds_unless, after_turn, refused_turn, after_refusal, turns_unless, turns, ticks_unless, ticks, leaves_unless, leaves}
use Rattle.ra_dial.specs.ShakingStates.{ShakingState}
use Rattle.ra_dial.specs.Table.{step, on_event, by_event, on_tick, on_linked, on_no_link, on_piece, on_frame, on_link_lost, on_stop, is_late, unless_over, session_after, draws_by}
use Rattle.ra_grand_runs.specs.Draws.{draws_after}
use Rattle.ra_grand_runs.specs.GrandClients.{Client, sends, dials, dialled, fresh_link, linked, asked}
use Rattle.ra_grand_runs.specs.SetUps.{answer_at}

-- what a step leaves of the dialer's session
abbrev Later : Dialer → Step → Type 0
Later d s = IsLater d.session.peer s.1.session.peer

later_if : (d : Dialer) (b : Bool) (s t : Step) → Later d s → Later d t → Later d (cond b s t)
later_if d true s t so other = so
later_if d false s t so other = other

later_fails : (drops : Bool) (now : ℕ) (d : Dialer) → Later d (fails drops now d)
unfolding fails
later_fails drops now d = later_refl d.session.peer

later_loses : (drops : Bool) (now : ℕ) (d : Dialer) → Later d (loses drops now d)
unfolding loses
later_loses drops now d = rises_lose (epoch d) d.session

-- ---- time

later_until : (until now : ℕ) (d : Dialer) → Later d (waits_until until now d)
unfolding waits_until
later_until until now d = later_if d (nat_le until now) _ _ (later_refl d.session.peer) (later_refl d.session.peer)

later_since : (drops : Bool) (since now : ℕ) (d : Dialer) → Later d (waits_since drops since now d)
unfolding waits_since
later_since drops since now d = later_if d (nat_le patience (now - since)) (fails drops now d) _ (later_fails drops now d) (later_refl d.session.peer)

later_ticked : (refusal : Option Refusal) (now : ℕ) (d : Dialer) → Later d (ticks_unless refusal now d)
later_ticked (Some refusal) now d = later_refl d.session.peer
later_ticked None now d =
    let t : Dialer = record d { session = tick_session now d.session } in
    later_if d (timeout_of now d.session) (loses true now t) _
    (later_trans d.session.peer t.session.peer (loses true now t).1.session.peer (rises_tick now d.session) (later_loses true now t)) (rises_tick now d.session)

later_ticks : (now : ℕ) (d : Dialer) → Later d (ticks now d)
unfolding ticks
later_ticks now d = later_ticked (tick_refusal now d.session) now d

later_tick : (stage : Stage) (now : ℕ) (d : Dialer) → Later d (on_tick stage now d)
later_tick (stages.Resting until) now d = later_until until now d
later_tick (stages.Calling since) now d = later_since false since now d
later_tick (stages.Shaking since s) now d = later_since true since now d
later_tick stages.Attached now d = later_ticks now d
later_tick (stages.Over end) now d = later_refl d.session.peer

-- ---- a handshake

later_attached : (refusal : Option Refusal) (chunk : List ℕ) (now : ℕ) (d : Dialer) → Later d (attaches_unless refusal chunk now d)
later_attached None chunk now d = rises_attach (next_epoch (epoch d)) chunk now d.session
later_attached (Some refusal) chunk now d = later_fails true now d

later_look : (since : ℕ) (look : Look) (s : ShakingState) (now : ℕ) (d : Dialer) → Later d (after_look since look s now d)
unfolding attaches
later_look since is_open s now d = later_refl d.session.peer
later_look since (goes_on written) s now d = later_refl d.session.peer
later_look since spoils s now d = later_fails true now d
later_look since (refuses reason) s now d = later_refl d.session.peer
later_look since (accepts chunk) s now d = later_attached (attach_refusal (next_epoch (epoch d)) d.session) chunk now d

later_shakes : (since : ℕ) (s : ShakingState) (head : Head) (now : ℕ) (d : Dialer) → Later d (shakes since s head now d)
unfolding shakes
later_shakes since s head now d =
    let looked = looked_at d.settings head s in later_look since looked.0 looked.1 now (record d { read = d.read + taken_by s looked.1 })

-- ---- a turn

later_answered : (cause : Option Cause) (answer : TurnAnswer) (d : Dialer) → Later d (after_turn answer cause d)
later_answered None answer d = later_refl d.session.peer
later_answered (Some cause) answer d = later_refl d.session.peer

later_refused : (refusal : Refusal) (now : ℕ) (d : Dialer) → Later d (after_refusal refusal now (refused_turn refusal now d))
later_refused (bad_ipc bad message) now d = rises_turn (epoch d) [] now d.session
later_refused (ended cause) now d = later_refl d.session.peer
later_refused (stale current) now d = later_refl d.session.peer
later_refused no_link now d = later_refl d.session.peer
later_refused (too_long stated) now d = later_loses true now d
later_refused (too_large len) now d = later_refl d.session.peer
later_refused ids_spent now d = later_refl d.session.peer
later_refused (no_such_call id) now d = later_refl d.session.peer
later_refused wrong_kind now d = later_refl d.session.peer

later_turned : (refusal : Option Refusal) (now : ℕ) (d : Dialer) → Later d (turns_unless refusal now d)
later_turned None now d =
    let answer = turn_answer (epoch d) [] now d.session in
    let t : Dialer = record d { pending = d.pending ++ answer.out; session = turn (epoch d) [] now d.session } in
    later_trans d.session.peer t.session.peer (after_turn answer answer.ended t).1.session.peer (rises_turn (epoch d) [] now d.session) (later_answered answer.ended answer t)
later_turned (Some refusal) now d = later_refused refusal now d

later_turns : (now : ℕ) (d : Dialer) → Later d (turns now d)
unfolding turns
later_turns now d = later_turned (turn_refusal (epoch d) [] now d.session) now d

-- ---- any event

later_linked : (stage : Stage) (draw : ℕ → List ℕ) (d : Dialer) → Later d (on_linked stage draw d)
unfolding begins
later_linked (stages.Resting until) draw d = later_refl d.session.peer
later_linked (stages.Calling since) draw d = later_refl d.session.peer
later_linked (stages.Shaking since s) draw d = later_refl d.session.peer
later_linked stages.Attached draw d = later_refl d.session.peer
later_linked (stages.Over end) draw d = later_refl d.session.peer

later_no_link : (stage : Stage) (now : ℕ) (d : Dialer) → Later d (on_no_link stage now d)
later_no_link (stages.Resting until) now d = later_refl d.session.peer
later_no_link (stages.Calling since) now d = later_fails false now d
later_no_link (stages.Shaking since s) now d = later_refl d.session.peer
later_no_link stages.Attached now d = later_refl d.session.peer
later_no_link (stages.Over end) now d = later_refl d.session.peer

later_fed : (refusal : Option Refusal) (piece : List ℕ) (now : ℕ) (d : Dialer) → Later d (feeds_unless refusal piece now d)
later_fed None piece now d = rises_feed (epoch d) piece now d.session
later_fed (Some refusal) piece now d = later_refl d.session.peer

later_piece : (stage : Stage) (piece : List ℕ) (now : ℕ) (d : Dialer) → Later d (on_piece stage piece now d)
unfolding feeds_attached
later_piece (stages.Resting until) piece now d = later_refl d.session.peer
later_piece (stages.Calling since) piece now d = later_refl d.session.peer
later_piece (stages.Shaking since s) piece now d = later_refl d.session.peer
later_piece stages.Attached piece now d = later_fed (feed_refusal (epoch d) d.session) piece now d
later_piece (stages.Over end) piece now d = later_refl d.session.peer

later_frame : (stage : Stage) (head : Head) (now : ℕ) (d : Dialer) → Later d (on_frame stage head now d)
later_frame (stages.Resting until) head now d = later_refl d.session.peer
later_frame (stages.Calling since) head now d = later_refl d.session.peer
later_frame (stages.Shaking since s) head now d = later_shakes since s head now d
later_frame stages.Attached head now d = later_turns now d
later_frame (stages.Over end) head now d = later_refl d.session.peer

later_lost : (stage : Stage) (now : ℕ) (d : Dialer) → Later d (on_link_lost stage now d)
later_lost (stages.Resting until) now d = later_refl d.session.peer
later_lost (stages.Calling since) now d = later_refl d.session.peer
later_lost (stages.Shaking since s) now d = later_fails false now d
later_lost stages.Attached now d = later_loses false now d
later_lost (stages.Over end) now d = later_refl d.session.peer

later_left : (refusal : Option Refusal) (d : Dialer) → Later d (leaves_unless refusal d)
later_left None d = rises_leave d.session
later_left (Some refusal) d = later_refl d.session.peer

later_stop : (stage : Stage) (d : Dialer) → Later d (on_stop stage d)
unfolding leaves
later_stop (stages.Resting until) d = later_refl d.session.peer
later_stop (stages.Calling since) d = later_refl d.session.peer
later_stop (stages.Shaking since s) d = later_refl d.session.peer
later_stop stages.Attached d = later_left (leave_refusal d.session) d
later_stop (stages.Over end) d = later_refl d.session.peer

later_event : (head : Head) (draw : ℕ → List ℕ) (event : DialEvent) (now : ℕ) (d : Dialer) → Later d (by_event head draw event now d)
later_event head draw events.Tick now d = later_tick d.stage now d
later_event head draw events.Linked now d = later_linked d.stage draw d
later_event head draw events.NoLink now d = later_no_link d.stage now d
later_event head draw (events.Piece piece) now d = later_piece d.stage piece now d
later_event head draw events.Frame now d = later_frame d.stage head now d
later_event head draw events.LinkLost now d = later_lost d.stage now d
later_event head draw events.Stop now d = later_stop d.stage d

later_on : (head : Head) (draw : ℕ → List ℕ) (event : DialEvent) (now : ℕ) (d : Dialer) → Later d (on_event head draw event now d)
unfolding on_event
later_on head draw event now d =
    later_if d (is_late event d.stage d.lost now) (finishes (dial_ends.GraceOver d.lost now) d) (by_event head draw event now d) (later_refl d.session.peer)
    (later_event head draw event now d)

later_unless : (stage : Stage) (s : Step) (d : Dialer) → Later d s → Later d (unless_over stage s d)
later_unless (stages.Resting until) s d later = later
later_unless (stages.Calling since) s d later = later
later_unless (stages.Shaking since t) s d later = later
later_unless stages.Attached s d later = later
later_unless (stages.Over end) s d later = later_refl d.session.peer

later_step : (head : Head) (draw : ℕ → List ℕ) (event : DialEvent) (now : ℕ) (d : Dialer) → Later d (step head draw event now d)
unfolding step
later_step head draw event now d = later_unless d.stage (on_event head draw event now d) d (later_on head draw event now d)

-- ---- a client

-- the client's session takes nothing back
abbrev pub ClientRises : Client → Client → Type 0
ClientRises c d = IsLater c.dialer.session.peer d.dialer.session.peer

later_shown : (stage : Stage) (s : Session) → IsLater s.peer (session_after stage s).peer
later_shown (stages.Resting until) s = later_refl s.peer
later_shown (stages.Calling since) s = later_refl s.peer
later_shown (stages.Shaking since t) s = later_refl s.peer
later_shown stages.Attached s = rises_out s
later_shown (stages.Over end) s = later_refl s.peer

rises_sends : (c : Client) → ClientRises c (sends c)
rises_sends c = later_shown c.dialer.stage c.dialer.session

pub rises_dialled : (event : DialEvent) (now : ℕ) (c : Client) → ClientRises c (dialled event now c)
unfolding dialled
rises_dialled event now c =
    let d : Client = record c { dialer = (dials event now c).1; drawn = c.drawn + draws_by event now c.dialer.stage c.dialer.lost } in
    later_trans c.dialer.session.peer d.dialer.session.peer (sends d).dialer.session.peer (later_step (answer_at c.dialer.stage) (draws_after c.drawn) event now c.dialer) (rises_sends d)

pub rises_linked : (now : ℕ) (c : Client) → ClientRises c (linked now c)
rises_linked now c = rises_dialled events.Linked now (record c { links = c.links ++ fresh_link c ∷ [] })

pub rises_asked : (call : Session → Session) (c : Client) → SessionOnlyGrows call → ClientRises c (asked call c)
unfolding asked
rises_asked call c grows =
    let d : Client = record c { dialer = record c.dialer { session = call c.dialer.session } } in
    later_trans c.dialer.session.peer d.dialer.session.peer (sends d).dialer.session.peer (grows c.dialer.session) (rises_sends d)
