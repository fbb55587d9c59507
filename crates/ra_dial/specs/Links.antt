-- A dialer on a link: what it does on its handshake's steps, and while its session is attached.
use Rattle.std.specs.Prelude.{ℕ, ◌+◌, ◌^◌, ◌-◌, min, Bool, true, List, [], ◌++◌, Option, Some, None, if◌then◌else◌}
use Rattle.ra_base.specs.declared.key.Cause.{Cause}
use Rattle.ra_base.specs.declared.key.Cause.TheVariants.{BadIpc}
use Rattle.ra_model.specs.Endpoints.{shown}
use Rattle.ra_model.specs.Calls.{leave}
use Rattle.ra_session.specs.Hearing.{Happening, work, host, call_settled, event_fired}
use Rattle.ra_session.specs.SessionCalls.{attach, feed_session, lose_session, leave_session, tick_session}
use Rattle.ra_session.specs.Moments.{timeout_of}
use Rattle.ra_session.specs.SessionRefusals.{Refusal, ended, stale, no_link, too_long, bad_ipc, too_large, ids_spent, no_such_call, wrong_kind, attach_refusal, feed_refusal, tick_refusal, leave_refusal}
use Rattle.ra_session.specs.TurnRefusals.{turn_refusal}
use Rattle.ra_session.specs.Turns.{TurnAnswer, turn, turn_answer}
use Rattle.ra_dial.specs.declared.values.DialEnd.TheVariants as dial_ends
use Rattle.ra_dial.specs.declared.stage.Stage.TheVariants as stages
use Rattle.ra_dial.specs.ShakingStates.{ShakingState}
use Rattle.ra_dial.specs.Handshakes.{Head, Look, is_open, goes_on, fails as spoils, refuses, accepts, looked_at, taken_by, fed}
use Rattle.ra_dial.specs.Dialers.{Dialer, epoch}
use Rattle.ra_dial.specs.Acts.{Act, nothing, quiet, rest_until, happened}
use Rattle.ra_dial.specs.Attempts.{Step, finishes, rest_or_drop, fails}

-- how often an attached session is ticked
abbrev pub tick_span : ℕ
tick_span = 500

-- ---- a link is lost

-- the link of an attached session is lost, and what was to be written goes with it
unfoldable pub loses : Bool → ℕ → Dialer → Step
loses drops now d = (
  rest_or_drop drops now,
  record d { stage = stages.Resting now; attempt = 0; lost = now; pending = []; session = lose_session (epoch d) d.session },
)

-- ---- a handshake's steps

abbrev pub next_epoch : ℕ → ℕ
next_epoch n = min (n + 1) (2 ^ 64 - 1)

-- A session that can't be attached, since no number is left for its link, makes the attempt fail.
abbrev pub attaches_unless : Option Refusal → List ℕ → ℕ → Dialer → Step
attaches_unless None chunk now d =
    (quiet, record d { stage = stages.Attached; attempt = 0; session = attach (next_epoch (epoch d)) chunk now d.session })
attaches_unless (Some refusal) chunk now d = fails true now d

unfoldable pub attaches : List ℕ → ℕ → Dialer → Step
attaches chunk now d = attaches_unless (attach_refusal (next_epoch (epoch d)) d.session) chunk now d

abbrev pub after_look : ℕ → Look → ShakingState → ℕ → Dialer → Step
after_look since is_open s now d = (nothing, d)
after_look since (goes_on written) s now d = (quiet, record d { stage = stages.Shaking since s; pending = d.pending ++ written })
after_look since spoils s now d = fails true now d
after_look since (refuses reason) s now d = finishes (dial_ends.Permanent reason) d
after_look since (accepts chunk) s now d = attaches chunk now d

-- a head or a frame of a handshake is looked at
unfoldable pub shakes : ℕ → ShakingState → Head → ℕ → Dialer → Step
shakes since s head now d =
    let looked = looked_at d.settings head s in
    after_look since looked.0 looked.1 now (record d { read = d.read + taken_by s looked.1 })

abbrev pub feeds_shaking : ℕ → ShakingState → List ℕ → Dialer → Step
feeds_shaking since s piece d = (nothing, record d { stage = stages.Shaking since (fed piece s) })

-- ---- an attached session

abbrev pub feeds_unless : Option Refusal → List ℕ → ℕ → Dialer → Step
feeds_unless None piece now d = (nothing, record d { session = feed_session (epoch d) piece now d.session })
feeds_unless (Some refusal) piece now d = (nothing, d)

unfoldable pub feeds_attached : List ℕ → ℕ → Dialer → Step
feeds_attached piece now d = feeds_unless (feed_refusal (epoch d) d.session) piece now d

-- A call by the peer is never answered but for the wait for its channel: no channel is served here.
abbrev pub act_after : Bool → Option Happening → Act
act_after took None = if took then quiet else nothing
act_after took (Some (work call)) = quiet
act_after took (Some (host body)) = happened (host body)
act_after took (Some (call_settled id outcome)) = happened (call_settled id outcome)
act_after took (Some (event_fired id body)) = happened (event_fired id body)

-- what a turn put out is to be written, and it may have ended the session
abbrev pub after_turn : TurnAnswer → Option Cause → Dialer → Step
after_turn answer None d = (act_after answer.took answer.happening, d)
after_turn answer (Some cause) d = finishes (dial_ends.Ended cause) d

-- a bad message was heard; any other refusal leaves the session as it was
abbrev pub refused_turn : Refusal → ℕ → Dialer → Dialer
refused_turn (bad_ipc bad message) now d = record d { session = turn (epoch d) [] now d.session }
refused_turn (ended cause) now d = d
refused_turn (stale current) now d = d
refused_turn no_link now d = d
refused_turn (too_long stated) now d = d
refused_turn (too_large len) now d = d
refused_turn ids_spent now d = d
refused_turn (no_such_call id) now d = d
refused_turn wrong_kind now d = d

-- a header that states too long a body counts as a loss
abbrev pub after_refusal : Refusal → ℕ → Dialer → Step
after_refusal (bad_ipc bad message) now d = finishes (dial_ends.Ended BadIpc) d
after_refusal (too_long stated) now d = loses true now d
after_refusal ids_spent now d = finishes dial_ends.IdsSpent d
after_refusal (ended cause) now d = (nothing, d)
after_refusal (stale current) now d = (nothing, d)
after_refusal no_link now d = (nothing, d)
after_refusal (too_large len) now d = (nothing, d)
after_refusal (no_such_call id) now d = (nothing, d)
after_refusal wrong_kind now d = (nothing, d)

abbrev pub turns_unless : Option Refusal → ℕ → Dialer → Step
turns_unless None now d =
    let answer = turn_answer (epoch d) [] now d.session in
    after_turn answer answer.ended (record d { pending = d.pending ++ answer.out; session = turn (epoch d) [] now d.session })
turns_unless (Some refusal) now d = after_refusal refusal now (refused_turn refusal now d)

-- one frame of an attached session
unfoldable pub turns : ℕ → Dialer → Step
turns now d = turns_unless (turn_refusal (epoch d) [] now d.session) now d

-- a silent peer counts as a loss
abbrev pub after_tick : Bool → ℕ → Dialer → Step
after_tick times_out now d = if times_out then loses true now d else (rest_until (now + tick_span), d)

abbrev pub ticks_unless : Option Refusal → ℕ → Dialer → Step
ticks_unless (Some refusal) now d = finishes dial_ends.IdsSpent d
ticks_unless None now d = after_tick (timeout_of now d.session) now (record d { session = tick_session now d.session })

unfoldable pub ticks : ℕ → Dialer → Step
ticks now d = ticks_unless (tick_refusal now d.session) now d

abbrev pub leaves_unless : Option Refusal → Dialer → Step
leaves_unless None d = finishes dial_ends.Stopped (record d { pending = d.pending ++ shown (leave d.session.peer.endpoint); session = leave_session d.session })
leaves_unless (Some refusal) d = finishes dial_ends.Stopped d

-- the session leaves, and what it writes is still handed out
unfoldable pub leaves : Dialer → Step
leaves d = leaves_unless (leave_refusal d.session) d
