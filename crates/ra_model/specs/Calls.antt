-- What a call of an endpoint changes. A call that does not apply changes nothing.
use Rattle.std.specs.Prelude.{ℕ, suc, ◌==◌, max, Bool, false, ◌&&◌, not, if◌then◌else◌, nat_le, nat_lt, Some, None, List, [], ◌∷◌, ◌++◌, length, map, take, drop}
use Rattle.ra_model.specs.declared.frame.Frame.{Frame}
use Rattle.ra_model.specs.declared.session.Phase.TheVariants.{Away, Joining, Up, Ended}
use Rattle.ra_model.specs.Frames.{joined, body_limit, last_id}
use Rattle.ra_model.specs.FrameKinds.{regular, control_frame, ack_frame, disconnect_frame, pause_frame, resume_frame, keep_alive_frame}
use Rattle.ra_model.specs.Endpoints.{Endpoint, SaidMessage, is_up, is_linked, is_ended, is_joining, sent, acknowledged_count, replay, oldest, waits, shown, owes_ack}
use Rattle.ra_model.specs.Timing.{watched, fires, timeout_served, acks, acknowledge_served, keep_alive_served, link_begun, link_up, alarms_cleared, is_due}

-- Steps that calls have in common

-- the moment of a call: the moments of one endpoint never fall
abbrev pub moment : ℕ → Endpoint → ℕ
moment now e = max now e.timing.latest

abbrev pub dated : ℕ → Endpoint → Endpoint
dated now e = record e { timing = record e.timing { latest = now } }

-- the frame, or nothing
abbrev pub when : Bool → Frame → List Frame
when b frame = if b then frame ∷ [] else []

-- frames are written
abbrev pub written : List Frame → Endpoint → Endpoint
written frames e = record e { unwritten = e.unwritten ++ joined frames }

abbrev pub written_at : ℕ → SaidMessage → SaidMessage
written_at now m = record m { written = Some now }

-- what was said, where all that is owed was written now
unfoldable pub rewritten : ℕ → Endpoint → List SaidMessage
rewritten now e = take (acknowledged_count e) e.said ++ map (written_at now) (drop (acknowledged_count e) e.said)

-- all that is owed is written again
abbrev pub replayed : ℕ → Endpoint → Endpoint
replayed now e = record e { said = rewritten now e; unwritten = e.unwritten ++ joined (replay e) }

-- the timeout is armed where a message waits
abbrev pub checked : ℕ → Endpoint → Endpoint
checked now e = record e { timing = watched (waits e) (oldest e) now e.timing }

-- the link is up
abbrev pub brought_up : ℕ → Endpoint → Endpoint
brought_up now e = checked now (record e { phase = Up; timing = link_up e.keeps_alive now e.timing })

-- Messages

abbrev pub can_say : List ℕ → Endpoint → Bool
can_say body e = not (is_ended e.phase) && (nat_le (length body) body_limit && nat_lt (sent e) last_id)

abbrev pub said_now : List ℕ → ℕ → Endpoint → Endpoint
said_now body now e =
    checked now (record e {
      said = e.said ++ record { body = body; ack = e.received; written = if is_up e.phase then Some now else None } ∷ [];
      told = e.received;
      unwritten = e.unwritten ++ joined (when (is_up e.phase) (regular (suc (sent e)) e.received body));
    })

-- a message is said, and written where the link is up
unfoldable pub say : List ℕ → ℕ → Endpoint → Endpoint
say body now e = if can_say body e then said_now body (moment now e) (dated (moment now e) e) else e

-- a control frame is written
unfoldable pub control : List ℕ → Endpoint → Endpoint
control body e = if is_linked e.phase && nat_le (length body) body_limit then written (control_frame body ∷ []) e else e

-- the peer is asked to write nothing
unfoldable pub ask_pause : Endpoint → Endpoint
ask_pause e = if is_linked e.phase then written (pause_frame ∷ []) e else e

-- the peer is asked to go on
unfoldable pub ask_resume : Endpoint → Endpoint
ask_resume e = if is_linked e.phase then written (resume_frame ∷ []) e else e

-- Links

abbrev pub can_begin : ℕ → Endpoint → Bool
can_begin epoch e = not (is_ended e.phase) && nat_lt e.epoch epoch

-- the new link, before anything is written on it. What was unread and unwritten is discarded
abbrev pub on_link : ℕ → List ℕ → ℕ → Endpoint → Endpoint
on_link epoch chunk now e =
    record e { phase = Joining; epoch = epoch; unread = chunk; unwritten = []; paused = false; timing = link_begun now e.timing }

-- a link begins, with the bytes that were read of it. The first is up at once
unfoldable pub begin : ℕ → List ℕ → ℕ → Endpoint → Endpoint
begin epoch chunk now e =
    let fresh = on_link epoch chunk (moment now e) e in
    if can_begin epoch e
    then (if e.epoch == 0 then brought_up (moment now e) (replayed (moment now e) fresh) else fresh)
    else e

abbrev pub acknowledging : Endpoint → Endpoint
acknowledging e = written (ack_frame e.received ∷ []) (record e { told = e.received })

-- the reconnection ends: an Ack is written, and all that is owed
unfoldable pub finish : ℕ → Endpoint → Endpoint
finish now e =
    if is_joining e.phase
    then brought_up (moment now e) (replayed (moment now e) (acknowledging (dated (moment now e) e)))
    else e

abbrev pub can_feed : ℕ → Endpoint → Bool
can_feed epoch e = is_linked e.phase && (epoch == e.epoch)

-- when bytes last came, once this piece has come
abbrev pub fed_after : List ℕ → ℕ → ℕ → ℕ
fed_after [] before now = before
fed_after (b ∷ bytes) before now = now

-- bytes come
unfoldable pub feed : ℕ → List ℕ → ℕ → Endpoint → Endpoint
feed epoch piece now e =
    if can_feed epoch e
    then record e {
      unread = e.unread ++ piece;
      timing = record e.timing { latest = moment now e; fed = fed_after piece e.timing.fed (moment now e) };
    }
    else e

-- n bytes were put on the link
unfoldable pub wrote : ℕ → Endpoint → Endpoint
wrote n e = if nat_le n (length (shown e)) then record e { unwritten = drop n e.unwritten } else e

-- the link is lost
unfoldable pub lose : ℕ → Endpoint → Endpoint
lose epoch e =
    if is_linked e.phase && (epoch == e.epoch)
    then record e { phase = Away; unread = []; unwritten = []; timing = alarms_cleared e.timing }
    else e

-- the session is left
unfoldable pub leave : Endpoint → Endpoint
leave e =
    if not (is_ended e.phase)
    then record e { phase = Ended; unwritten = e.unwritten ++ joined (when (is_linked e.phase) disconnect_frame) }
    else e

-- Ticks

abbrev pub writes_ack : ℕ → Endpoint → Bool
writes_ack now e = acks (owes_ack e) now e.timing

abbrev pub writes_keep_alive : ℕ → Endpoint → Bool
writes_keep_alive now e = is_due e.timing.keep_alive now

abbrev pub ticked : ℕ → Endpoint → Endpoint
ticked now e =
    record e {
      told = if writes_ack now e then e.received else if writes_keep_alive now e then e.received else e.told;
      unwritten = e.unwritten
          ++ joined (when (writes_ack now e) (ack_frame e.received) ++ when (writes_keep_alive now e) (keep_alive_frame e.received));
      timing = keep_alive_served now (timeout_served (waits e) (oldest e) now (acknowledge_served (owes_ack e) now e.timing));
    }

-- the alarms that are due are served: acknowledgement, timeout, keep-alive
unfoldable pub tick : ℕ → Endpoint → Endpoint
tick now e = if is_up e.phase then ticked (moment now e) (dated (moment now e) e) else e

-- this tick is a timeout: the peer is silent
unfoldable pub times_out : ℕ → Endpoint → Bool
times_out now e = is_up e.phase && fires (waits e) (oldest e) (moment now e) e.timing
