-- A dialer's first moments, its loss and its attached session, computed.
use Rattle.std.proofs.Common.{◌≡◌, ℕ, true, None, List, [], ◌∷◌, refl}
use Rattle.std.specs.Prelude.{codes, Ok, Err}
use Rattle.std.specs.Str.{is_utf8, chars}
use lib.Utf8.{encode}
use Rattle.ra_base.specs.declared.kind.Kind.TheVariants.{Management}
use Rattle.ra_base.specs.declared.key.Cause.TheVariants.{Disconnected}
use Rattle.ra_model.specs.Frames.{frame_bytes}
use Rattle.ra_model.specs.FirstFrame.{first_frame, split_frame, has_frame, number_at as frame_number, is_too_long}
use Rattle.ra_model.specs.FrameKinds.{written_frame}
use Rattle.ra_model.specs.Timing.{watched, timeout_served, acknowledge_served, keep_alive_served, message_heard, link_begun, link_up, alarms_cleared}
use Rattle.ra_model.specs.Endpoints.{owed}
use Rattle.ra_model.specs.Calls.{rewritten, say, control, ask_pause, ask_resume, begin, finish, feed, tick as tick_endpoint, times_out, lose, leave, wrote}
use Rattle.ra_model.specs.Taking.{take_frame, delivery}
use Rattle.ra_upgrade.specs.declared.answer_head.AnswerFault.TheVariants as answer_faults
use Rattle.ra_values.specs.Number.{number_at, later_at}
use Rattle.ra_values.specs.ReadValue.{prefixed_at, text_at, items_at, content_at, value_at}
use Rattle.ra_values.specs.Tree.{text}
use Rattle.ra_values.specs.ValueBytes.{number_bytes, value_bytes, items_bytes}
use Rattle.ra_ipc.specs.Messages.{initialize}
use Rattle.ra_ipc.specs.Packets.{message_bytes}
use Rattle.ra_ipc.specs.ReadMessage.{message_at, context_at, after_header}
use Rattle.ra_proto.specs.SayAll.{say_all}
use Rattle.ra_session.specs.Hearing.{heard}
use Rattle.ra_session.specs.SessionCalls.{attach, feed_session, take_out, lose_session, tick_session}
use Rattle.ra_session.specs.SessionRefusals.{feed_refusal, tick_refusal}
use Rattle.ra_session.specs.Turns.{take_in, take_turn, turn, taken_answer, turn_answer}
use Rattle.ra_session.specs.TurnRefusals.{taken_refusal, turn_refusal}
use Rattle.ra_dial.specs.declared.values.DialEnd.TheVariants as dial_ends
use Rattle.ra_dial.specs.declared.values.DialEvent.{DialEvent}
use Rattle.ra_dial.specs.declared.values.DialEvent.TheVariants as events
use Rattle.ra_dial.specs.declared.stage.Stage.TheVariants as stages
use Rattle.ra_dial.specs.Clients.{Settings}
use Rattle.ra_dial.specs.Handshakes.{Head}
use Rattle.ra_dial.specs.Dialers.{Dialer}
use Rattle.ra_dial.specs.Acts.{Act, nothing, quiet, rest_until, connect, drop_link, ends}
use Rattle.ra_dial.specs.Attempts.{fails, waits_until, waits_since, begins}
use Rattle.ra_dial.specs.Links.{loses, feeds_attached, turns, ticks, shakes}
use Rattle.ra_dial.specs.Table.{new_dialer, on_event, step}

abbrev settings : Settings
settings = record {
  shake = record { secret = None; commit = [] };
  sign_key = [];
  key = record { kind = Management; token = codes "t1" };
  host = codes "localhost";
  skip_frames = true;
}

-- the draws of a link
abbrev draw : ℕ → List ℕ
draw n = []

-- the acts at these events, where each answer that is looked at is this one
acts : Head → List (DialEvent × ℕ) → Dialer → List Act
acts head [] d = []
acts head (e ∷ es) d = let s = step head draw e.0 e.1 d in s.0 ∷ acts head es s.1

abbrev fresh : Dialer
fresh = new_dialer settings (text (codes "window")) 0

-- a first failure, and the wait after it
waits-row : acts (Ok None) ((events.Tick, 0) ∷ (events.NoLink, 100) ∷ (events.Tick, 5099) ∷ (events.Tick, 5100) ∷ []) fresh
    ≡ connect ∷ rest_until 5100 ∷ rest_until 5100 ∷ connect ∷ []
unfolding acts step on_event waits_until fails
waits-row = refl

-- a call and its handshake may take 30,000 milliseconds
hangs-row : acts (Ok None) ((events.Tick, 0) ∷ (events.Linked, 10) ∷ (events.Tick, 29999) ∷ (events.Tick, 30000) ∷ (events.Tick, 30000) ∷ []) fresh
    ≡ connect ∷ quiet ∷ rest_until 30000 ∷ drop_link ∷ rest_until 35000 ∷ []
unfolding acts step on_event waits_until waits_since begins fails
hangs-row = refl

calls-row : acts (Ok None) ((events.Tick, 0) ∷ (events.Tick, 29999) ∷ (events.Tick, 30000) ∷ []) fresh ≡ connect ∷ rest_until 30000 ∷ rest_until 35000 ∷ []
unfolding acts step on_event waits_until waits_since fails
calls-row = refl

-- an answer that is none makes the attempt fail
refused-head-row : acts (Err (answer_faults.Status 400)) ((events.Tick, 0) ∷ (events.Linked, 10) ∷ (events.Frame, 20) ∷ []) fresh ≡ connect ∷ quiet ∷ drop_link ∷ []
unfolding acts step on_event waits_until begins shakes fails
refused-head-row = refl

-- a dialer that was attached at moment 0
abbrev up : Dialer
up = record fresh { stage = stages.Attached; session = attach 1 [] 0 fresh.session }

lost-row : acts (Ok None) ((events.LinkLost, 10000) ∷ (events.Tick, 10000) ∷ (events.Tick, 10810000) ∷ (events.Tick, 10810001) ∷ []) up
    ≡ rest_until 10000 ∷ connect ∷ rest_until 10815000 ∷ ends (dial_ends.GraceOver 10000 10810001) ∷ []
unfolding acts step on_event loses waits_until waits_since fails
lost-row = refl

-- the server's Initialize, a tick, and a Disconnect
attached-row : acts (Ok None) ((events.Piece (frame_bytes (written_frame 1 1 1 (message_bytes initialize))), 5) ∷ (events.Frame, 5) ∷ (events.Frame, 5) ∷ (events.Tick, 10)
    ∷ (events.Piece (frame_bytes (written_frame 5 0 0 [])), 20) ∷ (events.Frame, 20) ∷ []) up
    ≡ nothing ∷ quiet ∷ nothing ∷ rest_until 510 ∷ nothing ∷ ends (dial_ends.Ended Disconnected) ∷ []
unfolding acts step on_event feeds_attached turns ticks turn_refusal taken_refusal tick_refusal feed_refusal frame_number is_utf8 chars encode number_bytes value_bytes items_bytes message_bytes message_at context_at after_header value_at content_at items_at text_at prefixed_at number_at later_at heard say_all attach feed_session take_out lose_session take_in take_turn turn taken_answer turn_answer tick_session frame_bytes first_frame is_too_long watched timeout_served acknowledge_served keep_alive_served message_heard link_begun link_up alarms_cleared owed rewritten say control ask_pause ask_resume begin finish feed take_frame delivery tick_endpoint times_out lose leave wrote split_frame has_frame written_frame
attached-row = refl
