-- A window's session, computed at both ends.
use Rattle.std.proofs.Common.{◌≡◌, ℕ, zero, suc, true, false, Some, None, List, [], ◌∷◌, ◌++◌, drop, refl, map}
use Rattle.std.specs.Prelude.{codes}
use Rattle.std.specs.Str.{is_utf8, chars}
use lib.Utf8.{encode}
use Rattle.ra_base.specs.declared.kind.Kind.TheVariants.{Management}
use Rattle.ra_model.specs.Frames.{frame_bytes}
use Rattle.ra_model.specs.FirstFrame.{first_frame, split_frame, has_frame, number_at as frame_number, is_too_long}
use Rattle.ra_model.specs.FrameKinds.{written_frame}
use Rattle.ra_model.specs.Timing.{watched, timeout_served, acknowledge_served, keep_alive_served, message_heard, link_begun, link_up, alarms_cleared}
use Rattle.ra_model.specs.Endpoints.{SaidMessage, owed, shown}
use Rattle.ra_model.specs.Calls.{rewritten, say, control, ask_pause, ask_resume, begin, finish, feed, tick, times_out, lose, leave, wrote}
use Rattle.ra_model.specs.Taking.{take_frame, delivery}
use Rattle.ra_values.specs.Number.{number_at, later_at}
use Rattle.ra_values.specs.ReadValue.{prefixed_at, text_at, items_at, content_at, value_at}
use Rattle.ra_values.specs.Tree.{Tree, undefined, text, int}
use Rattle.ra_values.specs.ValueBytes.{number_bytes, value_bytes, items_bytes}
use Rattle.ra_ipc.specs.Messages.{success, promise, promise_cancel, event_listen, response}
use Rattle.ra_ipc.specs.Packets.{message_bytes}
use Rattle.ra_ipc.specs.ReadMessage.{message_at, context_at, after_header}
use Rattle.ra_ipc.specs.ChannelClients.{new_client}
use Rattle.ra_ipc.specs.ChannelPairs.{answered}
use Rattle.ra_ipc.specs.declared.fault.PacketFault.TheVariants as faults
use Rattle.ra_session.specs.Sessions.{Session}
use Rattle.ra_proto.specs.SayAll.{say_all}
use Rattle.ra_session.specs.Saying.{serving, dialling}
use Rattle.ra_session.specs.Hearing.{work, call_settled, event_fired, unreadable, active, heard}
use Rattle.ra_session.specs.SessionCalls.{attach, feed_session, take_out, lose_session, answer, call, listen, cancel, dispose, tick_session}
use Rattle.ra_session.specs.Turns.{take_in, take_turn, turn, taken_answer, turn_answer, heard_at, happening_in}
use Rattle.ra_session.specs.SessionRefusals.{stale, no_such_call, wrong_kind, bad_ipc, ids_spent, feed_refusal, answer_refusal, say_refusal, cancel_refusal}
use Rattle.ra_session.specs.TurnRefusals.{taken_refusal, turn_refusal}

abbrev window : Tree
window = text (codes "window")

abbrev hi : List ℕ
hi = codes "hi"

abbrev tools : List ℕ
tools = codes "tools"

-- what one end has to write
abbrev out : Session → List ℕ
out s = shown s.peer.endpoint

abbrev said : Session → List (List ℕ)
said s = map (λ (m : SaidMessage). m.body) s.peer.endpoint.said

-- so many turns, the first with a piece: what they put out, and the session after them
turns : ℕ → ℕ → List ℕ → ℕ → Session → List ℕ × Session
turns zero epoch piece now s = ([], s)
turns (suc n) epoch piece now s =
    let rest = turns n epoch [] now (turn epoch piece now s) in
    ((turn_answer epoch piece now s).out ++ rest.0, rest.1)

-- the first link, at moment 0
abbrev client_0 : Session
client_0 = attach 1 [] 0 (dialling Management window 0)

abbrev server_0 : Session
server_0 = attach 1 [] 0 (serving Management 0)

-- the server hears the context and Initialize, and says Initialize
abbrev served_1 : List ℕ × Session
served_1 = turns 2 1 (out client_0) 0 server_0

client-opens : said client_0 ≡ (1 ∷ 6 ∷ 119 ∷ 105 ∷ 110 ∷ 100 ∷ 111 ∷ 119 ∷ []) ∷ (4 ∷ 1 ∷ 6 ∷ 200 ∷ 1 ∷ 0 ∷ []) ∷ []
unfolding turns turn_refusal taken_refusal take_turn taken_answer feed_refusal answer_refusal say_refusal cancel_refusal is_utf8 chars encode number_bytes value_bytes items_bytes message_bytes message_at context_at after_header value_at content_at items_at text_at prefixed_at number_at later_at heard say_all attach feed_session take_out lose_session take_in turn turn_answer answer call listen cancel dispose tick_session frame_bytes first_frame is_too_long watched timeout_served acknowledge_served keep_alive_served message_heard link_begun link_up alarms_cleared owed rewritten say control ask_pause ask_resume begin finish feed take_frame delivery tick times_out lose leave wrote split_frame has_frame frame_number written_frame
client-opens = refl

server-opens : said served_1.1 ≡ (4 ∷ 1 ∷ 6 ∷ 200 ∷ 1 ∷ 0 ∷ []) ∷ []
unfolding turns turn_refusal taken_refusal take_turn taken_answer feed_refusal answer_refusal say_refusal cancel_refusal is_utf8 chars encode number_bytes value_bytes items_bytes message_bytes message_at context_at after_header value_at content_at items_at text_at prefixed_at number_at later_at heard say_all attach feed_session take_out lose_session take_in turn turn_answer answer call listen cancel dispose tick_session frame_bytes first_frame is_too_long watched timeout_served acknowledge_served keep_alive_served message_heard link_begun link_up alarms_cleared owed rewritten say control ask_pause ask_resume begin finish feed take_frame delivery tick times_out lose leave wrote split_frame has_frame frame_number written_frame
server-opens = refl

server-opens-written : served_1.0 ≡ 1 ∷ 0 ∷ 0 ∷ 0 ∷ 1 ∷ 0 ∷ 0 ∷ 0 ∷ 1 ∷ 0 ∷ 0 ∷ 0 ∷ 6 ∷ 4 ∷ 1 ∷ 6 ∷ 200 ∷ 1 ∷ 0 ∷ []
unfolding turns turn_refusal taken_refusal take_turn taken_answer feed_refusal answer_refusal say_refusal cancel_refusal is_utf8 chars encode number_bytes value_bytes items_bytes message_bytes message_at context_at after_header value_at content_at items_at text_at prefixed_at number_at later_at heard say_all attach feed_session take_out lose_session take_in turn turn_answer answer call listen cancel dispose tick_session frame_bytes first_frame is_too_long watched timeout_served acknowledge_served keep_alive_served message_heard link_begun link_up alarms_cleared owed rewritten say control ask_pause ask_resume begin finish feed take_frame delivery tick times_out lose leave wrote split_frame has_frame frame_number written_frame
server-opens-written = refl

-- the client hears it, and calls
abbrev client_1 : Session
client_1 = call tools (codes "echo") (text hi) 0 (turns 1 1 served_1.0 0 (take_out client_0)).1

client-calls : drop 2 (said client_1) ≡ (4 ∷ 4 ∷ 6 ∷ 100 ∷ 6 ∷ 0 ∷ 1 ∷ 5 ∷ 116 ∷ 111 ∷ 111 ∷ 108 ∷ 115 ∷ 1 ∷ 4 ∷ 101 ∷ 99 ∷ 104 ∷ 111 ∷ 1 ∷ 2 ∷ 104 ∷ 105 ∷ []) ∷ []
unfolding turns turn_refusal taken_refusal take_turn taken_answer feed_refusal answer_refusal say_refusal cancel_refusal is_utf8 chars encode number_bytes value_bytes items_bytes message_bytes message_at context_at after_header value_at content_at items_at text_at prefixed_at number_at later_at heard say_all attach feed_session take_out lose_session take_in turn turn_answer answer call listen cancel dispose tick_session frame_bytes first_frame is_too_long watched timeout_served acknowledge_served keep_alive_served message_heard link_begun link_up alarms_cleared owed rewritten say control ask_pause ask_resume begin finish feed take_frame delivery tick times_out lose leave wrote split_frame has_frame frame_number written_frame
client-calls = refl

-- the server hears the call, and the client listens before the answer comes
abbrev served_2 : List ℕ × Session
served_2 = turns 1 1 (out client_1) 0 served_1.1

server-works : (turn_answer 1 (out client_1) 0 served_1.1).happening ≡ Some (work (record { id = 0; channel = tools; name = codes "echo"; arg = text hi; cancelled = false }))
unfolding turns turn_refusal taken_refusal take_turn taken_answer feed_refusal answer_refusal say_refusal cancel_refusal is_utf8 chars encode number_bytes value_bytes items_bytes message_bytes message_at context_at after_header value_at content_at items_at text_at prefixed_at number_at later_at heard say_all attach feed_session take_out lose_session take_in turn turn_answer answer call listen cancel dispose tick_session frame_bytes first_frame is_too_long watched timeout_served acknowledge_served keep_alive_served message_heard link_begun link_up alarms_cleared owed rewritten say control ask_pause ask_resume begin finish feed take_frame delivery tick times_out lose leave wrote split_frame has_frame frame_number written_frame
server-works = refl

abbrev client_2 : Session
client_2 = listen tools (codes "said") undefined 0 (take_out client_1)

client-listens : drop 3 (said client_2) ≡ (4 ∷ 4 ∷ 6 ∷ 102 ∷ 6 ∷ 1 ∷ 1 ∷ 5 ∷ 116 ∷ 111 ∷ 111 ∷ 108 ∷ 115 ∷ 1 ∷ 4 ∷ 115 ∷ 97 ∷ 105 ∷ 100 ∷ 0 ∷ []) ∷ []
unfolding turns turn_refusal taken_refusal take_turn taken_answer feed_refusal answer_refusal say_refusal cancel_refusal is_utf8 chars encode number_bytes value_bytes items_bytes message_bytes message_at context_at after_header value_at content_at items_at text_at prefixed_at number_at later_at heard say_all attach feed_session take_out lose_session take_in turn turn_answer answer call listen cancel dispose tick_session frame_bytes first_frame is_too_long watched timeout_served acknowledge_served keep_alive_served message_heard link_begun link_up alarms_cleared owed rewritten say control ask_pause ask_resume begin finish feed take_frame delivery tick times_out lose leave wrote split_frame has_frame frame_number written_frame
client-listens = refl

abbrev server_2 : Session
server_2 = answer 0 (success (text hi)) None 0 served_2.1

server-answers : drop 1 (said server_2) ≡ (4 ∷ 2 ∷ 6 ∷ 201 ∷ 1 ∷ 6 ∷ 0 ∷ 1 ∷ 2 ∷ 104 ∷ 105 ∷ []) ∷ []
unfolding turns turn_refusal taken_refusal take_turn taken_answer feed_refusal answer_refusal say_refusal cancel_refusal is_utf8 chars encode number_bytes value_bytes items_bytes message_bytes message_at context_at after_header value_at content_at items_at text_at prefixed_at number_at later_at heard say_all attach feed_session take_out lose_session take_in turn turn_answer answer call listen cancel dispose tick_session frame_bytes first_frame is_too_long watched timeout_served acknowledge_served keep_alive_served message_heard link_begun link_up alarms_cleared owed rewritten say control ask_pause ask_resume begin finish feed take_frame delivery tick times_out lose leave wrote split_frame has_frame frame_number written_frame
server-answers = refl

abbrev served_3 : List ℕ × Session
served_3 = turns 1 1 (out client_2) 0 (take_out server_2)

abbrev client_3 : List ℕ × Session
client_3 = turns 1 1 (out server_2) 0 (take_out client_2)

client-settles : (turn_answer 1 (out server_2) 0 (take_out client_2)).happening ≡ Some (call_settled 0 (answered (success (text hi))))
unfolding turns turn_refusal taken_refusal take_turn taken_answer feed_refusal answer_refusal say_refusal cancel_refusal is_utf8 chars encode number_bytes value_bytes items_bytes message_bytes message_at context_at after_header value_at content_at items_at text_at prefixed_at number_at later_at heard say_all attach feed_session take_out lose_session take_in turn turn_answer answer call listen cancel dispose tick_session frame_bytes first_frame is_too_long watched timeout_served acknowledge_served keep_alive_served message_heard link_begun link_up alarms_cleared owed rewritten say control ask_pause ask_resume begin finish feed take_frame delivery tick times_out lose leave wrote split_frame has_frame frame_number written_frame
client-settles = refl

-- each side, ticked at 2,005, acknowledges
abbrev client_4 : Session
client_4 = tick_session 2005 client_3.1

abbrev server_4 : Session
server_4 = tick_session 2005 served_3.1

client-acks : out client_4 ≡ 3 ∷ 0 ∷ 0 ∷ 0 ∷ 0 ∷ 0 ∷ 0 ∷ 0 ∷ 2 ∷ 0 ∷ 0 ∷ 0 ∷ 0 ∷ []
unfolding turns turn_refusal taken_refusal take_turn taken_answer feed_refusal answer_refusal say_refusal cancel_refusal is_utf8 chars encode number_bytes value_bytes items_bytes message_bytes message_at context_at after_header value_at content_at items_at text_at prefixed_at number_at later_at heard say_all attach feed_session take_out lose_session take_in turn turn_answer answer call listen cancel dispose tick_session frame_bytes first_frame is_too_long watched timeout_served acknowledge_served keep_alive_served message_heard link_begun link_up alarms_cleared owed rewritten say control ask_pause ask_resume begin finish feed take_frame delivery tick times_out lose leave wrote split_frame has_frame frame_number written_frame
client-acks = refl

server-acks : out server_4 ≡ 3 ∷ 0 ∷ 0 ∷ 0 ∷ 0 ∷ 0 ∷ 0 ∷ 0 ∷ 4 ∷ 0 ∷ 0 ∷ 0 ∷ 0 ∷ []
unfolding turns turn_refusal taken_refusal take_turn taken_answer feed_refusal answer_refusal say_refusal cancel_refusal is_utf8 chars encode number_bytes value_bytes items_bytes message_bytes message_at context_at after_header value_at content_at items_at text_at prefixed_at number_at later_at heard say_all attach feed_session take_out lose_session take_in turn turn_answer answer call listen cancel dispose tick_session frame_bytes first_frame is_too_long watched timeout_served acknowledge_served keep_alive_served message_heard link_begun link_up alarms_cleared owed rewritten say control ask_pause ask_resume begin finish feed take_frame delivery tick times_out lose leave wrote split_frame has_frame frame_number written_frame
server-acks = refl

client-waits : out (tick_session 2004 client_3.1) ≡ []
unfolding turns turn_refusal taken_refusal take_turn taken_answer feed_refusal answer_refusal say_refusal cancel_refusal is_utf8 chars encode number_bytes value_bytes items_bytes message_bytes message_at context_at after_header value_at content_at items_at text_at prefixed_at number_at later_at heard say_all attach feed_session take_out lose_session take_in turn turn_answer answer call listen cancel dispose tick_session frame_bytes first_frame is_too_long watched timeout_served acknowledge_served keep_alive_served message_heard link_begun link_up alarms_cleared owed rewritten say control ask_pause ask_resume begin finish feed take_frame delivery tick times_out lose leave wrote split_frame has_frame frame_number written_frame
client-waits = refl

-- the acks come, and the client keeps alive at 5,000 and 10,000
abbrev client_5 : List ℕ × Session
client_5 = turns 1 1 (out server_4) 2005 (take_out client_4)

abbrev server_5 : List ℕ × Session
server_5 = turns 1 1 (out client_4) 2005 (take_out server_4)

abbrev client_6 : Session
client_6 = tick_session 5000 client_5.1

abbrev client_7 : Session
client_7 = tick_session 10000 (take_out client_6)

client-keeps-alive : out client_6 ≡ 9 ∷ 0 ∷ 0 ∷ 0 ∷ 0 ∷ 0 ∷ 0 ∷ 0 ∷ 2 ∷ 0 ∷ 0 ∷ 0 ∷ 0 ∷ []
unfolding turns turn_refusal taken_refusal take_turn taken_answer feed_refusal answer_refusal say_refusal cancel_refusal is_utf8 chars encode number_bytes value_bytes items_bytes message_bytes message_at context_at after_header value_at content_at items_at text_at prefixed_at number_at later_at heard say_all attach feed_session take_out lose_session take_in turn turn_answer answer call listen cancel dispose tick_session frame_bytes first_frame is_too_long watched timeout_served acknowledge_served keep_alive_served message_heard link_begun link_up alarms_cleared owed rewritten say control ask_pause ask_resume begin finish feed take_frame delivery tick times_out lose leave wrote split_frame has_frame frame_number written_frame
client-keeps-alive = refl

client-keeps-alive-again : out client_7 ≡ 9 ∷ 0 ∷ 0 ∷ 0 ∷ 0 ∷ 0 ∷ 0 ∷ 0 ∷ 2 ∷ 0 ∷ 0 ∷ 0 ∷ 0 ∷ []
unfolding turns turn_refusal taken_refusal take_turn taken_answer feed_refusal answer_refusal say_refusal cancel_refusal is_utf8 chars encode number_bytes value_bytes items_bytes message_bytes message_at context_at after_header value_at content_at items_at text_at prefixed_at number_at later_at heard say_all attach feed_session take_out lose_session take_in turn turn_answer answer call listen cancel dispose tick_session frame_bytes first_frame is_too_long watched timeout_served acknowledge_served keep_alive_served message_heard link_begun link_up alarms_cleared owed rewritten say control ask_pause ask_resume begin finish feed take_frame delivery tick times_out lose leave wrote split_frame has_frame frame_number written_frame
client-keeps-alive-again = refl

abbrev server_7 : List ℕ × Session
server_7 = turns 2 1 (out client_6 ++ out client_7) 10000 server_5.1

-- the link is cut, the client calls without a link, and a link begins
abbrev client_8 : Session
client_8 = attach 2 [] 10000 (call tools (codes "length") (text hi) 10000 (lose_session 1 (take_out client_7)))

abbrev server_8 : Session
server_8 = attach 2 [] 10000 (lose_session 1 server_7.1)

client-rejoins : out client_8 ≡ 3 ∷ 0 ∷ 0 ∷ 0 ∷ 0 ∷ 0 ∷ 0 ∷ 0 ∷ 2 ∷ 0 ∷ 0 ∷ 0 ∷ 0 ∷ 1 ∷ 0 ∷ 0 ∷ 0 ∷ 5 ∷ 0 ∷ 0 ∷ 0 ∷ 2 ∷ 0 ∷ 0 ∷ 0 ∷ 25 ∷ 4 ∷ 4 ∷ 6 ∷ 100 ∷ 6 ∷ 2 ∷ 1 ∷ 5 ∷ 116 ∷ 111 ∷ 111 ∷ 108 ∷ 115 ∷ 1 ∷ 6 ∷ 108 ∷ 101 ∷ 110 ∷ 103 ∷ 116 ∷ 104 ∷ 1 ∷ 2 ∷ 104 ∷ 105 ∷ []
unfolding turns turn_refusal taken_refusal take_turn taken_answer feed_refusal answer_refusal say_refusal cancel_refusal is_utf8 chars encode number_bytes value_bytes items_bytes message_bytes message_at context_at after_header value_at content_at items_at text_at prefixed_at number_at later_at heard say_all attach feed_session take_out lose_session take_in turn turn_answer answer call listen cancel dispose tick_session frame_bytes first_frame is_too_long watched timeout_served acknowledge_served keep_alive_served message_heard link_begun link_up alarms_cleared owed rewritten say control ask_pause ask_resume begin finish feed take_frame delivery tick times_out lose leave wrote split_frame has_frame frame_number written_frame
client-rejoins = refl

server-rejoins : out server_8 ≡ 3 ∷ 0 ∷ 0 ∷ 0 ∷ 0 ∷ 0 ∷ 0 ∷ 0 ∷ 4 ∷ 0 ∷ 0 ∷ 0 ∷ 0 ∷ []
unfolding turns turn_refusal taken_refusal take_turn taken_answer feed_refusal answer_refusal say_refusal cancel_refusal is_utf8 chars encode number_bytes value_bytes items_bytes message_bytes message_at context_at after_header value_at content_at items_at text_at prefixed_at number_at later_at heard say_all attach feed_session take_out lose_session take_in turn turn_answer answer call listen cancel dispose tick_session frame_bytes first_frame is_too_long watched timeout_served acknowledge_served keep_alive_served message_heard link_begun link_up alarms_cleared owed rewritten say control ask_pause ask_resume begin finish feed take_frame delivery tick times_out lose leave wrote split_frame has_frame frame_number written_frame
server-rejoins = refl

abbrev served_9 : List ℕ × Session
served_9 = turns 2 2 (out client_8) 10000 (take_out server_8)

abbrev server_9 : Session
server_9 = answer 2 (success (int 2)) None 10000 served_9.1

server-answers-again : out server_9 ≡ 1 ∷ 0 ∷ 0 ∷ 0 ∷ 3 ∷ 0 ∷ 0 ∷ 0 ∷ 5 ∷ 0 ∷ 0 ∷ 0 ∷ 9 ∷ 4 ∷ 2 ∷ 6 ∷ 201 ∷ 1 ∷ 6 ∷ 2 ∷ 6 ∷ 2 ∷ []
unfolding turns turn_refusal taken_refusal take_turn taken_answer feed_refusal answer_refusal say_refusal cancel_refusal is_utf8 chars encode number_bytes value_bytes items_bytes message_bytes message_at context_at after_header value_at content_at items_at text_at prefixed_at number_at later_at heard say_all attach feed_session take_out lose_session take_in turn turn_answer answer call listen cancel dispose tick_session frame_bytes first_frame is_too_long watched timeout_served acknowledge_served keep_alive_served message_heard link_begun link_up alarms_cleared owed rewritten say control ask_pause ask_resume begin finish feed take_frame delivery tick times_out lose leave wrote split_frame has_frame frame_number written_frame
server-answers-again = refl

abbrev client_9 : List ℕ × Session
client_9 = turns 2 2 (out server_8 ++ out server_9) 10000 (take_out client_8)

abbrev client_10 : Session
client_10 = call tools (codes "say") (text hi) 10000 client_9.1

client-calls-again : out client_10 ≡ 1 ∷ 0 ∷ 0 ∷ 0 ∷ 6 ∷ 0 ∷ 0 ∷ 0 ∷ 3 ∷ 0 ∷ 0 ∷ 0 ∷ 22 ∷ 4 ∷ 4 ∷ 6 ∷ 100 ∷ 6 ∷ 3 ∷ 1 ∷ 5 ∷ 116 ∷ 111 ∷ 111 ∷ 108 ∷ 115 ∷ 1 ∷ 3 ∷ 115 ∷ 97 ∷ 121 ∷ 1 ∷ 2 ∷ 104 ∷ 105 ∷ []
unfolding turns turn_refusal taken_refusal take_turn taken_answer feed_refusal answer_refusal say_refusal cancel_refusal is_utf8 chars encode number_bytes value_bytes items_bytes message_bytes message_at context_at after_header value_at content_at items_at text_at prefixed_at number_at later_at heard say_all attach feed_session take_out lose_session take_in turn turn_answer answer call listen cancel dispose tick_session frame_bytes first_frame is_too_long watched timeout_served acknowledge_served keep_alive_served message_heard link_begun link_up alarms_cleared owed rewritten say control ask_pause ask_resume begin finish feed take_frame delivery tick times_out lose leave wrote split_frame has_frame frame_number written_frame
client-calls-again = refl

abbrev served_11 : List ℕ × Session
served_11 = turns 1 2 (out client_10) 10000 (take_out server_9)

abbrev server_11 : Session
server_11 = answer 3 (success undefined) (Some (record { channel = tools; event = codes "said"; body = text hi })) 10000 served_11.1

server-fires : out server_11 ≡ 1 ∷ 0 ∷ 0 ∷ 0 ∷ 4 ∷ 0 ∷ 0 ∷ 0 ∷ 6 ∷ 0 ∷ 0 ∷ 0 ∷ 11 ∷ 4 ∷ 2 ∷ 6 ∷ 204 ∷ 1 ∷ 6 ∷ 1 ∷ 1 ∷ 2 ∷ 104 ∷ 105 ∷ 1 ∷ 0 ∷ 0 ∷ 0 ∷ 5 ∷ 0 ∷ 0 ∷ 0 ∷ 6 ∷ 0 ∷ 0 ∷ 0 ∷ 8 ∷ 4 ∷ 2 ∷ 6 ∷ 201 ∷ 1 ∷ 6 ∷ 3 ∷ 0 ∷ []
unfolding turns turn_refusal taken_refusal take_turn taken_answer feed_refusal answer_refusal say_refusal cancel_refusal is_utf8 chars encode number_bytes value_bytes items_bytes message_bytes message_at context_at after_header value_at content_at items_at text_at prefixed_at number_at later_at heard say_all attach feed_session take_out lose_session take_in turn turn_answer answer call listen cancel dispose tick_session frame_bytes first_frame is_too_long watched timeout_served acknowledge_served keep_alive_served message_heard link_begun link_up alarms_cleared owed rewritten say control ask_pause ask_resume begin finish feed take_frame delivery tick times_out lose leave wrote split_frame has_frame frame_number written_frame
server-fires = refl

client-hears-fire : (turn_answer 2 (out server_11) 10000 (take_out client_10)).happening ≡ Some (event_fired 1 (text hi))
unfolding turns turn_refusal taken_refusal take_turn taken_answer feed_refusal answer_refusal say_refusal cancel_refusal is_utf8 chars encode number_bytes value_bytes items_bytes message_bytes message_at context_at after_header value_at content_at items_at text_at prefixed_at number_at later_at heard say_all attach feed_session take_out lose_session take_in turn turn_answer answer call listen cancel dispose tick_session frame_bytes first_frame is_too_long watched timeout_served acknowledge_served keep_alive_served message_heard link_begun link_up alarms_cleared owed rewritten say control ask_pause ask_resume begin finish feed take_frame delivery tick times_out lose leave wrote split_frame has_frame frame_number written_frame
client-hears-fire = refl

abbrev client_11 : List ℕ × Session
client_11 = turns 2 2 (out server_11) 10000 (take_out client_10)

abbrev client_12 : Session
client_12 = dispose 1 10000 client_11.1

client-disposes : out client_12 ≡ 1 ∷ 0 ∷ 0 ∷ 0 ∷ 7 ∷ 0 ∷ 0 ∷ 0 ∷ 5 ∷ 0 ∷ 0 ∷ 0 ∷ 7 ∷ 4 ∷ 2 ∷ 6 ∷ 103 ∷ 6 ∷ 1 ∷ 0 ∷ []
unfolding turns turn_refusal taken_refusal take_turn taken_answer feed_refusal answer_refusal say_refusal cancel_refusal is_utf8 chars encode number_bytes value_bytes items_bytes message_bytes message_at context_at after_header value_at content_at items_at text_at prefixed_at number_at later_at heard say_all attach feed_session take_out lose_session take_in turn turn_answer answer call listen cancel dispose tick_session frame_bytes first_frame is_too_long watched timeout_served acknowledge_served keep_alive_served message_heard link_begun link_up alarms_cleared owed rewritten say control ask_pause ask_resume begin finish feed take_frame delivery tick times_out lose leave wrote split_frame has_frame frame_number written_frame
client-disposes = refl

-- an old epoch, a fresh answer without a call, and a spent session
old-link-is-stale : turn_refusal 1 [] 10000 server_11 ≡ Some (stale 2)
unfolding turns turn_refusal taken_refusal take_turn taken_answer feed_refusal answer_refusal say_refusal cancel_refusal is_utf8 chars encode number_bytes value_bytes items_bytes message_bytes message_at context_at after_header value_at content_at items_at text_at prefixed_at number_at later_at heard say_all attach feed_session take_out lose_session take_in turn turn_answer answer call listen cancel dispose tick_session frame_bytes first_frame is_too_long watched timeout_served acknowledge_served keep_alive_served message_heard link_begun link_up alarms_cleared owed rewritten say control ask_pause ask_resume begin finish feed take_frame delivery tick times_out lose leave wrote split_frame has_frame frame_number written_frame
old-link-is-stale = refl

no-such-call : answer_refusal 5 (success undefined) None (serving Management 0) ≡ Some (no_such_call 5)
unfolding turns turn_refusal taken_refusal take_turn taken_answer feed_refusal answer_refusal say_refusal cancel_refusal is_utf8 chars encode number_bytes value_bytes items_bytes message_bytes message_at context_at after_header value_at content_at items_at text_at prefixed_at number_at later_at heard say_all attach feed_session take_out lose_session take_in turn turn_answer answer call listen cancel dispose tick_session frame_bytes first_frame is_too_long watched timeout_served acknowledge_served keep_alive_served message_heard link_begun link_up alarms_cleared owed rewritten say control ask_pause ask_resume begin finish feed take_frame delivery tick times_out lose leave wrote split_frame has_frame frame_number written_frame
no-such-call = refl

wrong-kind : say_refusal hi (serving Management 0) ≡ Some wrong_kind
unfolding turns turn_refusal taken_refusal take_turn taken_answer feed_refusal answer_refusal say_refusal cancel_refusal is_utf8 chars encode number_bytes value_bytes items_bytes message_bytes message_at context_at after_header value_at content_at items_at text_at prefixed_at number_at later_at heard say_all attach feed_session take_out lose_session take_in turn turn_answer answer call listen cancel dispose tick_session frame_bytes first_frame is_too_long watched timeout_served acknowledge_served keep_alive_served message_heard link_begun link_up alarms_cleared owed rewritten say control ask_pause ask_resume begin finish feed take_frame delivery tick times_out lose leave wrote split_frame has_frame frame_number written_frame
wrong-kind = refl

bad-message : turn_refusal 2 (frame_bytes (written_frame 1 7 0 (6 ∷ 100 ∷ []))) 10000 server_11 ≡ Some (bad_ipc (unreadable (faults.BadHeader 0)) (6 ∷ 100 ∷ []))
unfolding turns turn_refusal taken_refusal take_turn taken_answer feed_refusal answer_refusal say_refusal cancel_refusal is_utf8 chars encode number_bytes value_bytes items_bytes message_bytes message_at context_at after_header value_at content_at items_at text_at prefixed_at number_at later_at heard say_all attach feed_session take_out lose_session take_in turn turn_answer answer call listen cancel dispose tick_session frame_bytes first_frame is_too_long watched timeout_served acknowledge_served keep_alive_served message_heard link_begun link_up alarms_cleared owed rewritten say control ask_pause ask_resume begin finish feed take_frame delivery tick times_out lose leave wrote split_frame has_frame frame_number written_frame
bad-message = refl

active-id : turn_refusal 1 (frame_bytes (written_frame 1 5 0 (message_bytes (event_listen 1 tools tools undefined)))) 0 served_3.1 ≡ Some (bad_ipc (active 1) (message_bytes (event_listen 1 tools tools undefined)))
unfolding turns turn_refusal taken_refusal take_turn taken_answer feed_refusal answer_refusal say_refusal cancel_refusal is_utf8 chars encode number_bytes value_bytes items_bytes message_bytes message_at context_at after_header value_at content_at items_at text_at prefixed_at number_at later_at heard say_all attach feed_session take_out lose_session take_in turn turn_answer answer call listen cancel dispose tick_session frame_bytes first_frame is_too_long watched timeout_served acknowledge_served keep_alive_served message_heard link_begun link_up alarms_cleared owed rewritten say control ask_pause ask_resume begin finish feed take_frame delivery tick times_out lose leave wrote split_frame has_frame frame_number written_frame
active-id = refl

no-ids : turn_refusal 1 (out client_0) 0 (record server_0 { peer = record server_0.peer { endpoint = record server_0.peer.endpoint { base = 18446744073709551615 } } }) ≡ Some ids_spent
unfolding turns turn_refusal taken_refusal take_turn taken_answer feed_refusal answer_refusal say_refusal cancel_refusal is_utf8 chars encode number_bytes value_bytes items_bytes message_bytes message_at context_at after_header value_at content_at items_at text_at prefixed_at number_at later_at heard say_all attach feed_session take_out lose_session take_in turn turn_answer answer call listen cancel dispose tick_session frame_bytes first_frame is_too_long watched timeout_served acknowledge_served keep_alive_served message_heard link_begun link_up alarms_cleared owed rewritten say control ask_pause ask_resume begin finish feed take_frame delivery tick times_out lose leave wrote split_frame has_frame frame_number written_frame
no-ids = refl

-- a client that has Initialize: a cancelled call stays cancelled
abbrev ready : Session
ready = record (dialling Management window 0) { client = record new_client { ready = true } }

cancelled : drop 2 (said (cancel 0 0 (call tools tools undefined 0 ready))) ≡ message_bytes (promise 0 tools tools undefined) ∷ message_bytes (promise_cancel 0) ∷ []
unfolding turns turn_refusal taken_refusal take_turn taken_answer feed_refusal answer_refusal say_refusal cancel_refusal is_utf8 chars encode number_bytes value_bytes items_bytes message_bytes message_at context_at after_header value_at content_at items_at text_at prefixed_at number_at later_at heard say_all attach feed_session take_out lose_session take_in turn turn_answer answer call listen cancel dispose tick_session frame_bytes first_frame is_too_long watched timeout_served acknowledge_served keep_alive_served message_heard link_begun link_up alarms_cleared owed rewritten say control ask_pause ask_resume begin finish feed take_frame delivery tick times_out lose leave wrote split_frame has_frame frame_number written_frame
cancelled = refl

cancelled-twice : cancel_refusal 0 (cancel 0 0 (call tools tools undefined 0 ready)) ≡ Some (no_such_call 0)
unfolding turns turn_refusal taken_refusal take_turn taken_answer feed_refusal answer_refusal say_refusal cancel_refusal is_utf8 chars encode number_bytes value_bytes items_bytes message_bytes message_at context_at after_header value_at content_at items_at text_at prefixed_at number_at later_at heard say_all attach feed_session take_out lose_session take_in turn turn_answer answer call listen cancel dispose tick_session frame_bytes first_frame is_too_long watched timeout_served acknowledge_served keep_alive_served message_heard link_begun link_up alarms_cleared owed rewritten say control ask_pause ask_resume begin finish feed take_frame delivery tick times_out lose leave wrote split_frame has_frame frame_number written_frame
cancelled-twice = refl

ignored-later : happening_in (heard_at (cancel 0 0 (call tools tools undefined 0 ready)) 2 (message_bytes (response 0 (success undefined))) 0) ≡ None
unfolding turns turn_refusal taken_refusal take_turn taken_answer feed_refusal answer_refusal say_refusal cancel_refusal is_utf8 chars encode number_bytes value_bytes items_bytes message_bytes message_at context_at after_header value_at content_at items_at text_at prefixed_at number_at later_at heard say_all attach feed_session take_out lose_session take_in turn turn_answer answer call listen cancel dispose tick_session frame_bytes first_frame is_too_long watched timeout_served acknowledge_served keep_alive_served message_heard link_begun link_up alarms_cleared owed rewritten say control ask_pause ask_resume begin finish feed take_frame delivery tick times_out lose leave wrote split_frame has_frame frame_number written_frame
ignored-later = refl
