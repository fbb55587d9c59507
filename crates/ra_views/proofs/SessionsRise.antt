-- A session takes nothing back.
use Rattle.std.proofs.Common.{ℕ, Bool, true, false, Option, Some, None, List, [], ◌∷◌, length, map}
use Rattle.std.proofs.lemmas.Bool.{cond_both}
use Rattle.std.specs.Option.{is_some}
use Rattle.ra_base.specs.declared.key.Cause.{Cause}
use Rattle.ra_values.specs.Tree.{Tree}
use Rattle.ra_model.specs.declared.session.Up.{Up as Delivery}
use Rattle.ra_model.specs.declared.session.Up.TheVariants.{Message as HandedUp, Control, Quiet, Ended as Closed}
use Rattle.ra_model.specs.Endpoints.{Endpoint, is_joining, shown}
use Rattle.ra_model.specs.Calls.{say, finish, leave, tick}
use Rattle.ra_model.specs.Events.{begun, taken}
use Rattle.ra_model.specs.Taking.{delivery}
use Rattle.ra_model.specs.Worlds.{Peer, with_endpoint}
use Rattle.ra_model.specs.Pairs.{IsLater}
use Rattle.ra_model.specs.Views.{OnlyGrows, called}
use Rattle.ra_model.proofs.CallMoves.{grows_say, grows_tick, grows_leave, grows_lose, grows_finish, grows_resume, grows_wrote}
use Rattle.ra_model.proofs.Later.{later_refl, later_trans, later_begun, later_fed, later_take}
use Rattle.ra_proto.specs.SayAll.{say_all}
use Rattle.ra_ipc.specs.Messages.{Reply, promise, promise_cancel, event_listen, event_dispose}
use Rattle.ra_ipc.specs.Packets.{message_bytes}
use Rattle.ra_ipc.specs.ChannelServers.{timeout_answers}
use Rattle.ra_ipc.specs.ChannelClients.{sent_now}
use Rattle.ra_session.specs.Sessions.{Session}
use Rattle.ra_session.specs.SessionCalls.{Firing, answer_packets, answer, say_body, call, listen, cancel, dispose, tick_session, lose_session, end_session, leave_session, attach, joined, rejoined, resumes, emptied, feed_session, take_out}
use Rattle.ra_session.specs.Hearing.{Heard, spoils, hears}
use Rattle.ra_session.specs.Turns.{heard_at, on_heard, on_delivery, take_in, take_turn, turn}
use Rattle.ra_views.specs.SessionViews.{SessionOnlyGrows}

-- ---- of its endpoint

grows_said : (bodies : List (List ℕ)) (now : ℕ) → OnlyGrows (called (say_all bodies now))
unfolding say_all
grows_said [] now p = later_refl p
grows_said (body ∷ bodies) now p =
    later_trans p (called (say body now) p) (called (say_all bodies now) (called (say body now) p)) (grows_say body now p) (grows_said bodies now (called (say body now) p))

grows_rejoined : (now : ℕ) → OnlyGrows (called (rejoined now))
grows_rejoined now p =
    cond_both (is_joining p.endpoint.phase) (finish now p.endpoint) p.endpoint (λ (x : Endpoint). IsLater p (with_endpoint x p)) (λ yes. grows_finish now p) (λ no. later_refl p)

grows_joined : (with_resume : Bool) (now : ℕ) → OnlyGrows (called (joined with_resume now))
grows_joined true now p =
    later_trans p (called (rejoined now) p) (called (joined true now) p) (grows_rejoined now p) (grows_resume (called (rejoined now) p))
grows_joined false now p = grows_rejoined now p

grows_emptied : OnlyGrows (called emptied)
grows_emptied p = grows_wrote (length (shown p.endpoint)) p

-- ---- of the session

pub rises_call : (channel name : List ℕ) (arg : Tree) (now : ℕ) → SessionOnlyGrows (call channel name arg now)
unfolding call
rises_call channel name arg now s = grows_said (map message_bytes (sent_now s.client (promise s.client.next channel name arg))) now s.peer

pub rises_listen : (channel event : List ℕ) (arg : Tree) (now : ℕ) → SessionOnlyGrows (listen channel event arg now)
unfolding listen
rises_listen channel event arg now s = grows_said (map message_bytes (sent_now s.client (event_listen s.client.next channel event arg))) now s.peer

pub rises_cancel : (id now : ℕ) → SessionOnlyGrows (cancel id now)
unfolding cancel
rises_cancel id now s = grows_said (map message_bytes (sent_now s.client (promise_cancel id))) now s.peer

pub rises_dispose : (id now : ℕ) → SessionOnlyGrows (dispose id now)
unfolding dispose
rises_dispose id now s = grows_said (map message_bytes (sent_now s.client (event_dispose id))) now s.peer

pub rises_answer : (id : ℕ) (reply : Reply) (fire : Option Firing) (now : ℕ) → SessionOnlyGrows (answer id reply fire now)
unfolding answer
rises_answer id reply fire now s = grows_said (map message_bytes (answer_packets s.server id reply fire)) now s.peer

pub rises_say : (body : List ℕ) (now : ℕ) → SessionOnlyGrows (say_body body now)
unfolding say_body
rises_say body now s = grows_say body now s.peer

pub rises_tick : (now : ℕ) → SessionOnlyGrows (tick_session now)
unfolding tick_session
rises_tick now s =
    let bodies : List (List ℕ) = map message_bytes (timeout_answers s.server now) in
    cond_both (is_some s.cause) s _ (λ (x : Session). IsLater s.peer x.peer) (λ over. later_refl s.peer)
    (λ going. later_trans s.peer (called (tick now) s.peer) (called (say_all bodies now) (called (tick now) s.peer)) (grows_tick now s.peer) (grows_said bodies now (called (tick now) s.peer)))

pub rises_lose : (epoch : ℕ) → SessionOnlyGrows (lose_session epoch)
unfolding lose_session
rises_lose epoch s = grows_lose epoch s.peer

pub rises_end : (cause : Cause) → SessionOnlyGrows (end_session cause)
unfolding end_session
rises_end cause s = later_refl s.peer

pub rises_attach : (epoch : ℕ) (chunk : List ℕ) (now : ℕ) → SessionOnlyGrows (attach epoch chunk now)
unfolding attach
rises_attach epoch chunk now s =
    let fresh : Peer = begun epoch chunk now s.peer in
    later_trans s.peer fresh (called (joined (resumes s.serves s.kind) now) fresh) (later_begun s.peer epoch chunk now) (grows_joined (resumes s.serves s.kind) now fresh)

pub rises_feed : (epoch : ℕ) (piece : List ℕ) (now : ℕ) → SessionOnlyGrows (feed_session epoch piece now)
unfolding feed_session
rises_feed epoch piece now s = later_fed s.peer epoch piece now

pub rises_out : SessionOnlyGrows take_out
unfolding take_out
rises_out s = grows_emptied s.peer

pub rises_leave : SessionOnlyGrows leave_session
unfolding leave_session
rises_leave s = later_trans s.peer (called leave s.peer) (called emptied (called leave s.peer)) (grows_leave s.peer) (grows_emptied (called leave s.peer))

-- ---- of a turn

rises_heard : (means : Heard) (now : ℕ) → SessionOnlyGrows (on_heard means now)
rises_heard (spoils bad) now s = later_refl s.peer
rises_heard (hears h) now s = grows_said (map message_bytes h.says) now s.peer

rises_delivery : (up : Option Delivery) (now : ℕ) → SessionOnlyGrows (on_delivery up now)
rises_delivery None now s = later_refl s.peer
rises_delivery (Some (HandedUp id body)) now s = rises_heard (heard_at s id body now) now s
rises_delivery (Some (Control body)) now s = later_refl s.peer
rises_delivery (Some Quiet) now s = later_refl s.peer
rises_delivery (Some Closed) now s = later_refl s.peer

rises_take : (now : ℕ) → SessionOnlyGrows (take_in now)
unfolding take_in
rises_take now s =
    let before : Session = record s { peer = taken now s.peer } in
    later_trans s.peer (taken now s.peer) (on_delivery (delivery s.peer.endpoint) now before).peer (later_take s.peer now) (rises_delivery (delivery s.peer.endpoint) now before)

pub rises_turn : (epoch : ℕ) (piece : List ℕ) (now : ℕ) → SessionOnlyGrows (turn epoch piece now)
unfolding turn take_turn
rises_turn epoch piece now s =
    let fed : Session = feed_session epoch piece now s in
    let went : Session = take_in now fed in
    later_trans s.peer fed.peer (take_out went).peer (rises_feed epoch piece now s)
    (later_trans fed.peer went.peer (take_out went).peer (rises_take now fed) (rises_out went))
