-- The calls of a session that read nothing of a link and put nothing on one keep a view.
use Rattle.std.proofs.Common.{ℕ, Option, Some, None, List, map}
use Rattle.std.proofs.lemmas.Bool.{cond_both}
use Rattle.std.specs.Option.{is_some}
use Rattle.ra_base.specs.declared.key.Cause.{Cause}
use Rattle.ra_values.specs.Tree.{Tree}
use Rattle.ra_model.specs.declared.session.Up.{Up as Delivery}
use Rattle.ra_model.specs.declared.session.Up.TheVariants.{Message as HandedUp, Control, Quiet, Ended as Closed}
use Rattle.ra_model.specs.Calls.{leave, tick}
use Rattle.ra_model.specs.Events.{taken}
use Rattle.ra_model.specs.Taking.{delivery}
use Rattle.ra_model.specs.Views.{View, called}
use Rattle.ra_model.proofs.CallMoves.{views_say, views_tick, views_leave, views_lose}
use Rattle.ra_model.proofs.Takes.{view_take}
use Rattle.ra_ipc.specs.Messages.{Reply, promise, promise_cancel, event_listen, event_dispose}
use Rattle.ra_ipc.specs.Packets.{message_bytes}
use Rattle.ra_ipc.specs.ChannelServers.{timeout_answers}
use Rattle.ra_ipc.specs.ChannelClients.{sent_now}
use Rattle.ra_session.specs.Sessions.{Session, on_endpoint}
use Rattle.ra_session.specs.SessionCalls.{Firing, answer_packets, answer, say_body, call, listen, cancel, dispose, tick_session, lose_session, end_session}
use Rattle.ra_session.specs.Hearing.{Heard, spoils, hears}
use Rattle.ra_session.specs.Turns.{heard_at, on_heard, on_delivery, take_in}
use Rattle.ra_views.specs.SessionViews.{KeepsSessionViews}
use Rattle.ra_views.proofs.EndpointMoves.{views_said}

pub keeps_call : (channel name : List ℕ) (arg : Tree) (now : ℕ) → KeepsSessionViews (call channel name arg now)
unfolding call
keeps_call channel name arg now start side i j s o links v =
    views_said (map message_bytes (sent_now s.client (promise s.client.next channel name arg))) now start side i j s.peer o links v

pub keeps_listen : (channel event : List ℕ) (arg : Tree) (now : ℕ) → KeepsSessionViews (listen channel event arg now)
unfolding listen
keeps_listen channel event arg now start side i j s o links v =
    views_said (map message_bytes (sent_now s.client (event_listen s.client.next channel event arg))) now start side i j s.peer o links v

pub keeps_cancel : (id now : ℕ) → KeepsSessionViews (cancel id now)
unfolding cancel
keeps_cancel id now start side i j s o links v =
    views_said (map message_bytes (sent_now s.client (promise_cancel id))) now start side i j s.peer o links v

pub keeps_dispose : (id now : ℕ) → KeepsSessionViews (dispose id now)
unfolding dispose
keeps_dispose id now start side i j s o links v =
    views_said (map message_bytes (sent_now s.client (event_dispose id))) now start side i j s.peer o links v

pub keeps_answer : (id : ℕ) (reply : Reply) (fire : Option Firing) (now : ℕ) → KeepsSessionViews (answer id reply fire now)
unfolding answer
keeps_answer id reply fire now start side i j s o links v =
    views_said (map message_bytes (answer_packets s.server id reply fire)) now start side i j s.peer o links v

pub keeps_say : (body : List ℕ) (now : ℕ) → KeepsSessionViews (say_body body now)
unfolding say_body
keeps_say body now start side i j s o links v = views_say body now start side i j s.peer o links v

pub keeps_tick : (now : ℕ) → KeepsSessionViews (tick_session now)
unfolding tick_session
keeps_tick now start side i j s o links v =
    cond_both (is_some s.cause) s _ (λ (x : Session). View start side i j x.peer o links) (λ over. v)
    (λ going. views_said (map message_bytes (timeout_answers s.server now)) now start side i j (called (tick now) s.peer) o links (views_tick now start side i j s.peer o links v))

pub keeps_lose : (epoch : ℕ) → KeepsSessionViews (lose_session epoch)
unfolding lose_session
keeps_lose epoch start side i j s o links v = views_lose epoch start side i j s.peer o links v

pub keeps_end : (cause : Cause) → KeepsSessionViews (end_session cause)
unfolding end_session
keeps_end cause start side i j s o links v = v

pub keeps_leave : KeepsSessionViews (on_endpoint leave)
keeps_leave start side i j s o links v = views_leave start side i j s.peer o links v

-- a frame is applied, and what it means is said
keeps_heard : (means : Heard) (now : ℕ) → KeepsSessionViews (on_heard means now)
keeps_heard (spoils bad) now start side i j s o links v = v
keeps_heard (hears h) now start side i j s o links v = views_said (map message_bytes h.says) now start side i j s.peer o links v

keeps_delivery : (up : Option Delivery) (now : ℕ) → KeepsSessionViews (on_delivery up now)
keeps_delivery None now start side i j s o links v = v
keeps_delivery (Some (HandedUp id body)) now start side i j s o links v = keeps_heard (heard_at s id body now) now start side i j s o links v
keeps_delivery (Some (Control body)) now start side i j s o links v = v
keeps_delivery (Some Quiet) now start side i j s o links v = v
keeps_delivery (Some Closed) now start side i j s o links v = v

pub keeps_take : (now : ℕ) → KeepsSessionViews (take_in now)
unfolding take_in
keeps_take now start side i j s o links v =
    keeps_delivery (delivery s.peer.endpoint) now start side i j (record s { peer = taken now s.peer }) o links (view_take start side i j s.peer o links now v)
