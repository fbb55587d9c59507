-- What the calls of a session change, where they are not refused. A turn has a file of its own.
use Rattle.std.specs.Prelude.{ℕ, List, [], ◌∷◌, ◌++◌, length, Bool, not, ◌&&◌, Option, Some, None, if◌then◌else◌}
use Rattle.std.specs.Option.{is_some}
use Rattle.ra_base.specs.declared.kind.Kind.{Kind}
use Rattle.ra_base.specs.declared.key.Cause.{Cause}
use Rattle.ra_base.specs.declared.key.Cause.TheVariants.{Disconnected}
use Rattle.ra_model.specs.Endpoints.{Endpoint, shown}
use Rattle.ra_model.specs.Calls.{say, feed, wrote, lose, leave, tick}
use Rattle.ra_model.specs.Events.{begun}
use Rattle.ra_model.specs.Views.{called}
pub use Rattle.ra_proto.specs.Joining.{rejoined, joined}
use Rattle.ra_values.specs.Tree.{Tree}
use Rattle.ra_ipc.specs.Messages.{Reply, Message, promise, promise_cancel, event_listen, event_dispose, response}
use Rattle.ra_ipc.specs.ChannelServers.{Server, completed, fires, ticked, timeout_answers}
use Rattle.ra_ipc.specs.ChannelClients.{sent_now, after_call, after_listen, after_cancel, after_dispose}
use Rattle.ra_ipc.specs.ChannelPairs.{Entry, call_made, call_cancelled}
use Rattle.ra_session.specs.Sessions.{Session, is_management, on_endpoint, with_cause}
use Rattle.ra_session.specs.Saying.{says}

-- ---- links

-- the peer of a serving extension host waits for a Resume
abbrev pub resumes : Bool → Kind → Bool
resumes serves kind = serves && not (is_management kind)

-- a link begins, with the bytes that were read of it; a reconnection ends; and a Resume is written where it is waited for
unfoldable pub attach : ℕ → List ℕ → ℕ → Session → Session
attach epoch chunk now s = record s { peer = called (joined (resumes s.serves s.kind) now) (begun epoch chunk now s.peer) }

-- bytes come, and no frame is applied
unfoldable pub feed_session : ℕ → List ℕ → ℕ → Session → Session
feed_session epoch piece now s = on_endpoint (feed epoch piece now) s

abbrev pub emptied : Endpoint → Endpoint
emptied e = wrote (length (shown e)) e

-- all that may go out goes out
unfoldable pub take_out : Session → Session
take_out s = on_endpoint emptied s

unfoldable pub lose_session : ℕ → Session → Session
lose_session epoch s = on_endpoint (lose epoch) s

-- ---- answers of the application

-- an event that is fired: its channel, its name and its body
pub record Firing : Type 0 where
  pub channel : List ℕ
  pub event : List ℕ
  pub body : Tree

abbrev pub fired_by : Server → Option Firing → List Message
fired_by server None = []
fired_by server (Some fire) = fires server fire.channel fire.event fire.body

-- the fires, and then the answer
abbrev pub answer_packets : Server → ℕ → Reply → Option Firing → List Message
answer_packets server id reply fire = fired_by server fire ++ response id reply ∷ []

unfoldable pub answer : ℕ → Reply → Option Firing → ℕ → Session → Session
answer id reply fire now s = says (answer_packets s.server id reply fire) now (record s { server = completed s.server id })

-- a message of an extension host is said
unfoldable pub say_body : List ℕ → ℕ → Session → Session
say_body body now s = on_endpoint (say body now) s

-- ---- requests of this end

abbrev pub with_entries : List Entry → Session → Session
with_entries entries s = record s { entries = s.entries ++ entries }

unfoldable pub call : List ℕ → List ℕ → Tree → ℕ → Session → Session
call channel name arg now s =
    let m = promise s.client.next channel name arg in
    says (sent_now s.client m) now (with_entries (call_made s.client.next ∷ []) (record s { client = after_call s.client m }))

unfoldable pub listen : List ℕ → List ℕ → Tree → ℕ → Session → Session
listen channel event arg now s =
    let m = event_listen s.client.next channel event arg in says (sent_now s.client m) now (record s { client = after_listen s.client m })

unfoldable pub cancel : ℕ → ℕ → Session → Session
cancel id now s =
    says (sent_now s.client (promise_cancel id)) now (with_entries (call_cancelled id ∷ []) (record s { client = after_cancel s.client id }))

unfoldable pub dispose : ℕ → ℕ → Session → Session
dispose id now s = says (sent_now s.client (event_dispose id)) now (record s { client = after_dispose s.client id })

-- ---- ticks and ends

-- the alarms of the endpoint that are due, and then the calls that waited too long for their channel
unfoldable pub tick_session : ℕ → Session → Session
tick_session now s =
    if is_some s.cause then s
    else says (timeout_answers s.server now) now (on_endpoint (tick now) (record s { server = ticked s.server now }))

unfoldable pub leave_session : Session → Session
leave_session s = with_cause Disconnected (on_endpoint (λ e. emptied (leave e)) s)

unfoldable pub end_session : Cause → Session → Session
end_session cause s = with_cause cause s
