-- What a whole packet does to the lists of a server and of a client.
use Rattle.std.specs.Prelude.{ℕ, List, Option, Some, None, if◌then◌else◌}
use Rattle.ra_values.specs.Tree.{Tree}
use Rattle.ra_ipc.specs.Messages.{Reply, Message, promise, promise_cancel, event_listen, event_dispose, initialize, response, event_fire}
use Rattle.ra_ipc.specs.ChannelServers.{Server, Call, is_active, promised, promised_call, cancelled_at, listened, disposed}
use Rattle.ra_ipc.specs.ChannelClients.{Client, is_in, after_initialize, after_response}

-- ---- a request, at the server

-- the id of a call or a listen that is active already
abbrev pub active_id : Server → Message → Option ℕ
active_id s (promise id channel name arg) = if is_active id s then Some id else None
active_id s (event_listen id channel event arg) = if is_active id s then Some id else None
active_id s _ = None

-- the server after a request whose id is not active
abbrev pub after_request : Server → Message → ℕ → Server
after_request s (promise id channel name arg) now = promised s id channel name arg now
after_request s (promise_cancel id) now = cancelled_at s id
after_request s (event_listen id channel event arg) now = listened s id channel event now
after_request s (event_dispose id) now = disposed s id
after_request s _ now = s

-- the call that it hands out at once
abbrev pub requested_call : Server → Message → Option Call
requested_call s (promise id channel name arg) = promised_call s id channel name arg
requested_call s _ = None

-- ---- any other packet, at the client

abbrev pub after_packet : Client → Message → Client
after_packet c initialize = if c.ready then c else after_initialize c
after_packet c (response id reply) = if is_in id c.calls then after_response c id else c
after_packet c _ = c

-- What the client hands up: the requests that waited, when the server is ready; the answer of a call; an event.
pub data Notice : Type 0 where
  ready : (requests : List Message) → Notice
  settled : (id : ℕ) (reply : Reply) → Notice
  fired : (id : ℕ) (body : Tree) → Notice

abbrev pub notice_of : Client → Message → Option Notice
notice_of c initialize = if c.ready then None else Some (ready c.waiting)
notice_of c (response id reply) = if is_in id c.calls then Some (settled id reply) else None
notice_of c (event_fire id body) = if is_in id c.listeners then Some (fired id body) else None
notice_of c _ = None
