-- A client and a server, and the messages between them, of which a front has been heard each way.
use Rattle.std.specs.Prelude.{ℕ, ◌^◌, List, [], ◌∷◌, ◌++◌, Bool, true, false, nat_lt, if◌then◌else◌}
use Rattle.ra_values.specs.Tree.{Tree}
use Rattle.ra_ipc.specs.Messages.{Reply, Message, promise, promise_cancel, event_listen, event_dispose, initialize, response, event_fire}
use Rattle.ra_ipc.specs.ChannelServers.{Server, is_active, promised, cancelled_at, listened, disposed, registered, has_call, completed, fires, ticked, timeout_answers}
use Rattle.ra_ipc.specs.ChannelClients.{Client, new_client, is_in, sent_now, after_call, after_listen, after_cancel, after_dispose, after_initialize, after_response}

-- how a call ended
pub data Outcome : Type 0 where
  cancelled : Outcome
  answered : Reply → Outcome

-- What the client did and heard: a call made, a call cancelled, a message heard.
pub data Entry : Type 0 where
  call_made : (id : ℕ) → Entry
  call_cancelled : (id : ℕ) → Entry
  message_heard : Message → Entry

pub record Pair : Type 0 where
  pub client : Client
  pub server : Server
  -- said by the client: heard by the server, and on the way
  pub server_heard : List Message
  pub to_server : List Message
  -- said by the server: heard by the client, and on the way
  pub client_heard : List Message
  pub to_client : List Message
  pub entries : List Entry
  -- what the client handed up
  pub settled : List (ℕ × Outcome)
  pub fired : List (ℕ × Tree)
  -- an active id came again
  pub clashed : Bool

pub data Step : Type 0 where
  call : (channel name : List ℕ) (arg : Tree) → Step
  cancel : (id : ℕ) → Step
  listen : (channel event : List ℕ) (arg : Tree) → Step
  dispose : (id : ℕ) → Step
  register : (channel : List ℕ) → Step
  complete : (id : ℕ) (reply : Reply) → Step
  fire : (channel event : List ℕ) (body : Tree) → Step
  tick : (now : ℕ) → Step
  -- the next message on the way is heard
  server_hears : (now : ℕ) → Step
  client_hears : Step

abbrev pub start : Pair
start = record {
  client = new_client;
  server = record { channels = []; active = [] };
  server_heard = [];
  to_server = [];
  client_heard = [];
  to_client = initialize ∷ [];
  entries = [];
  settled = [];
  fired = [];
  clashed = false;
}

-- ids go up to 2 ^ 31 - 1
abbrev pub client_requests : Pair → Client → Message → List Entry → Pair
client_requests p c m es = if nat_lt p.client.next (2 ^ 31) then record p { client = c; to_server = p.to_server ++ sent_now p.client m; entries = p.entries ++ es } else p

abbrev pub client_cancels : Pair → ℕ → Pair
client_cancels p i =
    if is_in i p.client.calls
    then record p { client = after_cancel p.client i; to_server = p.to_server ++ sent_now p.client (promise_cancel i); settled = p.settled ++ (i, cancelled) ∷ []; entries = p.entries ++ call_cancelled i ∷ [] }
    else p

abbrev pub client_disposes : Pair → ℕ → Pair
client_disposes p i =
    if is_in i p.client.listeners
    then record p { client = after_dispose p.client i; to_server = p.to_server ++ sent_now p.client (event_dispose i) }
    else p

-- the server hears a message, which is on the way no more
abbrev pub server_takes : Pair → ℕ → Message → Pair
server_takes p now (promise id channel name arg) =
    if is_active id p.server then record p { clashed = true } else record p { server = promised p.server id channel name arg now }
server_takes p now (promise_cancel id) = record p { server = cancelled_at p.server id }
server_takes p now (event_listen id channel event arg) =
    if is_active id p.server then record p { clashed = true } else record p { server = listened p.server id channel event now }
server_takes p now (event_dispose id) = record p { server = disposed p.server id }
server_takes p now initialize = p
server_takes p now (response id reply) = p
server_takes p now (event_fire id body) = p

abbrev pub after_server_hears : Pair → ℕ → List Message → Pair
after_server_hears p now [] = p
after_server_hears p now (m ∷ ms) = server_takes (record p { server_heard = p.server_heard ++ m ∷ []; to_server = ms }) now m

-- the client hears a message
abbrev pub client_takes : Pair → Message → Pair
client_takes p (promise id channel name arg) = p
client_takes p (promise_cancel id) = p
client_takes p (event_listen id channel event arg) = p
client_takes p (event_dispose id) = p
client_takes p initialize = if p.client.ready then p else record p { client = after_initialize p.client; to_server = p.to_server ++ p.client.waiting }
client_takes p (response id reply) =
    if is_in id p.client.calls then record p { client = after_response p.client id; settled = p.settled ++ (id, answered reply) ∷ [] } else p
client_takes p (event_fire id body) = if is_in id p.client.listeners then record p { fired = p.fired ++ (id, body) ∷ [] } else p

abbrev pub after_client_hears : Pair → List Message → Pair
after_client_hears p [] = p
after_client_hears p (m ∷ ms) = client_takes (record p { client_heard = p.client_heard ++ m ∷ []; to_client = ms; entries = p.entries ++ message_heard m ∷ [] }) m

abbrev pub happens : Pair → Step → Pair
happens p (call channel name arg) = let m = promise p.client.next channel name arg in client_requests p (after_call p.client m) m (call_made p.client.next ∷ [])
happens p (cancel i) = client_cancels p i
happens p (listen channel event arg) = let m = event_listen p.client.next channel event arg in client_requests p (after_listen p.client m) m []
happens p (dispose i) = client_disposes p i
happens p (register channel) = record p { server = registered p.server channel }
happens p (complete i reply) =
    if has_call i p.server then record p { server = completed p.server i; to_client = p.to_client ++ response i reply ∷ [] } else p
happens p (fire channel event body) = record p { to_client = p.to_client ++ fires p.server channel event body }
happens p (tick now) = record p { server = ticked p.server now; to_client = p.to_client ++ timeout_answers p.server now }
happens p (server_hears now) = after_server_hears p now p.to_server
happens p client_hears = after_client_hears p p.to_client

-- a whole list of steps
abbrev pub run : List Step → Pair → Pair
run [] p = p
run (e ∷ es) p = run es (happens p e)
