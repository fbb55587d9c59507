-- What a message does to the channel ends of a session that hears it.
use Rattle.std.specs.Prelude.{ℕ, List, [], ◌∷◌, Bool, ◌&&◌, ◌==◌, Option, Some, None, Result, Ok, Err, option_map, if◌then◌else◌}
use Rattle.ra_base.specs.declared.kind.Kind.{Kind}
use Rattle.ra_values.specs.Spelling.{Fits, levels}
use Rattle.ra_values.specs.Tree.{Tree}
use Rattle.ra_ipc.specs.declared.fault.PacketFault.{PacketFault}
use Rattle.ra_ipc.specs.Messages.{Message, initialize, is_request}
use Rattle.ra_ipc.specs.Packets.{reply_body}
use Rattle.ra_ipc.specs.ReadMessage.{message_at, context_at}
use Rattle.ra_ipc.specs.ChannelServers.{Server, Call}
use Rattle.ra_ipc.specs.ChannelClients.{Client}
use Rattle.ra_ipc.specs.ChannelPackets.{active_id, after_request, requested_call, after_packet, Notice, ready, settled, fired, notice_of}
use Rattle.ra_ipc.specs.ChannelPairs.{Outcome, answered, cancelled}
use Rattle.ra_ipc.specs.Deliveries.{released_by}
use Rattle.ra_session.specs.Sessions.{is_management}

-- what a message means to the application
pub data Happening : Type 0 where
  work : Call → Happening
  host : (body : List ℕ) → Happening
  call_settled : (id : ℕ) → Outcome → Happening
  event_fired : (id : ℕ) (body : Tree) → Happening

abbrev pub OutcomeFits : Outcome → Type 0
OutcomeFits cancelled = Unit {0}
OutcomeFits (answered reply) = Fits levels (reply_body reply)

-- the value that is handed up can be written
abbrev pub HappeningFits : Happening → Type 0
HappeningFits (work call) = Fits levels call.arg
HappeningFits (host body) = Unit {0}
HappeningFits (call_settled id outcome) = OutcomeFits outcome
HappeningFits (event_fired id body) = Fits levels body

-- why a message ends its session
pub data BadMessage : Type 0 where
  unreadable : PacketFault → BadMessage
  active : (id : ℕ) → BadMessage

-- The channel ends after a message, the packet that it was, the packets that the session says to it, and what happens.
pub record Hearing : Type 0 where
  pub server : Server
  pub client : Client
  pub packet : Option Message
  pub says : List Message
  pub happening : Option Happening

pub data Heard : Type 0 where
  spoils : BadMessage → Heard
  hears : Hearing → Heard

-- ---- packets

abbrev pub happening_of : Option Notice → Option Happening
happening_of None = None
happening_of (Some (ready requests)) = None
happening_of (Some (settled id reply)) = Some (call_settled id (answered reply))
happening_of (Some (fired id body)) = Some (event_fired id body)

-- a request, if its id is active, goes to the server
abbrev pub heard_request : Server → Client → Message → ℕ → Option ℕ → Heard
heard_request server client m now (Some id) = spoils (active id)
heard_request server client m now None =
    hears (record {
      server = after_request server m now;
      client = client;
      packet = Some m;
      says = [];
      happening = option_map (λ c. work c) (requested_call server m);
    })

-- any other packet goes to the client
abbrev pub heard_other : Server → Client → Message → Heard
heard_other server client m =
    hears (record {
      server = server;
      client = after_packet client m;
      packet = Some m;
      says = released_by (notice_of client m);
      happening = happening_of (notice_of client m);
    })

abbrev pub heard_packet : Server → Client → Message → ℕ → Heard
heard_packet server client m now = if is_request m then heard_request server client m now (active_id server m) else heard_other server client m

abbrev pub heard_reading : Server → Client → Result Message PacketFault → ℕ → Heard
heard_reading server client (Ok m) now = heard_packet server client m now
heard_reading server client (Err fault) now = spoils (unreadable fault)

-- ---- other messages

-- the context is answered by Initialize
abbrev pub heard_context : Server → Client → Result Tree PacketFault → Heard
heard_context server client (Ok context) =
    hears (record { server = server; client = client; packet = None; says = initialize ∷ []; happening = None })
heard_context server client (Err fault) = spoils (unreadable fault)

-- the context is the first message that a serving end hears
abbrev pub is_context : Bool → ℕ → Bool
is_context serves id = serves && (id == 1)

abbrev pub heard_host : Server → Client → List ℕ → Heard
heard_host server client body = hears (record { server = server; client = client; packet = None; says = []; happening = Some (host body) })

-- ---- the message with this id

abbrev pub heard_management : Bool → Server → Client → ℕ → List ℕ → ℕ → Heard
heard_management serves server client id body now =
    if is_context serves id then heard_context server client (context_at body) else heard_reading server client (message_at body) now

unfoldable pub heard : Kind → Bool → Server → Client → ℕ → List ℕ → ℕ → Heard
heard kind serves server client id body now =
    if is_management kind then heard_management serves server client id body now else heard_host server client body
