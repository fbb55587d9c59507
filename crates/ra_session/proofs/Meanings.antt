-- What a message means, by what it is.
use Rattle.std.proofs.Common.{◌≡◌, ℕ, Bool, true, false, Option, Some, None, List, [], ◌∷◌, refl}
use Rattle.std.specs.Prelude.{option_map, Ok, Err}
use Rattle.ra_base.specs.declared.kind.Kind.{Kind}
use Rattle.ra_values.specs.Tree.{Tree}
use Rattle.ra_ipc.specs.declared.fault.PacketFault.{PacketFault}
use Rattle.ra_ipc.specs.Messages.{Message, initialize, is_request}
use Rattle.ra_ipc.specs.ReadMessage.{message_at, context_at}
use Rattle.ra_ipc.specs.ChannelServers.{Server}
use Rattle.ra_ipc.specs.ChannelClients.{Client, after_initialize}
use Rattle.ra_ipc.specs.ChannelPackets.{active_id, after_request, requested_call, after_packet, notice_of}
use Rattle.ra_ipc.specs.Deliveries.{released_by}
use Rattle.ra_session.specs.Sessions.{is_management}
use Rattle.ra_session.specs.Hearing.{Happening, work, host, unreadable, active, Hearing, hears, spoils, heard, heard_packet, heard_other, is_context, happening_of}

-- what hardly any message does: it says nothing
abbrev pub quietly : Server → Client → Option Message → Option Happening → Hearing
quietly server client packet happening = record { server = server; client = client; packet = packet; says = []; happening = happening }

pub host_is : (kind : Kind) (serves : Bool) (server : Server) (client : Client) (id : ℕ) (body : List ℕ) (now : ℕ) → is_management kind ≡ false
    → heard kind serves server client id body now ≡ hears (quietly server client None (Some (host body)))
unfolding heard
host_is kind serves server client id body now is = rw is refl

packet_is : (kind : Kind) (serves : Bool) (server : Server) (client : Client) (id : ℕ) (body : List ℕ) (now : ℕ) (m : Message) → is_management kind ≡ true
    → is_context serves id ≡ false → message_at body ≡ Ok m → heard kind serves server client id body now ≡ heard_packet server client m now
unfolding heard
packet_is kind serves server client id body now m is packet reads = rw (is, packet, reads) refl

pub request_is : (kind : Kind) (serves : Bool) (server : Server) (client : Client) (id : ℕ) (body : List ℕ) (now : ℕ) (m : Message) → is_management kind ≡ true
    → is_context serves id ≡ false → message_at body ≡ Ok m → is_request m ≡ true → active_id server m ≡ None
    → heard kind serves server client id body now ≡ hears (quietly (after_request server m now) client (Some m) (option_map (λ c. work c) (requested_call server m)))
request_is kind serves server client id body now m is packet reads asks fresh =
    rw (packet_is kind serves server client id body now m is packet reads, asks, fresh) refl

pub active_is : (kind : Kind) (serves : Bool) (server : Server) (client : Client) (id : ℕ) (body : List ℕ) (now : ℕ) (m : Message) (i : ℕ) → is_management kind ≡ true
    → is_context serves id ≡ false → message_at body ≡ Ok m → is_request m ≡ true → active_id server m ≡ Some i
    → heard kind serves server client id body now ≡ spoils (active i)
active_is kind serves server client id body now m i is packet reads asks same =
    rw (packet_is kind serves server client id body now m is packet reads, asks, same) refl

pub other_is : (kind : Kind) (serves : Bool) (server : Server) (client : Client) (id : ℕ) (body : List ℕ) (now : ℕ) (m : Message) → is_management kind ≡ true
    → is_context serves id ≡ false → message_at body ≡ Ok m → is_request m ≡ false
    → heard kind serves server client id body now ≡ heard_other server client m
other_is kind serves server client id body now m is packet reads asks = rw (packet_is kind serves server client id body now m is packet reads, asks) refl

pub notice_is : (kind : Kind) (serves : Bool) (server : Server) (client : Client) (id : ℕ) (body : List ℕ) (now : ℕ) (m : Message) → is_management kind ≡ true
    → is_context serves id ≡ false → message_at body ≡ Ok m → is_request m ≡ false → released_by (notice_of client m) ≡ []
    → heard kind serves server client id body now ≡ hears (quietly server (after_packet client m) (Some m) (happening_of (notice_of client m)))
notice_is kind serves server client id body now m is packet reads asks silent =
    rw (other_is kind serves server client id body now m is packet reads asks, silent) refl

pub initialize_is : (kind : Kind) (serves : Bool) (server : Server) (client : Client) (id : ℕ) (body : List ℕ) (now : ℕ) → is_management kind ≡ true
    → is_context serves id ≡ false → message_at body ≡ Ok initialize → client.ready ≡ false
    → heard kind serves server client id body now
    ≡ hears (record { server = server; client = after_initialize client; packet = Some initialize; says = client.waiting; happening = None })
initialize_is kind serves server client id body now is packet reads waits =
    rw (other_is kind serves server client id body now initialize is packet reads refl, waits) refl

pub unread_is : (kind : Kind) (serves : Bool) (server : Server) (client : Client) (id : ℕ) (body : List ℕ) (now : ℕ) (fault : PacketFault) → is_management kind ≡ true
    → is_context serves id ≡ false → message_at body ≡ Err fault → heard kind serves server client id body now ≡ spoils (unreadable fault)
unfolding heard
unread_is kind serves server client id body now fault is packet reads = rw (is, packet, reads) refl

pub context_is : (kind : Kind) (serves : Bool) (server : Server) (client : Client) (id : ℕ) (body : List ℕ) (now : ℕ) (t : Tree) → is_management kind ≡ true
    → is_context serves id ≡ true → context_at body ≡ Ok t
    → heard kind serves server client id body now ≡ hears (record { server = server; client = client; packet = None; says = initialize ∷ []; happening = None })
unfolding heard
context_is kind serves server client id body now t is context reads = rw (is, context, reads) refl

pub no_context_is : (kind : Kind) (serves : Bool) (server : Server) (client : Client) (id : ℕ) (body : List ℕ) (now : ℕ) (fault : PacketFault) → is_management kind ≡ true
    → is_context serves id ≡ true → context_at body ≡ Err fault → heard kind serves server client id body now ≡ spoils (unreadable fault)
unfolding heard
no_context_is kind serves server client id body now fault is context reads = rw (is, context, reads) refl
