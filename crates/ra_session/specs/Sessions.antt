-- A session: its endpoint, the calls and listeners of its two channel ends, and the cause of its end.
use Rattle.std.specs.Prelude.{◌≡◌, ℕ, Bool, true, false, not, Option, Some, None, List, [], ◌∷◌, codes, if◌then◌else◌}
use Rattle.std.specs.Option.{is_some}
use Rattle.ra_base.specs.declared.key.Cause.{Cause}
use Rattle.ra_base.specs.declared.kind.Kind.{Kind}
use Rattle.ra_base.specs.declared.kind.Kind.TheVariants.{Management, ExtensionHost, Tunnel}
use Rattle.ra_model.specs.Endpoints.{Endpoint}
use Rattle.ra_model.specs.Worlds.{Peer}
use Rattle.ra_model.specs.Views.{called, new_peer}
use Rattle.ra_ipc.specs.Messages.{Message}
use Rattle.ra_ipc.specs.ChannelServers.{Server}
use Rattle.ra_ipc.specs.ChannelClients.{Client, new_client}
use Rattle.ra_ipc.specs.ChannelPairs.{Entry}

pub record Session : Type 0 where
  -- the endpoint, the messages that it handed up, and the frames that it applied on its present link
  pub peer : Peer
  pub kind : Kind
  -- it answers the calls of its peer; else it is the end that dialled
  pub serves : Bool
  pub server : Server
  pub client : Client
  pub cause : Option Cause
  -- the packets that it said
  pub packets : List Message
  -- the calls that it made and cancelled, and the packets that it heard
  pub entries : List Entry

abbrev pub is_management : Kind → Bool
is_management Management = true
is_management ExtensionHost = false
is_management Tunnel = false

abbrev pub tools : List ℕ
tools = codes "tools"

-- the channels that a session begins with
abbrev pub first_channels : Bool → Kind → List (List ℕ)
first_channels serves kind = if serves then (if is_management kind then tools ∷ [] else []) else []

-- a session that begins. The end that dialled keeps its links alive
abbrev pub new_session : Kind → Bool → ℕ → Session
new_session kind serves now = record {
  peer = new_peer 0 now (not serves);
  kind = kind;
  serves = serves;
  server = record { channels = first_channels serves kind; active = [] };
  client = new_client;
  cause = None;
  packets = [];
  entries = [];
}

-- a call of the endpoint
abbrev pub on_endpoint : (Endpoint → Endpoint) → Session → Session
on_endpoint call s = record s { peer = called call s.peer }

-- it has ended; the first cause stays
abbrev pub with_cause : Cause → Session → Session
with_cause cause s = record s { cause = if is_some s.cause then s.cause else Some cause }

-- the call changes neither the kind of a session nor which end it is
abbrev pub KeepsRole : (Session → Session) → Type 0
KeepsRole call = (s : Session) → ((call s).kind ≡ s.kind) × ((call s).serves ≡ s.serves)
