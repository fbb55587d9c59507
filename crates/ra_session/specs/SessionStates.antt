-- What a session in memory keeps, and the sessions that it stands for.
use Rattle.std.specs.Prelude.{◌≡◌, ◌≤◌, Bool, false, Option, None, List, length}
use Rattle.std.specs.List.{AllByRecursion}
use Rattle.ra_base.specs.declared.key.Cause.{Cause}
use Rattle.ra_base.specs.declared.kind.Kind.{Kind}
use Rattle.ra_model.specs.Frames.{body_limit}
use Rattle.ra_model.specs.Endpoints.{Endpoint, is_ended}
use Rattle.ra_model.specs.EndpointStates.{EndpointState, StandsFor}
use Rattle.ra_model.specs.Worlds.{Peer}
use Rattle.ra_ipc.specs.Messages.{Message}
use Rattle.ra_ipc.specs.Packets.{message_bytes}
use Rattle.ra_ipc.specs.ChannelServers.{Server}
use Rattle.ra_ipc.specs.ChannelClients.{Client}
use Rattle.ra_ipc.specs.ChannelPairs.{Entry}
use Rattle.ra_session.specs.Sessions.{Session}

pub record SessionState : Type 0 where
  pub endpoint : EndpointState
  pub kind : Kind
  pub serves : Bool
  pub server : Server
  pub client : Client
  pub cause : Option Cause

-- the session with this peer, these packets and these entries that is otherwise in this state
abbrev pub with_past : Peer → List Message → List Entry → SessionState → Session
with_past peer packets entries h = record {
  peer = peer;
  kind = h.kind;
  serves = h.serves;
  server = h.server;
  client = h.client;
  cause = h.cause;
  packets = packets;
  entries = entries;
}

-- the endpoint of a session that has not ended has not ended
abbrev pub Runs : Option Cause → Endpoint → Type 0
Runs cause e = cause ≡ None → is_ended e.phase ≡ false

abbrev pub Sayable : Message → Type 0
Sayable m = length (message_bytes m) ≤ body_limit

-- All is equal, but that the endpoint is one that the kept one stands for. What waits for Initialize can be said.
pub record StandsForSession (h : SessionState) (s : Session) : Type 0 where
  pub same : s ≡ with_past s.peer s.packets s.entries h
  pub endpoint : StandsFor h.endpoint s.peer.endpoint
  pub runs : Runs s.cause s.peer.endpoint
  pub waiting : AllByRecursion Sayable h.client.waiting

-- it has ended, or its endpoint has not; and what waits for Initialize can be said
pub record IsSound (h : SessionState) : Type 0 where
  pub runs : h.cause ≡ None → is_ended h.endpoint.phase ≡ false
  pub waiting : AllByRecursion Sayable h.client.waiting

-- there is a session that it stands for
abbrev pub StandsForSome : SessionState → Type 0
StandsForSome h = (s : Session) × StandsForSession h s

abbrev pub OfEachSession : SessionState → (Session → Type 0) → Type 0
OfEachSession h P = (s : Session) → StandsForSession h s → P s

-- the new state stands for what the call makes of each session that the old one stands for
abbrev pub SessionBecomes : SessionState → SessionState → (Session → Session) → Type 0
SessionBecomes old new call = OfEachSession old (λ s. StandsForSession new (call s))
