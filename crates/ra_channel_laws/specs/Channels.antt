-- The two ends of the channels of a management session, as one run of a client and a server of channels.
use Rattle.std.specs.Prelude.{◌≡◌, ◌≢◌, ℕ, zero, suc, ◌<◌, ◌^◌, Bool, true, false, Option, Some, None, List, [], ◌∷◌, ◌++◌, length, map}
use Rattle.std.specs.List.{AllByRecursion}
use Rattle.ra_base.specs.declared.key.Cause.TheVariants.{BadIpc}
use Rattle.ra_base.specs.declared.kind.Kind.TheVariants.{Management}
use Rattle.ra_model.specs.Pairs.{messages}
use Rattle.ra_values.specs.Tree.{Tree}
use Rattle.ra_values.specs.Spelling.{levels, Fits}
use Rattle.ra_values.specs.ValueBytes.{value_bytes}
use Rattle.ra_ipc.specs.ChannelPairs.{Pair, Step, Outcome, start, run}
use Rattle.ra_ipc.specs.Messages.{Message, initialize, response, is_request}
use Rattle.ra_ipc.specs.ChannelServers.{Active, waiting_call, handed_call, waiting_listen, listener, unknown_channel}
use Rattle.ra_ipc.specs.Packets.{MessageFits, message_bytes}
use Rattle.ra_session.specs.Hearing.{Happening, work, host, call_settled, event_fired}
use Rattle.ra_session.specs.OnLinks.{IsRunning}
use Rattle.ra_session.specs.Sessions.{Session}
use Rattle.ra_session.specs.SessionStates.{Sayable}

-- What the server has said, by how many messages it heard: the first is the context, which it answers by Initialize, and the second the
-- client's own Initialize. Before it heard any, no call waits.
abbrev pub ServerSaid : ℕ → Pair → List Message → Type 0
ServerSaid zero p packets =
    (packets ≡ []) × (p.client_heard ≡ []) × (p.to_client ≡ initialize ∷ []) × (p.server_heard ≡ []) × (p.server.active ≡ [])
ServerSaid (suc zero) p packets = (packets ≡ p.client_heard ++ p.to_client) × (p.server_heard ≡ [])
ServerSaid (suc (suc n)) p packets = (packets ≡ p.client_heard ++ p.to_client) × (length p.server_heard ≡ n)

-- An end of a management session whose peer was never found to say a bad message.
pub record IsEnd (serves : Bool) (s : Session) : Type 0 where
  pub kind : s.kind ≡ Management
  pub role : s.serves ≡ serves
  pub runs : IsRunning s
  pub cause : s.cause ≢ Some BadIpc
  pub fits : AllByRecursion MessageFits s.packets

-- the ids of requests of this end can be written
abbrev pub AreIds : List ℕ → Type 0
AreIds ids = AllByRecursion (λ id. id < 2 ^ 31) ids

-- if the call waits too long for its channel, the answer can be written
abbrev pub AnswerFits : Active → Type 0
AnswerFits (waiting_call id channel name arg cancelled until) = MessageFits (response id (unknown_channel channel))
AnswerFits (handed_call id) = Unit {0}
AnswerFits (waiting_listen id channel event until) = Unit {0}
AnswerFits (listener id channel event) = Unit {0}

-- A client session that said this context, and a server session: there is a run of the channels at both ends with these lists, and with
-- what the client has handed up.
pub record ChannelsHold (context : Tree) (d s : Session) (settled : List (ℕ × Outcome)) (fired : List (ℕ × Tree)) : Type 0 where
  pub steps : List Step
  pub client_end : IsEnd false d
  pub server_end : IsEnd true s
  pub client : d.client ≡ (run steps start).client
  pub server : s.server ≡ (run steps start).server
  pub entries : d.entries ≡ (run steps start).entries
  pub settles : settled ≡ (run steps start).settled
  pub fires : fired ≡ (run steps start).fired
  -- what each end said, and how much of it was heard
  pub said : messages d.peer.endpoint ≡ value_bytes context ∷ map message_bytes d.packets
  pub said_back : messages s.peer.endpoint ≡ map message_bytes s.packets
  pub packets : d.packets ≡ initialize ∷ ((run steps start).server_heard ++ (run steps start).to_server)
  pub packets_back : ServerSaid (length s.peer.heard) (run steps start) s.packets
  pub heard_back : length d.peer.heard ≡ length (run steps start).client_heard
  pub context_fits : Fits levels context
  -- requests that wait for Initialize can be said, and calls and listeners can be ended
  pub waiting : AllByRecursion MessageFits d.client.waiting
  pub sayable : AllByRecursion Sayable d.client.waiting
  pub calls : AreIds d.client.calls
  pub listeners : AreIds d.client.listeners
  -- the client serves no channel, and the server makes no request and answers each call that waits too long
  pub client_serves : (d.server.channels ≡ []) × (d.server.active ≡ [])
  pub server_asks : (s.client.waiting ≡ []) × (s.client.calls ≡ []) × (s.client.listeners ≡ [])
  pub answers : AllByRecursion (λ m. is_request m ≡ false) s.packets
  pub late : AllByRecursion AnswerFits s.server.active

-- ---- what a turn hands up

abbrev pub settled_in : Option Happening → List (ℕ × Outcome)
settled_in None = []
settled_in (Some (work call)) = []
settled_in (Some (host body)) = []
settled_in (Some (call_settled id outcome)) = (id, outcome) ∷ []
settled_in (Some (event_fired id body)) = []

abbrev pub fired_in : Option Happening → List (ℕ × Tree)
fired_in None = []
fired_in (Some (work call)) = []
fired_in (Some (host body)) = []
fired_in (Some (call_settled id outcome)) = []
fired_in (Some (event_fired id body)) = (id, body) ∷ []

-- ---- calls that say nothing and hear nothing

pub record SaysNothing (call : Session → Session) (s : Session) : Type 0 where
  pub kind : (call s).kind ≡ s.kind
  pub serves : (call s).serves ≡ s.serves
  pub server : (call s).server ≡ s.server
  pub client : (call s).client ≡ s.client
  pub packets : (call s).packets ≡ s.packets
  pub entries : (call s).entries ≡ s.entries
  pub said : messages (call s).peer.endpoint ≡ messages s.peer.endpoint
  pub heard : (call s).peer.heard ≡ s.peer.heard
  pub runs : IsRunning s → IsRunning (call s)
  pub cause : s.cause ≢ Some BadIpc → (call s).cause ≢ Some BadIpc
