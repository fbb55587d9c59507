-- One end of the channels: the session that dialled, and the one that serves.
use Rattle.std.proofs.Common.{◌≡◌, ◌≢◌, ℕ, Bool, true, false, Some, List, [], ◌∷◌, ◌++◌, map, refl, ap, sym, ◌∙◌, subst}
use Rattle.std.proofs.lemmas.List.{map-append}
use Rattle.std.specs.List.{AllByRecursion}
use Rattle.ra_base.specs.declared.key.Cause.TheVariants.{BadIpc}
use Rattle.ra_model.specs.Pairs.{messages}
use Rattle.ra_values.specs.Tree.{Tree}
use Rattle.ra_values.specs.Spelling.{levels, Fits}
use Rattle.ra_values.specs.ValueBytes.{value_bytes}
use Rattle.ra_ipc.specs.Messages.{Message, initialize, is_request}
use Rattle.ra_ipc.specs.Packets.{MessageFits, message_bytes}
use Rattle.ra_ipc.specs.ChannelServers.{Server}
use Rattle.ra_ipc.specs.ChannelClients.{Client}
use Rattle.ra_ipc.specs.ChannelPairs.{Entry}
use Rattle.ra_session.specs.OnLinks.{IsRunning}
use Rattle.ra_session.specs.Sessions.{Session}
use Rattle.ra_session.specs.Saying.{says}
use Rattle.ra_session.specs.SessionStates.{Sayable}
use Rattle.ra_channel_laws.specs.Channels.{AreIds, AnswerFits, IsEnd}
use Rattle.ra_channel_laws.proofs.Lists.{all_both}
use Rattle.ra_channel_laws.proofs.Said.{CanSay, says_all, says_runs}

-- requests of a client wait and are open that can be written
pub record ClientFits (c : Client) : Type 0 where
  pub waiting : AllByRecursion MessageFits c.waiting
  pub sayable : AllByRecursion Sayable c.waiting
  pub calls : AreIds c.calls
  pub listeners : AreIds c.listeners

-- the session that dialled, with its client, what that did and heard, and the packets that it said behind its Initialize
pub record ClientSide (context : Tree) (d : Session) (c : Client) (es : List Entry) (sent : List Message) : Type 0 where
  pub client_end : IsEnd false d
  pub client : d.client ≡ c
  pub entries : d.entries ≡ es
  pub said : messages d.peer.endpoint ≡ value_bytes context ∷ map message_bytes d.packets
  pub packets : d.packets ≡ initialize ∷ sent
  pub context_fits : Fits levels context
  pub fits : ClientFits d.client
  pub serves : (d.server.channels ≡ []) × (d.server.active ≡ [])

-- a client that makes no request
abbrev pub AsksNothing : Client → Type 0
AsksNothing c = (c.waiting ≡ []) × (c.calls ≡ []) × (c.listeners ≡ [])

abbrev pub IsAnswer : Message → Type 0
IsAnswer m = is_request m ≡ false

-- the session that serves, with its server
pub record ServerSide (s : Session) (lists : Server) : Type 0 where
  pub server_end : IsEnd true s
  pub server : s.server ≡ lists
  pub said : messages s.peer.endpoint ≡ map message_bytes s.packets
  pub asks : AsksNothing s.client
  pub answers : AllByRecursion IsAnswer s.packets
  pub late : AllByRecursion AnswerFits s.server.active

-- ---- a call that says nothing

pub record KeepsSaid (s t : Session) : Type 0 where
  pub kind : t.kind ≡ s.kind
  pub serves : t.serves ≡ s.serves
  pub server : t.server ≡ s.server
  pub client : t.client ≡ s.client
  pub packets : t.packets ≡ s.packets
  pub entries : t.entries ≡ s.entries
  pub said : messages t.peer.endpoint ≡ messages s.peer.endpoint
  pub runs : IsRunning s → IsRunning t
  pub cause : s.cause ≢ Some BadIpc → t.cause ≢ Some BadIpc

end_kept : (serves : Bool) (s t : Session) → KeepsSaid s t → IsEnd serves s → IsEnd serves t
end_kept serves s t k h = record {
  kind = k.kind ∙ h.kind;
  role = k.serves ∙ h.role;
  runs = k.runs h.runs;
  cause = k.cause h.cause;
  fits = subst (λ (ms : List Message). AllByRecursion MessageFits ms) (sym k.packets) h.fits;
}

pub client_kept : (context : Tree) (d t : Session) (c : Client) (es : List Entry) (sent : List Message) → KeepsSaid d t → ClientSide context d c es sent
    → ClientSide context t c es sent
client_kept context d t c es sent k h = record {
  client_end = end_kept false d t k h.client_end;
  client = k.client ∙ h.client;
  entries = k.entries ∙ h.entries;
  said = k.said ∙ h.said ∙ ap (λ (ms : List Message). value_bytes context ∷ map message_bytes ms) (sym k.packets);
  packets = k.packets ∙ h.packets;
  context_fits = h.context_fits;
  fits = subst ClientFits (sym k.client) h.fits;
  serves = (ap (λ (x : Server). x.channels) k.server ∙ h.serves.0, ap (λ (x : Server). x.active) k.server ∙ h.serves.1);
}

pub server_kept : (s t : Session) (server : Server) → KeepsSaid s t → ServerSide s server → ServerSide t server
server_kept s t server k h = record {
  server_end = end_kept true s t k h.server_end;
  server = k.server ∙ h.server;
  said = k.said ∙ h.said ∙ ap (λ (ms : List Message). map message_bytes ms) (sym k.packets);
  asks = subst AsksNothing (sym k.client) h.asks;
  answers = subst (λ (ms : List Message). AllByRecursion IsAnswer ms) (sym k.packets) h.answers;
  late = subst (λ (x : Server). AllByRecursion AnswerFits x.active) (sym k.server) h.late;
}

-- ---- packets are said

end_says : (serves : Bool) (s : Session) (ms : List Message) (now : ℕ) → AllByRecursion MessageFits ms → IsEnd serves s → IsEnd serves (says ms now s)
end_says serves s ms now fit h = record {
  kind = h.kind;
  role = h.role;
  runs = says_runs ms now s h.runs;
  cause = h.cause;
  fits = all_both MessageFits s.packets ms h.fits fit;
}

pub client_says : (context : Tree) (d : Session) (c : Client) (es : List Entry) (sent ms : List Message) (now : ℕ) → CanSay ms d
    → AllByRecursion MessageFits ms → ClientSide context d c es sent → ClientSide context (says ms now d) c es (sent ++ ms)
client_says context d c es sent ms now can fit h = record {
  client_end = end_says false d ms now fit h.client_end;
  client = h.client;
  entries = h.entries;
  said = says_all ms now d h.client_end.runs can ∙ ap (λ (t : List (List ℕ)). t ++ map message_bytes ms) h.said
      ∙ ap (λ (t : List (List ℕ)). value_bytes context ∷ t) (sym (map-append message_bytes d.packets ms));
  packets = ap (λ (t : List Message). t ++ ms) h.packets;
  context_fits = h.context_fits;
  fits = h.fits;
  serves = h.serves;
}

pub server_says : (s : Session) (server : Server) (ms : List Message) (now : ℕ) → CanSay ms s → AllByRecursion MessageFits ms → AllByRecursion IsAnswer ms
    → ServerSide s server → ServerSide (says ms now s) server
server_says s server ms now can fit answers h = record {
  server_end = end_says true s ms now fit h.server_end;
  server = h.server;
  said = says_all ms now s h.server_end.runs can ∙ ap (λ (t : List (List ℕ)). t ++ map message_bytes ms) h.said ∙ sym (map-append message_bytes s.packets ms);
  asks = h.asks;
  answers = all_both IsAnswer s.packets ms h.answers answers;
  late = h.late;
}

-- ---- the lists of channels change

pub client_with : (context : Tree) (d : Session) (c : Client) (es : List Entry) (sent : List Message) (new : Client) (more : List Entry)
    → ClientFits new → ClientSide context d c es sent → ClientSide context (record d { client = new; entries = more }) new more sent
client_with context d c es sent new more fits h = record {
  client_end = record { kind = h.client_end.kind; role = h.client_end.role; runs = h.client_end.runs; cause = h.client_end.cause; fits = h.client_end.fits };
  client = refl;
  entries = refl;
  said = h.said;
  packets = h.packets;
  context_fits = h.context_fits;
  fits = fits;
  serves = h.serves;
}

pub server_with : (s : Session) (lists new : Server) (c : Client) (more : List Entry) → AsksNothing c → AllByRecursion AnswerFits new.active
    → ServerSide s lists → ServerSide (record s { server = new; client = c; entries = more }) new
server_with s lists new c more asks late h = record {
  server_end = record { kind = h.server_end.kind; role = h.server_end.role; runs = h.server_end.runs; cause = h.server_end.cause; fits = h.server_end.fits };
  server = refl;
  said = h.said;
  asks = asks;
  answers = h.answers;
  late = late;
}

pub server_is : (s : Session) (v w : Server) → v ≡ w → ServerSide s v → ServerSide s w
server_is s v w same h = record { server_end = h.server_end; server = h.server ∙ same; said = h.said; asks = h.asks; answers = h.answers; late = h.late }

pub client_is : (context : Tree) (d : Session) (c c' : Client) (es es' : List Entry) (sent sent' : List Message) → c ≡ c' → es ≡ es' → sent ≡ sent'
    → ClientSide context d c es sent → ClientSide context d c' es' sent'
client_is context d c c' es es' sent sent' a b e h = record {
  client_end = h.client_end;
  client = h.client ∙ a;
  entries = h.entries ∙ b;
  said = h.said;
  packets = h.packets ∙ ap (λ (t : List Message). initialize ∷ t) e;
  context_fits = h.context_fits;
  fits = h.fits;
  serves = h.serves;
}

-- the client changes, and then says what can be said
pub changes : (context : Tree) (d : Session) (c : Client) (es : List Entry) (sent : List Message) (new : Client) (more : List Entry) (ms : List Message) (now : ℕ)
    → ClientFits new → CanSay ms d → AllByRecursion MessageFits ms → ClientSide context d c es sent
    → ClientSide context (says ms now (record d { client = new; entries = more })) new more (sent ++ ms)
changes context d c es sent new more ms now fits can all h =
    client_says context (record d { client = new; entries = more }) new more sent ms now (record { going = can.going; small = can.small; room = can.room }) all
    (client_with context d c es sent new more fits h)
