-- What holds of two ends and one pair, and how it goes on by a step of the pair.
use Rattle.std.proofs.Common.{◌≡◌, ℕ, zero, suc, List, [], ◌∷◌, ◌++◌, length, refl, ap, sym, ◌∙◌, subst}
use Rattle.ra_values.specs.Tree.{Tree}
use Rattle.ra_ipc.specs.Messages.{Message}
use Rattle.ra_ipc.specs.ChannelServers.{Server}
use Rattle.ra_ipc.specs.ChannelPairs.{Pair, Step, Outcome, start, happens, run}
use Rattle.ra_session.specs.Sessions.{Session}
use Rattle.ra_channel_laws.specs.Channels.{ServerSaid, ChannelsHold}
use Rattle.ra_channel_laws.proofs.Sides.{ClientSide, ServerSide}

pub record Holds (context : Tree) (d s : Session) (settled : List (ℕ × Outcome)) (fired : List (ℕ × Tree)) (p : Pair) : Type 0 where
  pub client : ClientSide context d p.client p.entries (p.server_heard ++ p.to_server)
  pub server : ServerSide s p.server
  pub settles : settled ≡ p.settled
  pub fires : fired ≡ p.fired
  pub packets_back : ServerSaid (length s.peer.heard) p s.packets
  pub heard_back : length d.peer.heard ≡ length p.client_heard

pub held : {context : Tree} {d s : Session} {settled : List (ℕ × Outcome)} {fired : List (ℕ × Tree)} (h : ChannelsHold context d s settled fired)
    → Holds context d s settled fired (run h.steps start)
held h = record {
  client = record {
    client_end = h.client_end;
    client = h.client;
    entries = h.entries;
    said = h.said;
    packets = h.packets;
    context_fits = h.context_fits;
    fits = record { waiting = h.waiting; sayable = h.sayable; calls = h.calls; listeners = h.listeners };
    serves = h.client_serves;
  };
  server = record {
    server_end = h.server_end;
    server = h.server;
    said = h.said_back;
    asks = h.server_asks;
    answers = h.answers;
    late = h.late;
  };
  settles = h.settles;
  fires = h.fires;
  packets_back = h.packets_back;
  heard_back = h.heard_back;
}

pub hold : (context : Tree) (d s : Session) (settled : List (ℕ × Outcome)) (fired : List (ℕ × Tree)) (steps : List Step)
    → Holds context d s settled fired (run steps start) → ChannelsHold context d s settled fired
hold context d s settled fired steps h = record {
  steps = steps;
  client_end = h.client.client_end;
  server_end = h.server.server_end;
  client = h.client.client;
  server = h.server.server;
  entries = h.client.entries;
  settles = h.settles;
  fires = h.fires;
  said = h.client.said;
  said_back = h.server.said;
  packets = h.client.packets;
  packets_back = h.packets_back;
  heard_back = h.heard_back;
  context_fits = h.client.context_fits;
  waiting = h.client.fits.waiting;
  sayable = h.client.fits.sayable;
  calls = h.client.fits.calls;
  listeners = h.client.fits.listeners;
  client_serves = h.client.serves;
  server_asks = h.server.asks;
  answers = h.server.answers;
  late = h.server.late;
}

pub run_more : (steps more : List Step) (p : Pair) → run (steps ++ more) p ≡ run more (run steps p)
run_more [] more p = refl
run_more (e ∷ steps) more p = run_more steps more (happens p e)

-- after more steps
pub goes_on : (context : Tree) (d s : Session) (settled : List (ℕ × Outcome)) (fired : List (ℕ × Tree)) (steps more : List Step)
    → Holds context d s settled fired (run more (run steps start)) → ChannelsHold context d s settled fired
goes_on context d s settled fired steps more h =
    hold context d s settled fired (steps ++ more) (subst (λ (p : Pair). Holds context d s settled fired p) (sym (run_more steps more start)) h)

-- what the server has said counts only its own part of the pair
pub said_still : (n : ℕ) (p q : Pair) (packets : List Message) → q.client_heard ≡ p.client_heard → q.to_client ≡ p.to_client
    → q.server_heard ≡ p.server_heard → q.server ≡ p.server → ServerSaid n p packets → ServerSaid n q packets
said_still zero p q packets a b c d h = (h.0, a ∙ h.1, b ∙ h.2, c ∙ h.3, ap (λ (x : Server). x.active) d ∙ h.4)
said_still (suc zero) p q packets a b c d h = (h.0 ∙ sym (ap (λ (t : List Message). t ++ q.to_client) a ∙ ap (λ (t : List Message). p.client_heard ++ t) b), c ∙ h.1)
said_still (suc (suc n)) p q packets a b c d h =
    (h.0 ∙ sym (ap (λ (t : List Message). t ++ q.to_client) a ∙ ap (λ (t : List Message). p.client_heard ++ t) b), ap (λ (t : List Message). length t) c ∙ h.1)
