-- Calls that say nothing and hear nothing keep the channels.
use Rattle.std.proofs.Common.{◌≡◌, ℕ, List, length, ap, sym, ◌∙◌, subst}
use Rattle.ra_values.specs.Tree.{Tree}
use Rattle.ra_ipc.specs.Messages.{Message}
use Rattle.ra_ipc.specs.ChannelPairs.{Pair, Outcome, start, run}
use Rattle.ra_session.specs.Sessions.{Session}
use Rattle.ra_channel_laws.specs.Channels.{ServerSaid, ChannelsHold, SaysNothing}
use Rattle.ra_channel_laws.proofs.Sides.{KeepsSaid, client_kept, server_kept}
use Rattle.ra_channel_laws.proofs.Holding.{Holds, held, hold}

kept : (call : Session → Session) (s : Session) → SaysNothing call s → KeepsSaid s (call s)
kept call s k = record {
  kind = k.kind;
  serves = k.serves;
  server = k.server;
  client = k.client;
  packets = k.packets;
  entries = k.entries;
  said = k.said;
  runs = k.runs;
  cause = k.cause;
}

size : {X : Type 0} (xs ys : List X) → xs ≡ ys → length xs ≡ length ys
size {X} xs ys is = ap (λ (t : List X). length t) is

pub client_still : (context : Tree) (d t s : Session) (settled : List (ℕ × Outcome)) (fired : List (ℕ × Tree)) → KeepsSaid d t → t.peer.heard ≡ d.peer.heard
    → ChannelsHold context d s settled fired → ChannelsHold context t s settled fired
client_still context d t s settled fired k same h =
    let p : Pair = run h.steps start in
    let now : Holds context d s settled fired p = held h in
    hold context t s settled fired h.steps (record {
      client = client_kept context d t p.client p.entries _ k now.client;
      server = now.server;
      settles = now.settles;
      fires = now.fires;
      packets_back = now.packets_back;
      heard_back = size _ _ same ∙ now.heard_back;
    })

pub server_still : (context : Tree) (d s t : Session) (settled : List (ℕ × Outcome)) (fired : List (ℕ × Tree)) → KeepsSaid s t → t.peer.heard ≡ s.peer.heard
    → ChannelsHold context d s settled fired → ChannelsHold context d t settled fired
server_still context d s t settled fired k same h =
    let p : Pair = run h.steps start in
    let now : Holds context d s settled fired p = held h in
    hold context d t settled fired h.steps (record {
      client = now.client;
      server = server_kept s t p.server k now.server;
      settles = now.settles;
      fires = now.fires;
      packets_back = subst (λ (ms : List Message). ServerSaid (length t.peer.heard) p ms) (sym k.packets)
          (subst (λ (n : ℕ). ServerSaid n p s.packets) (sym (size _ _ same)) now.packets_back);
      heard_back = now.heard_back;
    })

pub client_silent : (context : Tree) (d s : Session) (settled : List (ℕ × Outcome)) (fired : List (ℕ × Tree)) (call : Session → Session)
    → SaysNothing call d → ChannelsHold context d s settled fired → ChannelsHold context (call d) s settled fired
client_silent context d s settled fired call k h = client_still context d (call d) s settled fired (kept call d k) k.heard h

pub server_silent : (context : Tree) (d s : Session) (settled : List (ℕ × Outcome)) (fired : List (ℕ × Tree)) (call : Session → Session)
    → SaysNothing call s → ChannelsHold context d s settled fired → ChannelsHold context d (call s) settled fired
server_silent context d s settled fired call k h = server_still context d s (call s) settled fired (kept call s k) k.heard h
