-- What a delivery does in a pair is what the packet does to the end that hears it.
use Rattle.std.specs.Prelude.{◌≡◌, ℕ, List, [], ◌∷◌, ◌++◌, Option, Some}
use Rattle.ra_values.specs.Tree.{Tree}
use Rattle.ra_ipc.specs.Messages.{Message}
use Rattle.ra_ipc.specs.ChannelPackets.{active_id, after_packet, Notice, ready, settled, fired, notice_of}
use Rattle.ra_ipc.specs.ChannelPairs.{Pair, Outcome, answered, server_takes, client_takes}
use Rattle.ra_ipc.specs.ServerRuns.{server_after}

-- the requests that a notice releases, the outcome that it settles, and the event that it hands up
abbrev pub released_by : Option Notice → List Message
released_by (Some (ready requests)) = requests
released_by _ = []

abbrev pub settled_by : Option Notice → List (ℕ × Outcome)
settled_by (Some (settled id reply)) = (id, answered reply) ∷ []
settled_by _ = []

abbrev pub fired_by_notice : Option Notice → List (ℕ × Tree)
fired_by_notice (Some (fired id body)) = (id, body) ∷ []
fired_by_notice _ = []

abbrev pub ServerHears : Type 0
ServerHears = (p : Pair) (now : ℕ) (m : Message) → (server_takes p now m).server ≡ server_after p.server m now (active_id p.server m)

-- the client, and what it sends and hands up
pub record ClientHears (p : Pair) (m : Message) : Type 0 where
  pub client : (client_takes p m).client ≡ after_packet p.client m
  pub sends : (client_takes p m).to_server ≡ p.to_server ++ released_by (notice_of p.client m)
  pub settles : (client_takes p m).settled ≡ p.settled ++ settled_by (notice_of p.client m)
  pub fires : (client_takes p m).fired ≡ p.fired ++ fired_by_notice (notice_of p.client m)

abbrev pub EachClientHears : Type 0
EachClientHears = (p : Pair) (m : Message) → ClientHears p m
