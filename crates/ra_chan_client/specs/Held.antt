-- What a channel client keeps: ids in order, and the requests that wait, by their ids.
use Rattle.std.specs.Prelude.{◌≡◌, ◌≤◌, ◌<◌, ◌^◌, ℕ, List, [], ◌∷◌, map}
use Rattle.std.specs.List.{AllByRecursion}
use Rattle.std.specs.Map.{keys_of}
use Rattle.ra_ipc.specs.Messages.{Message, promise, event_listen}
use Rattle.ra_ipc.specs.Packets.{MessageFits}
use Rattle.ra_ipc.specs.View.{message}
use Rattle.ra_ipc.specs.declared.packet.Packet.{Packet}

-- each id is below those behind it
abbrev pub Ascending : List ℕ → Type 0
Ascending [] = Unit {0}
Ascending (k ∷ ks) = AllByRecursion (λ other. k < other) ks × Ascending ks

-- ids in order, below n
pub record AreIds (n : ℕ) (ids : List ℕ) : Type 0 where
  pub ascending : Ascending ids
  pub below : AllByRecursion (λ id. id < n) ids

-- the call or the listen with this id
abbrev pub Requests : ℕ → Message → Type 0
Requests i (promise id channel name arg) = id ≡ i
Requests i (event_listen id channel event arg) = id ≡ i
Requests i _ = ⊥

-- each packet is a request under its own id, and can be written
abbrev pub AreRequests : List (ℕ × Packet) → Type 0
AreRequests [] = Unit {0}
AreRequests (e ∷ es) = Requests e.0 (message e.1) × MessageFits (message e.1) × AreRequests es

abbrev pub messages : List (ℕ × Packet) → List Message
messages es = map (λ e. message e.1) es

-- what holds of the parts of a client
pub record IsHeld (next : ℕ) (waiting : List (ℕ × Packet)) (calls listeners : List ℕ) : Type 0 where
  pub most : next ≤ 2 ^ 31
  pub call_ids : AreIds next calls
  pub listener_ids : AreIds next listeners
  pub waiting_ids : AreIds next (keys_of waiting)
  pub requests : AreRequests waiting
