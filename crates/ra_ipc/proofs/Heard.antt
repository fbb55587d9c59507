-- A delivery in a pair, by the packet that is heard.
use Rattle.std.proofs.Common.{◌≡◌, ℕ, List, [], ◌++◌, refl, sym, inl, inr}
use Rattle.std.proofs.lemmas.Bool.{cases_Bool}
use Rattle.std.proofs.lemmas.List.{append-nil}
use Rattle.ra_ipc.specs.Messages.{Message, promise, promise_cancel, event_listen, event_dispose, initialize, response, event_fire}
use Rattle.ra_ipc.specs.ChannelServers.{is_active}
use Rattle.ra_ipc.specs.ChannelClients.{is_in}
use Rattle.ra_ipc.specs.ChannelPackets.{active_id}
use Rattle.ra_ipc.specs.ChannelPairs.{Pair, server_takes}
use Rattle.ra_ipc.specs.ServerRuns.{server_after}
use Rattle.ra_ipc.specs.Deliveries.{ClientHears}

pub server_hears : (p : Pair) (now : ℕ) (m : Message) → (server_takes p now m).server ≡ server_after p.server m now (active_id p.server m)
server_hears p now (promise id channel name arg) = elim (cases_Bool (is_active id p.server)) [ inl t ↦ rw t refl | inr f ↦ rw f refl ]
server_hears p now (promise_cancel id) = refl
server_hears p now (event_listen id channel event arg) = elim (cases_Bool (is_active id p.server)) [ inl t ↦ rw t refl | inr f ↦ rw f refl ]
server_hears p now (event_dispose id) = refl
server_hears p now initialize = refl
server_hears p now (response id reply) = refl
server_hears p now (event_fire id body) = refl

-- nothing is sent or handed up
silent : {X : Type 0} (xs : List X) → xs ≡ xs ++ []
silent xs = sym (append-nil xs)

pub client_hears : (p : Pair) (m : Message) → ClientHears p m
client_hears p (promise id channel name arg) = record { client = refl; sends = silent p.to_server; settles = silent p.settled; fires = silent p.fired }
client_hears p (promise_cancel id) = record { client = refl; sends = silent p.to_server; settles = silent p.settled; fires = silent p.fired }
client_hears p (event_listen id channel event arg) = record { client = refl; sends = silent p.to_server; settles = silent p.settled; fires = silent p.fired }
client_hears p (event_dispose id) = record { client = refl; sends = silent p.to_server; settles = silent p.settled; fires = silent p.fired }
client_hears p initialize = elim (cases_Bool p.client.ready) [
  | inl t ↦ record { client = rw t refl; sends = rw t (silent p.to_server); settles = rw t (silent p.settled); fires = rw t (silent p.fired) }
  | inr f ↦ record { client = rw f refl; sends = rw f refl; settles = rw f (silent p.settled); fires = rw f (silent p.fired) }
]
client_hears p (response id reply) = elim (cases_Bool (is_in id p.client.calls)) [
  | inl t ↦ record { client = rw t refl; sends = rw t (silent p.to_server); settles = rw t refl; fires = rw t (silent p.fired) }
  | inr f ↦ record { client = rw f refl; sends = rw f (silent p.to_server); settles = rw f (silent p.settled); fires = rw f (silent p.fired) }
]
client_hears p (event_fire id body) = elim (cases_Bool (is_in id p.client.listeners)) [
  | inl t ↦ record { client = rw t refl; sends = rw t (silent p.to_server); settles = rw t (silent p.settled); fires = rw t refl }
  | inr f ↦ record { client = rw f refl; sends = rw f (silent p.to_server); settles = rw f (silent p.settled); fires = rw f (silent p.fired) }
]
