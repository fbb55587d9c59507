-- What a world in memory keeps, and the worlds that it stands for. It has what each endpoint said in place of the endpoint's own list.
use Rattle.std.specs.Prelude.{◌≡◌, ℕ, ◌<◌, ◌^◌, List}
use Rattle.ra_base.specs.declared.event.Side.{Side}
use Rattle.ra_base.specs.declared.event.Side.TheVariants.{A, B}
use Rattle.ra_base.specs.declared.event.Event.{Event}
use Rattle.ra_base.specs.declared.event.Event.TheVariants.{At}
use Rattle.ra_model.specs.EndpointStates.{EndpointState, StandsFor}
use Rattle.ra_model.specs.Links.{Link}
use Rattle.ra_model.specs.Worlds.{Peer, World}
use Rattle.ra_model.specs.Pairs.{messages}

pub record PeerState : Type 0 where
  pub endpoint : EndpointState
  pub said : List (List ℕ)
  pub heard : List (List ℕ)

pub record PeersState : Type 0 where
  pub a : PeerState
  pub b : PeerState

pub record WorldState : Type 0 where
  pub moment : ℕ
  pub a : PeerState
  pub b : PeerState
  pub links : List Link

abbrev pub side_of : Side → PeersState → PeerState
side_of A s = s.a
side_of B s = s.b

abbrev pub peer_of : Side → WorldState → PeerState
peer_of side s = side_of side (record { a = s.a; b = s.b })

pub record StandsForPeer (s : PeerState) (p : Peer) : Type 0 where
  pub endpoint : StandsFor s.endpoint p.endpoint
  pub said : s.said ≡ messages p.endpoint
  pub heard : s.heard ≡ p.heard

pub record StandsForWorld (s : WorldState) (w : World) : Type 0 where
  pub moment : s.moment ≡ w.now
  pub a : StandsForPeer s.a w.a
  pub b : StandsForPeer s.b w.b
  pub links : s.links ≡ w.links

-- the moment of an At is below 2^53
abbrev pub IsEvent : Event → Type 0
IsEvent (At now) = now < 2 ^ 53
IsEvent _ = Unit {0}
