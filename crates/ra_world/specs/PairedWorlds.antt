-- What holds between the two sides of a world in memory, of the messages that go to one side from the other.
use Rattle.std.specs.Prelude.{◌≡◌, ℕ, ◌+◌, ◌≤◌, true, false, Some, List, ◌++◌, length, take, slice_get}
use Rattle.std.specs.List.{AllByRecursion}
use Rattle.ra_base.specs.declared.event.Side.{Side}
use Rattle.ra_model.specs.declared.frame.Frame.{Frame}
use Rattle.ra_model.specs.declared.session.Entry.{Entry}
use Rattle.ra_model.specs.Frames.{IsFrame, joined}
use Rattle.ra_model.specs.Endpoints.{is_linked, sent}
use Rattle.ra_model.specs.Links.{other, Link, direction_to, at_number}
use Rattle.ra_model.specs.Worlds.{Peer, World, peer}
use Rattle.ra_model.specs.Pairs.{messages, IsPrefixOf, IsFront, IsJoining, with_id}
use Rattle.ra_world.specs.WorldStates.{PeerState, WorldState, peer_of}

-- those that were heard are the first of those that were said, each once and in order
pub record HearsFrom (base : ℕ) (from to : PeerState) : Type 0 where
  pub prefix : IsPrefixOf to.heard from.said
  pub received : to.endpoint.received ≡ base + length to.heard

-- those that are acknowledged were heard, and the queue has each of the others, with ids that have no gap
pub record KeepsFor (base : ℕ) (from to : PeerState) : Type 0 where
  pub acknowledged : from.endpoint.acknowledged ≤ base + length to.heard
  pub sent : from.endpoint.sent ≡ base + length from.said
  pub all : from.endpoint.acknowledged + length from.endpoint.queue ≡ from.endpoint.sent
  pub id : (k : ℕ) (entry : Entry) → slice_get from.endpoint.queue k ≡ Some entry → entry.id ≡ from.endpoint.acknowledged + 1 + k
  pub body : (k : ℕ) (entry : Entry) → slice_get from.endpoint.queue k ≡ Some entry → with_id base from.said entry.id ≡ Some entry.body

-- What one side wrote to the other on each link is a front of honest frames. On its present link, unless that is cut, lost or ended,
-- the frames are whole with what is unwritten.
pub record WritesTo (base : ℕ) (side : Side) (from : PeerState) (links : List Link) : Type 0 where
  pub front : (n : ℕ) (link : Link) → at_number links n ≡ Some link → IsFront base from.said (base + length from.heard) (direction_to side link).written
  pub whole : (link : Link) → at_number links from.endpoint.epoch ≡ Some link → link.is_cut ≡ false → is_linked from.endpoint.phase ≡ true
      → IsJoining base from.said (base + length from.heard) ((direction_to side link).written ++ from.endpoint.unwritten)

-- What a side read of each link was written on it. On its present link, unless that is lost or ended, it read the frames that it applied,
-- and what is unread.
pub record ReadsOf (side : Side) (to : PeerState) (applied : List Frame) (links : List Link) : Type 0 where
  pub inside : (n : ℕ) (link : Link) → at_number links n ≡ Some link → (direction_to side link).read ≤ length (direction_to side link).written
  pub each : AllByRecursion IsFrame applied
  pub carry : (link : Link) → at_number links to.endpoint.epoch ≡ Some link → is_linked to.endpoint.phase ≡ true
      → take (direction_to side link).read (direction_to side link).written ≡ joined applied ++ to.endpoint.unread

-- all of this, for the messages to either side. The frames that were applied on present links are those of the world that this one stands for
pub record IsPaired (base : ℕ) (s : WorldState) (w : World) : Type 0 where
  pub heard : (side : Side) → HearsFrom base (peer_of (other side) s) (peer_of side s)
  pub kept : (side : Side) → KeepsFor base (peer_of (other side) s) (peer_of side s)
  pub written : (side : Side) → WritesTo base side (peer_of (other side) s) s.links
  pub read : (side : Side) → ReadsOf side (peer_of side s) (peer side w).applied s.links

-- Nothing is taken back: what was said and heard only grows, and no number falls.

pub record Keeps (said_before heard_before : List (List ℕ)) (sent_before received_before acknowledged_before : ℕ) (after : PeerState) : Type 0 where
  pub said : IsPrefixOf said_before after.said
  pub heard : IsPrefixOf heard_before after.heard
  pub sent : sent_before ≤ after.endpoint.sent
  pub received : received_before ≤ after.endpoint.received
  pub acknowledged : acknowledged_before ≤ after.endpoint.acknowledged

abbrev pub TakesNothingBack : PeerState → PeerState → Type 0
TakesNothingBack before after = Keeps before.said before.heard before.endpoint.sent before.endpoint.received before.endpoint.acknowledged after

-- the same since a peer that is not in memory
abbrev pub KeepsAllOf : Peer → PeerState → Type 0
KeepsAllOf before after = Keeps (messages before.endpoint) before.heard (sent before.endpoint) before.endpoint.received before.endpoint.acknowledged after
