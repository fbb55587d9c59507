-- What holds between two endpoints in every run.
use Rattle.std.specs.Prelude.{◌≡◌, ℕ, ◌+◌, ◌-◌, ◌≤◌, true, false, Option, Some, List, ◌++◌, length, map, take, slice_get}
use Rattle.std.specs.List.{AllByRecursion}
use Rattle.ra_model.specs.Frames.{IsFrame, joined, last_id}
use Rattle.ra_model.specs.FrameKinds.{frame_kind}
use Rattle.ra_model.specs.declared.frame.Frame.{Frame}
use Rattle.ra_model.specs.FrameKinds.FrameKind.{Regular}
use Rattle.ra_model.specs.Endpoints.{SaidMessage, Endpoint, is_linked, sent, owed}
use Rattle.ra_model.specs.declared.session.Entry.{Entry}
use Rattle.ra_model.specs.Links.{other, Link, direction_to, at_number}
use Rattle.ra_model.specs.Worlds.{Peer, World, new_world, peer}
use Rattle.ra_model.specs.Events.{run}
use Rattle.ra_base.specs.declared.event.Side.{Side}
use Rattle.ra_base.specs.declared.event.Event.{Event}

abbrev pub body_of : SaidMessage → List ℕ
body_of m = m.body

-- the messages that an endpoint said
abbrev pub messages : Endpoint → List (List ℕ)
messages e = map body_of e.said

abbrev pub IsPrefixOf : {X : Type 0} → List X → List X → Type 0
IsPrefixOf {X} xs ys = (rest : List X) × (xs ++ rest ≡ ys)

-- the message with this id. The first one has the id after the base
abbrev pub with_id : {X : Type 0} → ℕ → List X → ℕ → Option X
with_id base messages id = at_number messages (id - base)

-- An endpoint that said these messages, and received the ids up to this one, may write the frame: a message frame has one of
-- the messages, with its id, and acknowledges no more than was received.
pub record IsHonest (base : ℕ) (said : List (List ℕ)) (received : ℕ) (frame : Frame) : Type 0 where
  pub fits : IsFrame frame
  pub message : frame_kind frame.kind ≡ Regular → with_id base said frame.id ≡ Some frame.body
  pub ack : frame.ack ≤ received

abbrev pub AllHonest : ℕ → List (List ℕ) → ℕ → List Frame → Type 0
AllHonest base said received frames = AllByRecursion (IsHonest base said received) frames

-- the text is such frames, one after the other
abbrev pub IsJoining : ℕ → List (List ℕ) → ℕ → List ℕ → Type 0
IsJoining base said received text = (frames : List Frame) × AllHonest base said received frames × (text ≡ joined frames)

-- the text begins such a text
abbrev pub IsFront : ℕ → List (List ℕ) → ℕ → List ℕ → Type 0
IsFront base said received text = (rest : List ℕ) × IsJoining base said received (text ++ rest)

-- What holds of the messages that go from one endpoint to its peer

-- those that were heard are the first of those that were said, each once and in order
pub record HearsInOrder (base : ℕ) (from to : Peer) : Type 0 where
  pub prefix : IsPrefixOf to.heard (messages from.endpoint)
  pub received : to.endpoint.received ≡ base + length to.heard

-- the queue has each message that is not acknowledged, and its ids have no gap
pub record IsUngapped (e : Endpoint) : Type 0 where
  pub all : e.acknowledged + length (owed e) ≡ sent e
  pub id : (k : ℕ) (entry : Entry) → slice_get (owed e) k ≡ Some entry → entry.id ≡ e.acknowledged + 1 + k
  pub body : (k : ℕ) (entry : Entry) → slice_get (owed e) k ≡ Some entry → with_id e.base (messages e) entry.id ≡ Some entry.body

-- those that are acknowledged were heard, and the others are kept
pub record KeepsUnheard (base : ℕ) (from to : Peer) : Type 0 where
  pub acknowledged : from.endpoint.acknowledged ≤ base + length to.heard
  pub sent : sent from.endpoint ≡ base + length (messages from.endpoint)
  pub queue : IsUngapped from.endpoint

-- The text that an endpoint wrote to this side of each link. `number` is the number of its present link, apart from its epoch.
pub record WritesHonestly (base : ℕ) (side : Side) (number : ℕ) (from : Peer) (links : List Link) : Type 0 where
  pub front : (n : ℕ) (link : Link) → at_number links n ≡ Some link
      → IsFront base (messages from.endpoint) (base + length from.heard) (direction_to side link).written
  -- on its present link, unless that is cut, lost or ended, the frames are whole with what is unwritten
  pub whole : (link : Link) → at_number links number ≡ Some link → link.is_cut ≡ false → is_linked from.endpoint.phase ≡ true
      → IsJoining base (messages from.endpoint) (base + length from.heard) ((direction_to side link).written ++ from.endpoint.unwritten)

-- The bytes that an endpoint read on this side of each link, `number` being that of its present one.
pub record ReadsInFrames (side : Side) (number : ℕ) (to : Peer) (links : List Link) : Type 0 where
  pub inside : (n : ℕ) (link : Link) → at_number links n ≡ Some link → (direction_to side link).read ≤ length (direction_to side link).written
  pub each : AllByRecursion IsFrame to.applied
  -- on its present link, unless that is lost or ended, they are the frames that it applied, and what is unread
  pub carry : (link : Link) → at_number links number ≡ Some link → is_linked to.endpoint.phase ≡ true
      → take (direction_to side link).read (direction_to side link).written ≡ joined to.applied ++ to.endpoint.unread

-- Whatever happens next: nothing is taken back

pub record IsLater (before after : Peer) : Type 0 where
  pub said : IsPrefixOf (messages before.endpoint) (messages after.endpoint)
  pub heard : IsPrefixOf before.heard after.heard
  pub sent : sent before.endpoint ≤ sent after.endpoint
  pub received : before.endpoint.received ≤ after.endpoint.received
  pub acknowledged : before.endpoint.acknowledged ≤ after.endpoint.acknowledged

-- In every run, for the messages that go to either side. There the epoch of an endpoint is the number of its link.

abbrev pub InEveryRun : (ℕ → Side → World → Type 0) → Type 0
InEveryRun P = (base : ℕ) (events : List Event) (side : Side) → base ≤ last_id → P base side (run events (new_world base))

abbrev pub AreHeardInOrder : ℕ → Side → World → Type 0
AreHeardInOrder base side w = HearsInOrder base (peer (other side) w) (peer side w)

abbrev pub AreKeptUntilHeard : ℕ → Side → World → Type 0
AreKeptUntilHeard base side w = KeepsUnheard base (peer (other side) w) (peer side w)

abbrev pub AreWrittenHonestly : ℕ → Side → World → Type 0
AreWrittenHonestly base side w = WritesHonestly base side (peer (other side) w).endpoint.epoch (peer (other side) w) w.links

abbrev pub AreReadInFrames : ℕ → Side → World → Type 0
AreReadInFrames base side w = ReadsInFrames side (peer side w).endpoint.epoch (peer side w) w.links
