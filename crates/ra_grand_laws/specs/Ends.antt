-- The two ends of one session in a world: a client, and the session of its key at the server.
use Rattle.std.specs.Prelude.{◌≡◌, ℕ, ◌+◌, Bool, true, false, List, ◌++◌, length, drop}
use Rattle.ra_model.specs.Endpoints.{is_linked}
use Rattle.ra_model.specs.Frames.{joined}
use Rattle.ra_model.specs.Pairs.{messages, IsJoining, IsFront, HearsInOrder, KeepsUnheard}
use Rattle.ra_model.specs.Worlds.{Peer}
use Rattle.ra_link_core.specs.LinkRuns.{Welcome}
use Rattle.ra_grand_runs.specs.GrandClients.{GrandLink}
use Rattle.ra_grand_runs.specs.Reached.{read_of}

-- each has heard the first of the messages that the other said, and keeps all of its own that are not acknowledged
pub record BothHear (client server : Peer) : Type 0 where
  pub up : HearsInOrder 0 client server
  pub down : HearsInOrder 0 server client
  pub kept_up : KeepsUnheard 0 client server
  pub kept_down : KeepsUnheard 0 server client

-- ---- a link, behind its handshake. To the client the Pause comes first that it was sent before the acceptance

abbrev pub text_up : Welcome → GrandLink → List ℕ
text_up w l = drop w.up l.link.to_b.written

abbrev pub text_down : Welcome → GrandLink → List ℕ
text_down w l = w.pause ++ drop w.down l.link.to_a.written

abbrev pub read_up : Welcome → GrandLink → List ℕ
read_up w l = drop w.up (read_of l.link.to_b)

abbrev pub read_down : Welcome → GrandLink → List ℕ
read_down w l = w.pause ++ drop w.down (read_of l.link.to_a)

-- what was written is a front of frames that its end may write
pub record LinkHonest (client server : Peer) (w : Welcome) (l : GrandLink) : Type 0 where
  pub up : IsFront 0 (messages client.endpoint) (0 + length client.heard) (text_up w l)
  pub down : IsFront 0 (messages server.endpoint) (0 + length server.heard) (text_down w l)

-- While the end keeps the link: what it wrote, with what is not written yet, is such frames whole; and what it read is the frames that it
-- applied, and what it has not.
pub record HoldsLink (said : List (List ℕ)) (own : Peer) (written read : List ℕ) (is_cut : Bool) : Type 0 where
  pub whole : is_cut ≡ false → is_linked own.endpoint.phase ≡ true → IsJoining 0 said (0 + length own.heard) (written ++ own.endpoint.unwritten)
  pub carry : is_linked own.endpoint.phase ≡ true → read ≡ joined own.applied ++ own.endpoint.unread
