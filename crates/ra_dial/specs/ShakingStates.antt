-- How far the handshake of a link is at the client.
use Rattle.std.specs.Prelude.{ℕ, List, Option}
use Rattle.ra_shake.specs.States.{ClientState}

pub record ShakingState : Type 0 where
  -- the key of the upgrade request, until its answer was read
  pub key : Option (List ℕ)
  -- what followed the answer, where it is a part of a WebSocket's messages, until it was handed out
  pub rest : Option (List ℕ)
  pub unread : List ℕ
  pub shake : ClientState
  -- the bytes of the last Pause that was read; none where none was
  pub pause : List ℕ
