-- A dialer: how far it is, and what it keeps between two events.
use Rattle.std.specs.Prelude.{ℕ, List}
use Rattle.ra_session.specs.Sessions.{Session}
use Rattle.ra_dial.specs.Clients.{Settings}
use Rattle.ra_dial.specs.declared.stage.Stage.{Stage}

pub record Dialer : Type 0 where
  pub settings : Settings
  pub stage : Stage
  -- how many attempts failed since the making, or since the last success or loss
  pub attempt : ℕ
  -- the moment of the making, or of the last loss of an attached link
  pub lost : ℕ
  -- bytes to hand out, before those of the session
  pub pending : List ℕ
  pub session : Session
  -- how many bytes of the last link its handshake read: what follows them is the session's
  pub read : ℕ

-- the number of the last link that was attached, 0 before the first
abbrev pub epoch : Dialer → ℕ
epoch d = d.session.peer.endpoint.epoch
