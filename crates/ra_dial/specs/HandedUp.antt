-- What an attached dialer hands up, and the message of its session that carried it.
use Rattle.std.specs.Prelude.{◌≡◌, ℕ, suc, List, [], Option, Some}
use Rattle.ra_model.specs.declared.session.Up.TheVariants.{Message as Delivered}
use Rattle.ra_model.specs.Taking.{delivery}
use Rattle.ra_session.specs.Hearing.{Happening}
use Rattle.ra_session.specs.SessionCalls.{feed_session}
use Rattle.ra_session.specs.Sessions.{Session}
use Rattle.ra_session.specs.Turns.{happening_in, heard_at, turn}
use Rattle.ra_dial.specs.Dialers.{Dialer, epoch}

-- the session when it takes a frame: no bytes come with that
abbrev pub looking : ℕ → Dialer → Session
looking now d = feed_session (epoch d) [] now d.session

-- how many messages it has heard
abbrev pub heard_by : Dialer → ℕ
heard_by d = d.session.peer.endpoint.received

-- The frame that it read carried the message behind those that it had heard, and `h` is what that message says. It takes the frame
-- as its session does, and has then heard one message more.
pub record HandsUp (now : ℕ) (h : Happening) (d after : Dialer) : Type 0 where
  pub body : List ℕ
  pub read : delivery (looking now d).peer.endpoint ≡ Some (Delivered (suc (heard_by d)) body)
  pub says : happening_in (heard_at (looking now d) (suc (heard_by d)) body now) ≡ Some h
  pub taken : after.session ≡ turn (epoch d) [] now d.session
  pub counted : heard_by after ≡ suc (heard_by d)
