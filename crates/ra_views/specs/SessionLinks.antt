-- What the calls of a session leave of its link.
use Rattle.std.specs.Prelude.{◌≡◌}
use Rattle.ra_session.specs.OnLinks.{IsRunning}
use Rattle.ra_session.specs.Sessions.{Session}

-- its link keeps its number, and a session that runs still does
abbrev pub KeepsNumber : (Session → Session) → Type 0
KeepsNumber f = (s : Session) → ((f s).peer.endpoint.epoch ≡ s.peer.endpoint.epoch) × (IsRunning s → IsRunning (f s))

-- it is neither lost nor begun, and the session does not end
abbrev pub KeepsLink : (Session → Session) → Type 0
KeepsLink f = (s : Session)
    → ((f s).peer.endpoint.epoch ≡ s.peer.endpoint.epoch) × ((f s).peer.endpoint.phase ≡ s.peer.endpoint.phase) × ((f s).cause ≡ s.cause)
