-- A session whose link is there.
use Rattle.std.specs.Prelude.{◌≡◌, ℕ, true, None}
use Rattle.ra_model.specs.Endpoints.{is_linked}
use Rattle.ra_session.specs.Sessions.{Session}
use Rattle.ra_session.specs.SessionStates.{Runs}

-- it has ended, or this is its present link, which is there
abbrev pub IsOnLink : ℕ → Session → Type 0
IsOnLink epoch s = s.cause ≡ None → (s.peer.endpoint.epoch ≡ epoch) × (is_linked s.peer.endpoint.phase ≡ true)

-- it has ended, or its endpoint has not
abbrev pub IsRunning : Session → Type 0
IsRunning s = Runs s.cause s.peer.endpoint
