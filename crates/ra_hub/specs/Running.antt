-- Hubs whose sessions run.
use Rattle.std.specs.Prelude.{◌≡◌, Some}
use Rattle.ra_base.specs.declared.key.Key.{Key}
use Rattle.ra_session.specs.OnLinks.{IsRunning}
use Rattle.ra_session.specs.Sessions.{Session}
use Rattle.ra_hub.specs.Hubs.{Hub}

-- each session has ended, or its endpoint has not
abbrev pub HubRuns : Hub → Type 0
HubRuns h = (key : Key) (s : Session) → h.session key ≡ Some s → IsRunning s
