-- What an event never takes back.
use Rattle.std.specs.Prelude.{◌≡◌, ℕ, Some}
use Rattle.ra_base.specs.declared.key.Key.{Key}
use Rattle.ra_model.specs.Links.{at_number}
use Rattle.ra_model.specs.Pairs.{IsLater}
use Rattle.ra_session.specs.Sessions.{Session}
use Rattle.ra_hub.specs.Hubs.{Hub}
use Rattle.ra_grand_runs.specs.GrandClients.{Client}
use Rattle.ra_grand_runs.specs.Grands.{Grand}

-- each session of the server is still there, and took nothing back
abbrev pub HubRises : Hub → Hub → Type 0
HubRises h k = (key : Key) (s : Session) → h.session key ≡ Some s → (t : Session) × (k.session key ≡ Some t) × IsLater s.peer t.peer

-- and so is each client, under its key
abbrev pub ClientsRise : Grand → Grand → Type 0
ClientsRise w v = (n : ℕ) (c : Client) → at_number w.clients n ≡ Some c
    → (d : Client) × (at_number v.clients n ≡ Some d) × (d.key ≡ c.key) × IsLater c.dialer.session.peer d.dialer.session.peer
