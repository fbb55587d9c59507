-- A hub, its clients, the links between them and the jobs that wait, at one moment.
use Rattle.std.specs.Prelude.{ℕ, Option, Some, None, List, []}
use Rattle.ra_model.specs.Links.{at_number, put_number}
use Rattle.ra_hub.specs.Hubs.{Hub, started}
use Rattle.ra_hub.specs.Jobs.{SeenJob}
use Rattle.ra_grand_runs.specs.SetUps.{long_grace, short_grace}
use Rattle.ra_grand_runs.specs.GrandClients.{GrandLink, Client}

-- whose link it is, and which of that client's links, each counted from 1
pub record Place : Type 0 where
  pub client : ℕ
  pub link : ℕ

-- The moment, the hub, how many draws the server made, the jobs that wait, the clients, and the place of each link, in the order in which
-- they were made.
pub record Grand : Type 0 where
  pub now : ℕ
  pub hub : Hub
  pub drawn : ℕ
  pub jobs : List SeenJob
  pub clients : List Client
  pub places : List Place

abbrev pub new_grand : Grand
new_grand = record { now = 0; hub = started long_grace short_grace []; drawn = 0; jobs = []; clients = []; places = [] }

-- ---- one client

abbrev pub changed : ℕ → (Client → Client) → Option Client → List Client → List Client
changed n f None clients = clients
changed n f (Some c) clients = put_number clients n (f c)

-- this client becomes another, where it is there
abbrev pub with_client : ℕ → (Client → Client) → Grand → Grand
with_client n f w = record w { clients = changed n f (at_number w.clients n) w.clients }

-- ---- one link

-- a link that was found: its place, its client and itself
pub record Found : Type 0 where
  pub place : Place
  pub client : Client
  pub link : GrandLink

abbrev pub found_link : Place → Client → Option GrandLink → Option Found
found_link place c None = None
found_link place c (Some l) = Some (record { place = place; client = c; link = l })

abbrev pub found_client : Place → Option Client → Option Found
found_client place None = None
found_client place (Some c) = found_link place c (at_number c.links place.link)

abbrev pub found_at : Option Place → List Client → Option Found
found_at None clients = None
found_at (Some place) clients = found_client place (at_number clients place.client)

-- the link with this number
abbrev pub find_link : ℕ → Grand → Option Found
find_link n w = found_at (at_number w.places n) w.clients

abbrev pub with_link : ℕ → GrandLink → Client → Client
with_link n l c = record c { links = put_number c.links n l }

-- this link becomes another
abbrev pub put_link : Found → GrandLink → Grand → Grand
put_link f l w = record w { clients = put_number w.clients f.place.client (with_link f.place.link l f.client) }

abbrev pub on_link : (Found → Grand → Grand) → Option Found → Grand → Grand
on_link change None w = w
on_link change (Some f) w = change f w
