-- Where a link is in memory, and the bytes that are taken of it.
use Rattle.std.specs.Prelude.{◌≡◌, ℕ, suc, ◌<◌, Option, Some, None, Result, Ok, Err, List, length, take, slice_get}
use Rattle.ra_base.specs.declared.event.Count.{Count}
use Rattle.ra_base.specs.declared.event.Side.{Side}
use Rattle.ra_model.specs.Links.{at_number, amount, readable}
use Rattle.ra_grand_runs.specs.declared.fault.GrandFault.{GrandFault}
use Rattle.ra_grand.specs.declared.spot.Spot.{Spot}
use Rattle.ra_grand.specs.declared.world.GrandWorld.{GrandWorld}
use Rattle.ra_grand_clients.specs.ClientLinks.{HasLink}
use Rattle.ra_grand_runs.specs.GrandClients.{GrandLink}
use Rattle.ra_grand_runs.specs.GrandRefusals.{if_unread}
use Rattle.ra_grand_runs.specs.Grands.{Grand, Found}
use Rattle.ra_grand_runs.specs.GrandViews.{IsCause}

-- a link that was found is the one at that spot
pub record FoundAt (spot : Spot) (w : Grand) (f : Found) : Type 0 where
  pub place : at_number w.places (suc spot.served) ≡ Some f.place
  pub client_number : f.place.client ≡ suc spot.client
  pub link_number : f.place.link ≡ suc spot.link
  pub client : slice_get w.clients spot.client ≡ Some f.client
  pub link : slice_get f.client.links spot.link ≡ Some f.link

-- no link was found, or the one at that spot
abbrev pub IsSpot : Option Spot → Grand → Option Found → Type 0
IsSpot None w found = found ≡ None
IsSpot (Some spot) w found = (f : Found) × (found ≡ Some f) × FoundAt spot w f

-- in memory both ends of it are there
pub record IsThere (spot : Spot) (s : GrandWorld) : Type 0 where
  pub served : spot.served < length s.server.links
  pub client : spot.client < length s.clients
  pub link : HasLink spot.client spot.link s.clients

-- the bytes of a count that a side can read, unless it asks for more than are there
abbrev pub Chooses : Result (List ℕ) GrandFault → Side → Count → GrandLink → Type 0
Chooses (Ok bytes) side count l = (if_unread side count l ≡ None) × (bytes ≡ take (amount count (length (readable side l.link))) (readable side l.link))
Chooses (Err fault) side count l = IsCause fault (if_unread side count l)
