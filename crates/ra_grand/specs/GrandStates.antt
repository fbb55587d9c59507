-- What a world in memory stands for.
use Rattle.std.specs.Prelude.{◌≡◌, ◌⊎◌, ℕ, suc, ◌<◌, true, Option, Some, None, slice_get}
use Rattle.ra_dial.specs.Calling.{is_calling}
use Rattle.ra_grand.specs.declared.world.GrandWorld.{GrandWorld}
use Rattle.ra_grand_clients.specs.Crowds.{ClientsStand}
use Rattle.ra_grand_runs.specs.GrandClients.{Client}
use Rattle.ra_grand_runs.specs.Grands.{Grand}
use Rattle.ra_grand_runs.specs.Reached.{WorldHolds}
use Rattle.ra_grand_server.specs.ServerStates.{StandsForServer}

pub record StandsForGrand (s : GrandWorld) (w : Grand) : Type 0 where
  pub now : w.now ≡ s.moment
  pub server : StandsForServer s.server w
  pub clients : ClientsStand s.clients w.clients
  pub holds : WorldHolds w

-- the place of a number, of so many
abbrev pub IsIndex : ℕ → ℕ → Option ℕ → Type 0
IsIndex number count None = (number ≡ 0) ⊎ (count < number)
IsIndex number count (Some n) = (number ≡ suc n) × (n < count)

-- the dialer of the client at this place waits for a link
abbrev pub CallsAt : ℕ → Grand → Type 0
CallsAt n w = (c : Client) → slice_get w.clients n ≡ Some c → is_calling c.dialer.stage ≡ true
