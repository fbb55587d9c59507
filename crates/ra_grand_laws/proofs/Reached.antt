-- The channels of each world that a run reaches.
use Rattle.std.proofs.Common.{◌≡◌, ℕ, zero, suc, Some, List}
use Rattle.ra_base.specs.declared.kind.Kind.TheVariants.{Tunnel}
use Rattle.ra_model.specs.Links.{at_number}
use Rattle.ra_grand_runs.specs.GrandClients.{Client}
use Rattle.ra_grand_runs.specs.GrandRuns.{run}
use Rattle.ra_grand_runs.specs.Grands.{Grand, new_grand}
use Rattle.ra_grand_runs.specs.Marks.{Entry}
use Rattle.ra_run_laws.specs.Runs.{IsRun}
use Rattle.ra_run_laws.proofs.Lists.{none_there}
use Rattle.ra_link_laws.specs.Parts.{WorldKeeps}
use Rattle.ra_grand_laws.specs.ChannelParts.{ChannelsKeep}
use Rattle.ra_grand_laws.specs.Outcomes.{settled, fired}
use Rattle.ra_grand_laws.proofs.FittingRuns.{fits_run}

pub channels_reached : (entries : List Entry) → IsRun entries → ChannelsKeep (run entries new_grand) (λ n. settled n entries new_grand) (λ n. fired n entries new_grand)
channels_reached entries is = (fits_run entries is.fits is.keys is.requests).1

-- no client is one of a tunnel
pub no_tunnel : (w : Grand) (n : ℕ) (c : Client) → WorldKeeps w → at_number w.clients n ≡ Some c → c.key.kind ≡ Tunnel → ⊥
no_tunnel w zero c keeps is = none_there is
no_tunnel w (suc n) c keeps is = (keeps.parts n c is).kind
