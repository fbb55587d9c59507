use Rattle.std.proofs.Common.{ap}
use Rattle.ra_hub.specs.Keeping.{Stands}
use Rattle.std.proofs.Common.{◌<◌, subst}
use Rattle.ra_registry.specs.Seats.{unspent}
use Rattle.ra_registry.specs.RegistryStates.{RegistryState}
use Rattle.ra_record_laws.proofs.Leading.{loses_to}
use Rattle.ra_record_laws.proofs.calls.lose.Goals as goal

pub returns : goal.returns
returns g c =
    λ h stands.
    let r = loses_to (Stands c.lost.new.self) h c.args.seat c.args.now (c.lost.ensures.told h stands) in
    let held = subst (λ (x : RegistryState). 0 < unspent c.args.seat x.history) stands.registry_is c.requires in
    (r.0, r.1, (held, (r.2, ap (λ k. g.R.Keeper.told k) c.lost.ensures.kept)))
