use Rattle.std.proofs.Common.{ap}
use Rattle.ra_record_laws.proofs.calls.tick.Goals as goal

pub returns : goal.returns
returns g c =
    λ h stands.
    let r = c.tick.ensures.told h stands in
    (r.0, r.1, (r.2, ap (λ k. g.R.Keeper.told k) c.tick.ensures.kept))
