use Rattle.std.proofs.Common.{ap}
use Rattle.ra_hub.specs.Keeping.{Stands}
use Rattle.ra_record_laws.proofs.Leading.{tells_to}
use Rattle.ra_record_laws.proofs.calls.tell.Goals as goal

pub returns : goal.returns
returns g c =
    λ h stands.
    let r = tells_to (Stands c.tell.new.self) h c.args.key.now c.args.word c.args.now c.tell.result (c.tell.ensures.told h stands) in
    (r.0, r.1, (r.2, ap (λ k. g.R.Keeper.told k) c.tell.ensures.kept))
