use Rattle.std.proofs.Common.{ap}
use Rattle.ra_hub.specs.Keeping.{Stands}
use Rattle.ra_record_laws.proofs.Leading.{attaches_to}
use Rattle.ra_record_laws.proofs.calls.attach.Goals as goal

pub returns : goal.returns
returns g c =
    λ h stands.
    let r = attaches_to (Stands c.attach.new.self) h c.args.seat.now c.args.chunk.now c.args.now c.attach.result (c.attach.ensures.told h stands) in
    (r.0, r.1, (r.2, ap (λ k. g.R.Keeper.told k) c.attach.ensures.kept))
