use Rattle.ra_hub.specs.Keeping.{Stands}
use Rattle.ra_record_laws.proofs.Leading.{admits_to}
use Rattle.ra_record_laws.proofs.calls.admit.Goals as goal

pub returns : goal.returns
returns g c =
    λ h stands.
    let r = admits_to (Stands c.admit.new.self) h c.args.ask c.args.now c.admit.result (c.admit.ensures.told h stands) in
    (r.0, r.1, (r.2, c.admit.ensures.record))
