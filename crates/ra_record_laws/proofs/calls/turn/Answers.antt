use Rattle.std.proofs.Common.{ap}
use Rattle.ra_hub.specs.Keeping.{Stands}
use Rattle.ra_record_laws.proofs.Leading.{turns_to}
use Rattle.ra_record_laws.proofs.calls.turn.Goals as goal

pub returns : goal.returns
returns g c =
    λ h stands.
    let r = turns_to (Stands c.turn.new.self) h c.args.seat.now c.args.piece.now c.args.now c.turn.result (c.turn.ensures.told h stands) in
    (r.0, r.1, (r.2, ap (λ k. g.R.Keeper.told k) c.turn.ensures.kept))
