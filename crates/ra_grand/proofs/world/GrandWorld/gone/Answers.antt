use Rattle.std.proofs.Common.{refl}
use Rattle.std.proofs.lemmas.Result.{err_from_is_err_and}
use Rattle.ra_grand.proofs.GoneSteps.{gone_refused, gone_done}
use Rattle.ra_grand.proofs.world.GrandWorld.gone.Goals as goal

pub returns-in_err-spot : goal.returns-in_err-spot
returns-in_err-spot c =
    let p = err_from_is_err_and c.from_residual.result c.from_residual.ensures.1 in
    λ w stands. rw (p.1, p.2) (gone_refused c.args.link c.in_err-spot.field-0.0 c.args.self.now w stands (c.in_err-spot.ensures.waits w stands))

pub returns : goal.returns
returns c =
    λ w stands.
    gone_done c.args.link c.args.self.now _ c.in_ok-spot.spot w c.in_ok-spot.ensures.there.served c.in_ok-spot.ensures.there.client stands (c.in_ok-spot.ensures.waits w stands) refl refl c.leave.ensures
