use Rattle.std.proofs.lemmas.Result.{err_from_is_err_and}
use Rattle.ra_grand.proofs.UpSteps.{up_refused, up_done}
use Rattle.ra_grand.proofs.world.GrandWorld.up.Goals as goal

pub returns-in_err-spot : goal.returns-in_err-spot
returns-in_err-spot c =
    let p = err_from_is_err_and c.from_residual.result c.from_residual.ensures.1 in
    λ w stands. rw (p.1, p.2) (up_refused c.args.link c.args.count c.in_err-spot.field-0.0 c.args.self.now w stands (c.in_err-spot.ensures.waits w stands))

pub returns-in-Ok : goal.returns-in-Ok
returns-in-Ok c =
    λ w stands.
    up_done c.args.link c.args.count c.in_ok-bytes.bytes c.deliver.result c.bytes_of.new.self c.deliver.new.self c.in_ok-spot.spot w (c.in_ok-bytes.ensures.stands w stands)
    (c.in_ok-spot.ensures.waits w stands) (λ f found. c.in_ok-bytes.ensures.chosen w f stands found) c.deliver.ensures
