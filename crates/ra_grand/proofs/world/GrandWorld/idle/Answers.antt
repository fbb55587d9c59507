use Rattle.std.proofs.Common.{arith}
use Rattle.std.proofs.lemmas.Result.{err_from_is_err_and}
use Rattle.ra_grand.proofs.UpSteps.{idle_refused, idle_done}
use Rattle.ra_grand.proofs.world.GrandWorld.idle.Goals as goal

pub deliver-requires-clause-unread : goal.deliver-requires-clause-unread
deliver-requires-clause-unread c =
    rw c.empty-nothing.ensures (record { link = c.in_ok-spot.ensures.there.link.0; is = c.in_ok-spot.ensures.there.link.1; within = omega arith })

pub returns-in_err-spot : goal.returns-in_err-spot
returns-in_err-spot c =
    let p = err_from_is_err_and c.from_residual.result c.from_residual.ensures.1 in
    λ w stands. rw (p.1, p.2) (idle_refused c.args.link c.in_err-spot.field-0.0 c.args.self.now w stands (c.in_err-spot.ensures.waits w stands))

pub returns-in-Ok : goal.returns-in-Ok
returns-in-Ok c =
    let delivers = rw c.empty-nothing.ensures at c.deliver.ensures in
    λ w stands. idle_done c.args.link c.deliver.result c.args.self.now c.deliver.new.self c.in_ok-spot.spot w stands (c.in_ok-spot.ensures.waits w stands) delivers
