use Rattle.std.proofs.Common.{refl}
use Rattle.ra_grand.proofs.MovingSteps.{cut_done}
use Rattle.ra_grand.proofs.world.GrandWorld.cut.Goals as goal

pub returns-in-Ok : goal.returns-in-Ok
returns-in-Ok c =
    λ w stands.
    let made = cut_done c.args.self.now c.cut.new.self c.args.link c.in-Some.spot c.in-Ok.ensures.ok w stands (c.in-Some.ensures.found w stands) in (made.0, refl, made.1)
