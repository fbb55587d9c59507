use Rattle.ra_grand.proofs.JobSteps.{swept_one}
use Rattle.ra_grand.proofs.world.GrandWorld.sweep.Goals as goal

pub returns : goal.returns
returns c = swept_one c.args.self.now c.sweep-swept.new.self c.sweep-swept.result c.sweep-swept.ensures
