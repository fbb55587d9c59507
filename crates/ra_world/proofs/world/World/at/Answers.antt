use Rattle.ra_world.proofs.WorldEvents.{at_answers}
use Rattle.ra_world.proofs.world.World.at.Goals as goal

pub returns-clause-does : goal.returns-clause-does
returns-clause-does c = rw (← c.self.view_is) (at_answers _ _ c.args.now c.later-self-inside.ensures)
