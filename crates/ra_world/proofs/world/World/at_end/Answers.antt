use Rattle.ra_world.proofs.WorldEvents.{end_answers}
use Rattle.ra_world.proofs.world.World.at_end.Goals as goal

pub returns-clause-does : goal.returns-clause-does
returns-clause-does c = rw (← c.self.view_is) (end_answers c.args.side c.args.event.now _ _ c.apply.result c.apply.ensures.does c.apply.ensures.other)
