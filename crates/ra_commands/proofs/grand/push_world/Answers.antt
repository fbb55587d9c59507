use Rattle.ra_commands.proofs.GrandRunning.{world_printed}
use Rattle.ra_commands.proofs.grand.push_world.Goals as goal

pub returns : goal.returns
returns c =
    world_printed c.push_counted.result c.args.world.now c.clients.result c.links.result c.jobs.result _ _ c.clients.ensures c.links.ensures c.jobs.ensures c.push_counted.ensures
