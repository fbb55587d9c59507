use Rattle.ra_endpoint_commands.proofs.ScriptLemmas.{world_printed}
use Rattle.ra_endpoint_commands.proofs.replay.push_world.Goals as goal

pub returns : goal.returns
returns c = λ w stands.
    world_printed w _ _ _ _ _ _ c.in_ok-extend_from_slice.ensures.items (c.in_ok-push_side.ensures w stands) c.in_ok-push.ensures.items (c.in_ok-push_side-2.ensures w stands) c.in_ok-push-2.ensures.items
