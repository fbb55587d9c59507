use Rattle.ra_model.specs.Worlds.{World as AbstractWorld}
use Rattle.ra_world.specs.WorldStates.{StandsForWorld}
use Rattle.ra_endpoint_commands.proofs.DrainLemmas.{IsDraining}
use Rattle.ra_endpoint_commands.proofs.replay.drain.Given as goal

abbrev pub invariant-frames : goal.invariant-frames
invariant-frames l = (w : AbstractWorld) → StandsForWorld l.fn.world w → IsDraining l.side w l.world l.fn.text.items l.text.items
