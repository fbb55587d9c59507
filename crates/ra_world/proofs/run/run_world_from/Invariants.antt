use Rattle.std.proofs.Common.{◌≡◌, true, take}
use Rattle.ra_model.specs.Worlds.{new_world}
use Rattle.ra_model.specs.Events.{run, is_accepted}
use Rattle.ra_world.specs.WorldStates.{StandsForWorld}
use Rattle.ra_world.proofs.run.run_world_from.Given as goal

-- the world is that of the events so far, and none of them was refused
abbrev pub invariant-loop-at : goal.invariant-loop-at
invariant-loop-at l = record {
  stands : StandsForWorld l.world (run (take l.at l.events) (new_world l.base));
  accepted : is_accepted (take l.at l.events) (new_world l.base) ≡ true;
}
