use Rattle.std.proofs.Common.{◌-◌, ◌^◌}
use Rattle.ra_grand_runs.specs.Grands.{Grand}
use Rattle.ra_grand.specs.GrandStates.{StandsForGrand}
use Rattle.ra_commands.proofs.GrandRunning.{IsDraining}
use Rattle.ra_commands.proofs.grand.drain.Given as goal

abbrev pub invariant-loop-turn : goal.invariant-loop-turn
invariant-loop-turn l = (w : Grand) → StandsForGrand l.fn.world w → IsDraining l.client w (2 ^ 64 - l.turn) l.world l.fn.text.items l.text.items
