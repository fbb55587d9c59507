use Rattle.ra_grand.proofs.RunSteps.{RunsTo}
use Rattle.ra_grand.proofs.applying.run_grand.Given as goal

abbrev pub invariant-loop-at : goal.invariant-loop-at
invariant-loop-at l = RunsTo l.events l.at l.world
