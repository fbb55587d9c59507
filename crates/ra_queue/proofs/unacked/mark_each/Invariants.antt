use Rattle.std.proofs.Common.{◌≡◌, ◌++◌, take, drop, map}
use Rattle.ra_model.specs.EndpointStates.{entry_written}
use Rattle.ra_queue.proofs.unacked.mark_each.Given as goal

abbrev pub invariant-loop-entry : goal.invariant-loop-entry
invariant-loop-entry l = l.entries ≡ map (entry_written l.now) (take l.entry-index l.fn.entries) ++ drop l.entry-index l.fn.entries
