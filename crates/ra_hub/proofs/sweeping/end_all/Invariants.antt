use Rattle.std.proofs.Common.{take}
use Rattle.ra_hub.specs.Sweeping.{EndsAll}
use Rattle.ra_hub.proofs.sweeping.end_all.Given as goal

abbrev pub invariant-loop-entry : goal.invariant-loop-entry
invariant-loop-entry l = EndsAll (take l.entry-index l.entries) l.fn.sessions l.sessions
