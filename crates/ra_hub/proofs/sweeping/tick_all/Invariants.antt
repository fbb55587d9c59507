use Rattle.std.proofs.Common.{◌≤◌, take}
use Rattle.ra_hub.specs.Sweeping.{TicksAll}
use Rattle.ra_hub.specs.Sweeps.{AreDistinct}
use Rattle.ra_hub.proofs.sweeping.tick_all.Given as goal

abbrev pub invariant-loop-key : goal.invariant-loop-key
invariant-loop-key l = record {
  ticked : AreDistinct l.keys → TicksAll (take l.key-index l.keys) l.now l.short l.fn.sessions l.sessions;
  bound : l.short ≤ l.key-index;
}
