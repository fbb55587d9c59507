use Rattle.std.proofs.Common.{◌≡◌, [], ◌++◌, length, map}
use Rattle.ra_router.specs.Hops.{replay}
use Rattle.ra_router.specs.Stepping.{StandsFor, told_by}
use Rattle.ra_router.proofs.runs.run.Given as goal

abbrev pub invariant-loop-step : goal.invariant-loop-step
invariant-loop-step l = record {
  stands : StandsFor l.router l.yielded;
  tells : map told_by l.told.items ≡ replay [] l.yielded;
  whole : l.yielded ++ l.step-iterator.rest.items ≡ l.fn.steps.items;
  len : l.step-iterator.rest.len ≡ length l.step-iterator.rest.items;
}
