use Rattle.std.proofs.Common.{◌≡◌, ◌++◌}
use Rattle.crossbeam_queue.specs.Passes.{view, IsPassOf}
use Rattle.ra_jobs.specs.Logs.{seat_log}
use Rattle.ra_jobs.proofs.queue.drain.Given as goal

abbrev pub invariant-loop : goal.invariant-loop
invariant-loop g l =
    IsPassOf l.ring l.pass
    × (view l.pass ≡ seat_log (view l.fn.pass).parts (view l.fn.pass).put (view l.fn.pass).joined ((view l.fn.pass).taken ++ l.rest.items))
