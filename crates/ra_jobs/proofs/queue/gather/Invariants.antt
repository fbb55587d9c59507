use Rattle.std.proofs.Common.{◌≡◌, ◌++◌, ◌+◌, [], length, map}
use Rattle.crossbeam_queue.specs.Passes.{view}
use Rattle.ra_jobs.specs.Seats.{all_taken, log_of, put_by}
use Rattle.ra_jobs.specs.Logs.{seat_log}
use Rattle.ra_jobs.proofs.queue.gather.Given as goal

abbrev pub invariant-loop-seat : goal.invariant-loop-seat
invariant-loop-seat g l =
    (l.pass.table_id ≡ g.B.QueueName.table) × (l.pass.me.1 ≡ [])
    × (view l.pass ≡ seat_log ((view l.fn.pass).parts + length l.yielded) (view l.fn.pass).put ((view l.fn.pass).joined ++ map (λ s. put_by s.pass) l.yielded) ((view l.fn.pass).taken ++ all_taken (map (λ s. log_of s.pass) l.yielded)))
