use Rattle.std.proofs.Common.{◌≡◌, arith}
use Rattle.crossbeam_queue.specs.Passes.{view}
use Rattle.ra_jobs.proofs.Moves.{takes}
use Rattle.ra_jobs.proofs.queue.JobQueue.take.Goals as goal

pub pop_as-requires-clause-rule : goal.pop_as-requires-clause-rule
pop_as-requires-clause-rule g c =
    let one : (view c.args.seat.now.pass).parts ≡ 1 = c.args.seat.now.one_part in
    (takes c.args.seat.now.pass.id (view c.args.seat.now.pass) (omega (arith, one)), λ items views b at. tt)
