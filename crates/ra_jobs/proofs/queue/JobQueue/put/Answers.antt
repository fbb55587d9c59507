use Rattle.std.proofs.Common.{◌≡◌, arith}
use Rattle.crossbeam_queue.specs.Passes.{view, ruled_capacity}
use Rattle.ra_jobs.proofs.Moves.{puts}
use Rattle.ra_jobs.proofs.queue.JobQueue.put.Goals as goal

pub push_as-requires-clause-rule : goal.push_as-requires-clause-rule
push_as-requires-clause-rule g c =
    let one : (view c.args.seat.now.pass).parts ≡ 1 = c.args.seat.now.one_part in
    (puts (ruled_capacity c.args.self.now.ring) c.args.seat.now.pass.id (view c.args.seat.now.pass) c.args.job (omega (arith, one)), λ items views b at. tt)
