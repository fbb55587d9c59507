use Rattle.std.proofs.Common.{arith}
use Rattle.crossbeam_queue.specs.Passes.{view}
use Rattle.ra_jobs.proofs.Moves.{forks}
use Rattle.ra_jobs.proofs.queue.Maker.seat.Goals as goal

pub another-pass-requires-clause-rule : goal.another-pass-requires-clause-rule
another-pass-requires-clause-rule g c = forks c.self.inside.pass.id (view c.self.inside.pass) (omega arith)
