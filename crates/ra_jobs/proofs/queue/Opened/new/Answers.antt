use Rattle.ra_jobs.proofs.Moves.{begins}
use Rattle.ra_jobs.proofs.queue.Opened.new.Goals as goal

pub ruled-requires-clause-rule : goal.ruled-requires-clause-rule
ruled-requires-clause-rule c = begins
