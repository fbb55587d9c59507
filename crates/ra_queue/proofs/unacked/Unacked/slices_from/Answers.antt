use Rattle.std.proofs.Common.{rules}
use Rattle.ra_queue.proofs.Fronts.{parts_from}
use Rattle.ra_queue.proofs.unacked.Unacked.slices_from.Goals as goal

pub returns : goal.returns
returns c = parts_from c.args.at c.min-skipped.result c.as_slices.result.0.now c.as_slices.result.1.now _ (search rules) (search rules)
