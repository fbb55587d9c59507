use Rattle.std.proofs.Common.{◌<◌, length, arith}
use Rattle.ra_model.specs.EndpointStates.{entry_written}
use Rattle.ra_queue.proofs.Marked.{marked}
use Rattle.ra_queue.proofs.unacked.mark_each.Goals as goal

pub loop-entry-preserved : goal.loop-entry-preserved
loop-entry-preserved c =
    let lt : c.loop-entry.entry-index < length c.args.entries.now = omega (arith, c.loop-entry-test.true) in
    marked (entry_written c.args.now) c.args.entries.now c.loop-entry.entries c.loop-entry.entry-index c.entry-item.result lt c.loop-entry.invariant
