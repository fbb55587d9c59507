use Rattle.ra_registry.specs.RowChanges.{shorten}
use Rattle.ra_registry.proofs.RowLemmas.{shorten_twice}
use Rattle.ra_registry.proofs.TableLemmas.{one_more_change}
use Rattle.ra_registry.proofs.rows.shorten_rows.Goals as goal

pub loop-entry-preserved : goal.loop-entry-preserved
loop-entry-preserved c =
    one_more_change c.args.rows.now c.loop-entry.rows c.shorten_row.new.rows c.args.entries.now c.loop-entry.entry-index c.entry-item.result
    (shorten c.args.at) (shorten_twice c.args.at) c.loop-entry-test.true c.entry-item.is c.loop-entry.invariant c.shorten_row.ensures
