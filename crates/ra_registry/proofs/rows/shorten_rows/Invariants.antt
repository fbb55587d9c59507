use Rattle.std.proofs.Common.{take}
use Rattle.ra_registry.specs.RowChanges.{shorten}
use Rattle.ra_registry.specs.TableChanges.{ChangesRows}
use Rattle.ra_registry.proofs.rows.shorten_rows.Given as goal

abbrev pub invariant-loop-entry : goal.invariant-loop-entry
invariant-loop-entry l = ChangesRows l.fn.rows l.rows (take l.entry-index l.entries) (shorten l.at)
