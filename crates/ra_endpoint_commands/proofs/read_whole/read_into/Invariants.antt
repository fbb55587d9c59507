use Rattle.std.proofs.Common.{◌-◌, length}
use Rattle.ra_endpoint_commands.proofs.WholeLemmas.{IsReading}
use Rattle.ra_endpoint_commands.proofs.read_whole.read_into.Given as goal

abbrev pub invariant-pieces : goal.invariant-pieces
invariant-pieces g l = IsReading l.limit (g.S.Source.left l.fn.source) (g.S.Source.left l.source) l.bytes.items (g.S.Source.faults l.fn.source) (g.S.Source.faults l.source)

abbrev pub decreases-pieces : goal.decreases-pieces
decreases-pieces g l = l.limit - length l.bytes.items
