use Rattle.std.proofs.lemmas.Int.{to_z-of_z}
use Rattle.std.proofs.Common.{w64}
use Rattle.ra_keep_sql.proofs.statements.run_insert.Goals as goal

pub returns-clause-runs : goal.returns-clause-runs
returns-clause-runs g c clean =
    rw (c.params-to_sql.ensures, c.params-to_sql-2.ensures, c.params-to_sql-3.ensures, c.params-to_sql-4.ensures, c.params-to_sql-5.ensures, to_z-of_z w64 c.args.n c.ranges.n, to_z-of_z w64 c.args.kind c.ranges.kind, to_z-of_z w64 c.args.epoch c.ranges.epoch, to_z-of_z w64 c.args.moment c.ranges.moment) at (c.execute.ensures.runs clean)

pub returns-clause-survives : goal.returns-clause-survives
returns-clause-survives g c =
    rw (c.params-to_sql.ensures, c.params-to_sql-2.ensures, c.params-to_sql-3.ensures, c.params-to_sql-4.ensures, c.params-to_sql-5.ensures, to_z-of_z w64 c.args.n c.ranges.n, to_z-of_z w64 c.args.kind c.ranges.kind, to_z-of_z w64 c.args.epoch c.ranges.epoch, to_z-of_z w64 c.args.moment c.ranges.moment) at c.execute.ensures.survives
