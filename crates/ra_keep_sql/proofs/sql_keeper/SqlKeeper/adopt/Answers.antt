use Rattle.std.proofs.Common.{◌∙◌}
use Rattle.sqlite.specs.Held.{state}
use Rattle.ra_keep_sql.proofs.KeeperLemmas.{told_where}
use Rattle.ra_keep_sql.proofs.OpeningLemmas.{refused_limit}
use Rattle.ra_keep_sql.proofs.sql_keeper.SqlKeeper.adopt.Goals as goal

pub returns-in-Ok-clause-adopted : goal.returns-in-Ok-clause-adopted
returns-in-Ok-clause-adopted g c clean =
    let s = rw c.set_step_limit.ensures at (c.in-Ok.ensures.served clean) in
    record { rows = s.2.0; there = s.2.1; told = told_where (state g.S.Store c.prepare.new.conn) clean s.0 ∙ s.2.2 }

pub returns-in-Err-clause-refused : goal.returns-in-Err-clause-refused
returns-in-Err-clause-refused g c clean =
    refused_limit (state g.S.Store c.args.connection) (state g.S.Store c.prepare.new.conn) c.in-Err.fault (rw c.set_step_limit.ensures at (c.in-Err.ensures.refused clean))
