use Rattle.sqlite.specs.Held.{state}
use Rattle.ra_keep_sql.proofs.OpeningLemmas.{made_served, made_failed}
use Rattle.ra_keep_sql.proofs.calls.begin.Goals as goal

pub returns-in-Ok-clause-served : goal.returns-in-Ok-clause-served
returns-in-Ok-clause-served g c clean =
    made_served (state g.S.Store c.args.conn.now) (state g.S.Store c.create.new.conn) c.in-Ok.field-0 c.requires.schema c.requires.autocommit c.requires.unlimited c.create.ensures.survives.limit (c.in-Ok.ensures.runs clean)

pub returns-else-is_memory-clause-refused : goal.returns-else-is_memory-clause-refused
returns-else-is_memory-clause-refused g c clean =
    made_failed (state g.S.Store c.args.conn.now) (state g.S.Store c.create.new.conn) c.in-Err.error c.requires.schema (c.in-Err.ensures.runs clean)
    (λ memory. let e = c.is_memory.ensures.1 memory in let f = c.if-is_memory.false in cc)
