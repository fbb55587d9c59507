use Rattle.sqlite.specs.Held.{state}
use Rattle.ra_keep_sql.proofs.AddLemmas.{Settles, adds_ok, stays_err, failed_by, crash_leaves, crash_keeps}
use Rattle.ra_keep_sql.proofs.calls.add.Goals as goal

pub returns-in-Ok-clause-added : goal.returns-in-Ok-clause-added
returns-in-Ok-clause-added g c clean =
    adds_ok (state g.S.Store c.args.conn.now) (state g.S.Store c.insert.new.conn) c.args.n c.args.kept.now c.requires.number c.requires.kind c.requires.at c.insert.ensures.token c.requires.serves c.insert.ensures.survives clean c.in-Ok.field-0
    (c.in-Ok.ensures.runs clean)

pub returns-in-Ok-clause-crash : goal.returns-in-Ok-clause-crash
returns-in-Ok-clause-crash g c clean up list there =
    let law : Settles (state g.S.Store c.args.conn.now) = λ live db may. g.met.S.Store.settled c.args.conn.now.store db live may in
    crash_leaves (state g.S.Store c.args.conn.now) (state g.S.Store c.insert.new.conn) c.args.n c.args.kept.now c.requires.number c.requires.kind c.requires.at c.insert.ensures.token c.requires.serves c.insert.ensures.survives clean law up list there

pub returns-in-Ok-clause-lasts : goal.returns-in-Ok-clause-lasts
returns-in-Ok-clause-lasts g c clean up list there =
    let law : Settles (state g.S.Store c.insert.new.conn) = λ live db may. g.met.S.Store.settled c.insert.new.conn.store db live may in
    crash_keeps (state g.S.Store c.args.conn.now) (state g.S.Store c.insert.new.conn) c.args.n c.args.kept.now c.requires.number c.requires.kind c.requires.at c.insert.ensures.token c.requires.serves c.insert.ensures.survives clean law up list there
    c.in-Ok.field-0 (c.in-Ok.ensures.runs clean)

pub returns-then-is_memory-clause-same : goal.returns-then-is_memory-clause-same
returns-then-is_memory-clause-same g c clean =
    stays_err (state g.S.Store c.args.conn.now) (state g.S.Store c.insert.new.conn) c.args.n c.args.kept.now c.requires.number c.requires.kind c.requires.at c.insert.ensures.token c.requires.serves c.insert.ensures.survives clean c.in-Err.error
    (c.in-Err.ensures.runs clean)

pub returns-then-is_memory-clause-crash : goal.returns-then-is_memory-clause-crash
returns-then-is_memory-clause-crash g c clean up list there =
    let law : Settles (state g.S.Store c.args.conn.now) = λ live db may. g.met.S.Store.settled c.args.conn.now.store db live may in
    crash_leaves (state g.S.Store c.args.conn.now) (state g.S.Store c.insert.new.conn) c.args.n c.args.kept.now c.requires.number c.requires.kind c.requires.at c.insert.ensures.token c.requires.serves c.insert.ensures.survives clean law up list there

pub returns-else-is_memory-clause-same : goal.returns-else-is_memory-clause-same
returns-else-is_memory-clause-same g c clean =
    stays_err (state g.S.Store c.args.conn.now) (state g.S.Store c.insert.new.conn) c.args.n c.args.kept.now c.requires.number c.requires.kind c.requires.at c.insert.ensures.token c.requires.serves c.insert.ensures.survives clean c.in-Err.error
    (c.in-Err.ensures.runs clean)

pub returns-else-is_memory-clause-failed : goal.returns-else-is_memory-clause-failed
returns-else-is_memory-clause-failed g c clean up =
    failed_by (state g.S.Store c.args.conn.now) (state g.S.Store c.insert.new.conn) c.args.n c.args.kept.now c.requires.number c.requires.kind c.requires.at c.insert.ensures.token c.requires.serves c.insert.ensures.survives clean up c.in-Err.error
    (c.in-Err.ensures.runs clean) (λ memory. let e = c.is_memory.ensures.1 memory in let f = c.if-is_memory.false in cc)

pub returns-else-is_memory-clause-crash : goal.returns-else-is_memory-clause-crash
returns-else-is_memory-clause-crash g c clean up list there =
    let law : Settles (state g.S.Store c.args.conn.now) = λ live db may. g.met.S.Store.settled c.args.conn.now.store db live may in
    crash_leaves (state g.S.Store c.args.conn.now) (state g.S.Store c.insert.new.conn) c.args.n c.args.kept.now c.requires.number c.requires.kind c.requires.at c.insert.ensures.token c.requires.serves c.insert.ensures.survives clean law up list there
