use Rattle.std.proofs.Common.{arith}
use Rattle.sqlite.specs.Held.{state}
use Rattle.ra_keep_sql.proofs.KeeperLemmas.{told_means}
use Rattle.ra_keep_sql.proofs.sql_keeper.SqlKeeperKeeper.append.Goals as goal

pub returns-in-Ok-clause-added : goal.returns-in-Ok-clause-added
returns-in-Ok-clause-added g c = rw (← c.self.view_is) (λ list is. (c.in-Ok.ensures.added (told_means (state g.S.Store c.add.new.conn) list is).0).told list is)

pub returns-in-Ok-clause-full : goal.returns-in-Ok-clause-full
returns-in-Ok-clause-full g c = rw (← c.self.view_is) (λ list is large.
    let t = told_means (state g.S.Store c.self.inside.conn) list is in
    let next = (c.self.invariant t.0 t.1).numbered list t.2 in
    absurd (omega (arith, next, large, c.if-self.false)))

pub returns-in-Err-NoMemory-clause-refused : goal.returns-in-Err-NoMemory-clause-refused
returns-in-Err-NoMemory-clause-refused g c = rw (← c.self.view_is) (λ list is. (c.in-Err-NoMemory.ensures.same (told_means (state g.S.Store c.add.new.conn) list is).0).told list is)

pub returns-in-Err-NoMemory-clause-full : goal.returns-in-Err-NoMemory-clause-full
returns-in-Err-NoMemory-clause-full g c = rw (← c.self.view_is) (λ list is large.
    let t = told_means (state g.S.Store c.self.inside.conn) list is in
    let next = (c.self.invariant t.0 t.1).numbered list t.2 in
    absurd (omega (arith, next, large, c.if-self.false)))

pub returns-in-Err-Failed-clause-refused : goal.returns-in-Err-Failed-clause-refused
returns-in-Err-Failed-clause-refused g c = rw (← c.self.view_is) (λ list is. (c.in-Err-Failed.ensures.same (told_means (state g.S.Store c.add.new.conn) list is).0).told list is)
