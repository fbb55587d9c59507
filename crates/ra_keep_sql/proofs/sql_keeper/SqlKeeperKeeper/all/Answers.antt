use Rattle.sqlite.specs.Held.{state}
use Rattle.ra_keep_sql.proofs.KeeperLemmas.{told_means}
use Rattle.ra_keep_sql.proofs.sql_keeper.SqlKeeperKeeper.all.Goals as goal

pub invariant_of-self : goal.invariant_of-self
invariant_of-self g c clean up = (c.read_all.ensures.same c.self.inside.next c.self.invariant clean).serves up

pub invariant_of-self-in-Err-NoMemory : goal.invariant_of-self-in-Err-NoMemory
invariant_of-self-in-Err-NoMemory g c clean up = (c.read_all.ensures.same c.self.inside.next c.self.invariant clean).serves up

pub invariant_of-self-in-Err-Failed : goal.invariant_of-self-in-Err-Failed
invariant_of-self-in-Err-Failed g c clean up = (c.read_all.ensures.same c.self.inside.next c.self.invariant clean).serves up

pub returns-in-Ok-clause-records : goal.returns-in-Ok-clause-records
returns-in-Ok-clause-records g c list told = c.in-Ok.ensures.records c.self.inside.next c.self.invariant list told

pub returns-in-Ok-clause-same : goal.returns-in-Ok-clause-same
returns-in-Ok-clause-same g c = rw (← c.self.view_is) (λ list told. (c.read_all.ensures.same c.self.inside.next c.self.invariant (told_means (state g.S.Store c.read_all.new.conn) list told).0).told list told)

pub returns-in-Err-NoMemory-clause-same : goal.returns-in-Err-NoMemory-clause-same
returns-in-Err-NoMemory-clause-same g c = rw (← c.self.view_is) (λ list told. (c.read_all.ensures.same c.self.inside.next c.self.invariant (told_means (state g.S.Store c.read_all.new.conn) list told).0).told list told)

pub returns-in-Err-Failed-clause-same : goal.returns-in-Err-Failed-clause-same
returns-in-Err-Failed-clause-same g c = rw (← c.self.view_is) (λ list told. (c.read_all.ensures.same c.self.inside.next c.self.invariant (told_means (state g.S.Store c.read_all.new.conn) list told).0).told list told)

pub returns-in-Err-Failed-clause-failed : goal.returns-in-Err-Failed-clause-failed
returns-in-Err-Failed-clause-failed g c = rw (← c.self.view_is) (λ list told clean.
    let t = told_means (state g.S.Store c.self.inside.conn) list told in
    rw c.in-Err-Failed.field-0-is at (c.in-Err-Failed.ensures.failed c.self.inside.next (c.self.invariant t.0 t.1) t.1 list t.2 clean))
