use Rattle.std.proofs.Common.{◌≡◌, ◌+◌, length, subst, ap, Err, rules}
use Rattle.ra_keep_sql.specs.Keepers.{IsServed}
use Rattle.sqlite.specs.Held.{state}
use Rattle.ra_keep_sql.proofs.OpeningLemmas.{read_served, read_refused}
use Rattle.ra_keep_sql.proofs.calls.read_on.Goals as goal

pub returns-in-Ok-clause-served : goal.returns-in-Ok-clause-served
returns-in-Ok-clause-served g c clean =
    let got = c.in-Ok.ensures.read clean in
    let count : length c.in-Ok.records.items ≡ c.len.result = search rules in
    subst (λ k. IsServed (state g.S.Store c.args.conn.now) (state g.S.Store c.read.new.conn) (k + 1)) count
    (read_served (state g.S.Store c.args.conn.now) (state g.S.Store c.read.new.conn) got.0 c.in-Ok.records.items c.requires.schema c.requires.settled c.requires.autocommit c.requires.unlimited c.read.ensures.survives.limit got.1 got.2)

pub returns-in-Err-clause-refused : goal.returns-in-Err-clause-refused
returns-in-Err-clause-refused g c clean =
    read_refused (state g.S.Store c.args.conn.now) (state g.S.Store c.read.new.conn) c.in-Err.fault c.requires.schema c.requires.unlimited (λ row is. c.in-Err.ensures.bad row (ap Err is) clean) (λ is. c.in-Err.ensures.failed (ap Err is) clean)
