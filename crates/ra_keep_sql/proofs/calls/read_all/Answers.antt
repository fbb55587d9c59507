use Rattle.std.proofs.Common.{ap, Err}
use Rattle.sqlite.specs.Held.{state}
use Rattle.ra_keep_sql.proofs.KeeperLemmas.{told_means}
use Rattle.ra_keep_sql.proofs.ReadLemmas.{queries_stay, reads_told, read_fault, no_bad_read}
use Rattle.ra_keep_sql.proofs.calls.read_all.Goals as goal

pub returns-in-Ok-clause-records : goal.returns-in-Ok-clause-records
returns-in-Ok-clause-records g c n start list told =
    let got = c.in-Ok.ensures.read (told_means (state g.S.Store c.read.new.conn) list told).0 in
    reads_told (state g.S.Store c.args.conn.now) (state g.S.Store c.read.new.conn) n got.0 c.in-Ok.records.items list start c.read.ensures.survives.clean got.1 got.2 told

pub returns-in-Ok-clause-same : goal.returns-in-Ok-clause-same
returns-in-Ok-clause-same g c n start clean =
    queries_stay (state g.S.Store c.args.conn.now) (state g.S.Store c.read.new.conn) n start c.read.ensures.survives.clean c.read.ensures.survives.limit clean (c.read.ensures.queries clean)

pub returns-in-Err-NoMemory-clause-same : goal.returns-in-Err-NoMemory-clause-same
returns-in-Err-NoMemory-clause-same g c n start clean =
    queries_stay (state g.S.Store c.args.conn.now) (state g.S.Store c.read.new.conn) n start c.read.ensures.survives.clean c.read.ensures.survives.limit clean (c.read.ensures.queries clean)

pub returns-in-Err-Failed-clause-same : goal.returns-in-Err-Failed-clause-same
returns-in-Err-Failed-clause-same g c n start clean =
    queries_stay (state g.S.Store c.args.conn.now) (state g.S.Store c.read.new.conn) n start c.read.ensures.survives.clean c.read.ensures.survives.limit clean (c.read.ensures.queries clean)

pub returns-in-Err-BadRow-clause-same : goal.returns-in-Err-BadRow-clause-same
returns-in-Err-BadRow-clause-same g c n start clean =
    queries_stay (state g.S.Store c.args.conn.now) (state g.S.Store c.read.new.conn) n start c.read.ensures.survives.clean c.read.ensures.survives.limit clean (c.read.ensures.queries clean)

pub returns-in-Err-Failed-clause-failed : goal.returns-in-Err-Failed-clause-failed
returns-in-Err-Failed-clause-failed g c n serves up list there clean =
    let it = c.in-Err-Failed.ensures.failed (ap Err c.in-Err-Failed.field-0-is) clean in
    read_fault (state g.S.Store c.args.conn.now) (state g.S.Store c.read.new.conn) n it.0 serves up it.1 it.2

pub returns-in-Err-BadRow-clause-failed : goal.returns-in-Err-BadRow-clause-failed
returns-in-Err-BadRow-clause-failed g c n serves up list there clean =
    let it = c.in-Err-BadRow.ensures.bad c.in-Err-BadRow.field-0-0 (ap Err c.in-Err-BadRow.field-0-is) clean in
    absurd (no_bad_read (state g.S.Store c.args.conn.now) (state g.S.Store c.read.new.conn) n it.0 c.in-Err-BadRow.field-0-0 list serves there it.1 it.2)
