use Rattle.ra_keep_sql.proofs.statements.select.Goals as goal

pub returns-clause-shown : goal.returns-clause-shown
returns-clause-shown g c clean = c.query_all.ensures.ok clean

pub returns-clause-refused : goal.returns-clause-refused
returns-clause-refused g c clean = c.query_all.ensures.err clean

pub returns-clause-survives : goal.returns-clause-survives
returns-clause-survives g c = c.query_all.ensures.survives
