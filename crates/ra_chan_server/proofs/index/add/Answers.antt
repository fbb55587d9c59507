use Rattle.std.proofs.Common.{◌∙◌}
use Rattle.ra_chan_server.proofs.Arrivals.{key_push}
use Rattle.ra_chan_server.proofs.index.add.Goals as goal

pub returns-in_ok-insert-clause-ok : goal.returns-in_ok-insert-clause-ok
returns-in_ok-insert-clause-ok c = rw c.if-wanted.true (c.in_ok-insert.ensures.keys ∙ key_push c.args.arrivals.now.keys c.args.arrival c.requires)
