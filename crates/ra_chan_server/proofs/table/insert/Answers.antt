use Rattle.std.proofs.Common.{◌∙◌}
use Rattle.ra_chan_server.proofs.Arrivals.{entry_push}
use Rattle.ra_chan_server.proofs.table.insert.Goals as goal

pub returns-clause-ok : goal.returns-clause-ok
returns-clause-ok c = c.in_ok-insert.ensures.entries ∙ entry_push c.args.requests.now.entries c.args.arrival c.args.request c.requires
