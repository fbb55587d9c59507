use Rattle.ra_chan_server.proofs.Entries.{held_add}
use Rattle.ra_chan_server.proofs.table.add.Goals as goal

pub returns-in-Ok-clause-held : goal.returns-in-Ok-clause-held
returns-in-Ok-clause-held c =
    rw (c.in-Ok.ensures.ok, c.in-Ok.ensures.here)
    (held_add c.args.arrival c.args.id c.args.requests.now.entries c.args.request c.args.arrivals.now.entries c.name.new.arrivals.entries c.args.not_handed.now.keys
    c.requires.held c.requires.id c.requires.fits c.requires.absent c.in_ok-name.ensures.ok)
