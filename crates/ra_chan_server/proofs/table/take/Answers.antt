use Rattle.ra_chan_server.proofs.Entries.{held_take, here_ascending}
use Rattle.ra_chan_server.proofs.table.take.Goals as goal

pub returns : goal.returns
returns c = λ n held.
    held_take n c.args.id c.args.arrival c.args.requests.now.entries c.remove.new.self.entries c.args.arrivals.now.entries c.unname.new.arrivals.entries c.args.not_handed.now.keys c.take.new.arrivals.keys
    held c.requires c.remove.ensures.entries c.unname.ensures
    (c.take.ensures (rw held.here (here_ascending c.args.requests.now.entries held.order.ascending)))
