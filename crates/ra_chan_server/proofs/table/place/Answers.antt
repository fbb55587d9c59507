use Rattle.std.proofs.Common.{◌∙◌}
use Rattle.ra_chan_server.specs.Held.{AreArrivals}
use Rattle.ra_chan_server.proofs.Arrivals.{goes_again}
use Rattle.ra_chan_server.proofs.Entries.{here_arrivals, here_push}
use Rattle.ra_chan_server.proofs.table.place.Goals as goal

pub add-requires : goal.add-requires
add-requires c = rw c.requires.here (here_arrivals c.args.arrival c.args.requests.now.entries c.requires.order).below

pub returns-in-Ok-clause-here : goal.returns-in-Ok-clause-here
returns-in-Ok-clause-here c = rw (here_push c.args.requests.now.entries c.args.arrival c.args.request, ← c.requires.here, ← c.is_here.ensures) c.in_ok-add.ensures.ok

pub returns-in-Err-clause-same : goal.returns-in-Err-clause-same
returns-in-Err-clause-same c =
    let order : AreArrivals c.args.arrival c.args.not_handed.now.keys = rw c.requires.here (here_arrivals c.args.arrival c.args.requests.now.entries c.requires.order) in
    let again = goes_again c.is_here.result c.args.arrival c.args.not_handed.now.keys c.add.new.arrivals.keys order c.in_ok-add.ensures.ok in
    c.take.ensures again.0 ∙ again.1
