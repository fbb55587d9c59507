use Rattle.std.proofs.Common.{◌∙◌}
use Rattle.ra_chan_server.proofs.Arrivals.{key_goes}
use Rattle.ra_chan_server.proofs.index.take.Goals as goal

pub returns : goal.returns
returns c = λ a. c.remove.ensures.keys ∙ key_goes c.args.arrival c.args.arrivals.now.keys a
