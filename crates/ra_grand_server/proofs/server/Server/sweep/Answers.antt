use Rattle.ra_grand_server.proofs.SeatCounts.{seats_stay}
use Rattle.ra_grand_server.proofs.SweepSteps.{sweeps_so}
use Rattle.ra_grand_server.proofs.server.Server.sweep.Goals as goal

pub invariant_of-self : goal.invariant_of-self
invariant_of-self c = seats_stay c.self.inside.hub c.tick.new.self c.self.inside.links.items c.tick.ensures.seats c.self.invariant

pub returns : goal.returns
returns c = rw (← c.self.view_is) (sweeps_so _ c.tick.new.self c.args.now c.tick.result c.tick.ensures.told)
