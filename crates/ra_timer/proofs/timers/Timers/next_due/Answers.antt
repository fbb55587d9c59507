use Rattle.ra_timer.proofs.Earliest.{earliest_of}
use Rattle.ra_timer.proofs.timers.Timers.next_due.Goals as goal

pub returns : goal.returns
returns c = rw (c.earlier-2.ensures, c.earlier.ensures, ← c.self.view_is) (earliest_of c.self.inside.acknowledge c.self.inside.timeout c.self.inside.keep_alive)
