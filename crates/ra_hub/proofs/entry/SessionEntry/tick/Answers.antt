use Rattle.std.proofs.Common.{sym}
use Rattle.ra_hub.proofs.OverLemmas.{ticked_over}
use Rattle.ra_hub.proofs.entry.SessionEntry.tick.Goals as goal

pub returns-in-Over : goal.returns-in-Over
returns-in-Over c = ticked_over c.args.self.now _ c.args.now (sym c.in-Over.is)
