use Rattle.std.proofs.Common.{sym}
use Rattle.ra_hub.proofs.OverLemmas.{lost_over}
use Rattle.ra_hub.proofs.entry.SessionEntry.lose.Goals as goal

pub returns-in-Over : goal.returns-in-Over
returns-in-Over c = lost_over c.args.self.now _ c.args.epoch (sym c.in-Over.is)
