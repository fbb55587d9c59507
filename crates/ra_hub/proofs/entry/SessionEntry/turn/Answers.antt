use Rattle.std.proofs.Common.{sym}
use Rattle.ra_hub.proofs.OverLemmas.{over_turned}
use Rattle.ra_hub.proofs.entry.SessionEntry.turn.Goals as goal

pub returns-in-Over-clause-turned : goal.returns-in-Over-clause-turned
returns-in-Over-clause-turned c = over_turned c.args.self.now c.in-Over.cause c.args.epoch c.args.piece.now c.args.now (sym c.in-Over.is)
