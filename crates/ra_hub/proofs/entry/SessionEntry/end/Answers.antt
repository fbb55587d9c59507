use Rattle.ra_hub.proofs.OverLemmas.{ended_over}
use Rattle.ra_hub.proofs.entry.SessionEntry.end.Goals as goal

pub returns : goal.returns
returns c = ended_over c.args.self.now c.cause.result c.args.cause c.unwrap_or-cause.result c.cause.ensures c.unwrap_or-cause.ensures
