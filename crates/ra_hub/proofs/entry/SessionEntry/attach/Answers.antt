use Rattle.std.proofs.Common.{sym}
use Rattle.ra_session.specs.Sessions.{Session}
use Rattle.ra_session.specs.SessionRefusals.{attach_refusal}
use Rattle.ra_hub.proofs.OverLemmas.{attach_over, over_refused}
use Rattle.ra_hub.proofs.entry.SessionEntry.attach.Goals as goal

pub returns-in-Over-clause-called : goal.returns-in-Over-clause-called
returns-in-Over-clause-called c =
    over_refused c.args.self.now c.in-Over.cause (attach_refusal c.args.epoch) (sym c.in-Over.is) (λ (s : Session) is. attach_over c.args.epoch c.in-Over.cause s is)
