use Rattle.std.proofs.Common.{sym}
use Rattle.ra_session.specs.Sessions.{Session}
use Rattle.ra_session.specs.View.{tell_refusal}
use Rattle.ra_hub.proofs.OverLemmas.{tell_over, over_refused}
use Rattle.ra_hub.proofs.entry.SessionEntry.tell.Goals as goal

pub returns-in-Over : goal.returns-in-Over
returns-in-Over c =
    over_refused c.args.self.now c.in-Over.cause (tell_refusal c.args.tell) (sym c.in-Over.is) (λ (s : Session) is. tell_over c.args.tell c.in-Over.cause s is)
