use Rattle.std.proofs.Common.{ap, not, ◌∙◌}
use Rattle.ra_session.proofs.Standing.{ended, not_ended}
use Rattle.ra_session.proofs.session.Session.end.Goals as goal

pub returns-then-is_none : goal.returns-then-is_none
returns-then-is_none c = rw (← c.self.view_is) (ended _ c.args.cause (c.is_none.ensures ∙ ap not c.if-is_none.true))

pub returns-else-is_none : goal.returns-else-is_none
returns-else-is_none c = rw (← c.self.view_is) (not_ended _ c.args.cause (c.is_none.ensures ∙ ap not c.if-is_none.false))
