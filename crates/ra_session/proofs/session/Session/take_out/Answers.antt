use Rattle.ra_session.proofs.Standing.{taken_out}
use Rattle.ra_session.proofs.session.Session.take_out.Goals as goal

pub returns-clause-stands : goal.returns-clause-stands
returns-clause-stands c = rw (← c.self.view_is) (taken_out _ _ c.take_out.ensures.stands)
