use Rattle.ra_session.proofs.Soundness.{some_session}
use Rattle.ra_session.proofs.session.Session.marks.Goals as goal

pub returns-clause-stands : goal.returns-clause-stands
returns-clause-stands c = rw (← c.self.view_is) (some_session _ c.marks.ensures.consistent c.self.invariant)
