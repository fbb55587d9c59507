use Rattle.ra_session.proofs.Standing.{lost}
use Rattle.ra_session.proofs.session.Session.lose.Goals as goal

pub returns-clause-stands : goal.returns-clause-stands
returns-clause-stands c = rw (← c.self.view_is) (lost _ _ c.args.epoch c.lose_link.ensures.stands)
