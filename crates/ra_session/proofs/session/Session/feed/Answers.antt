use Rattle.std.proofs.lemmas.Result.{err_from_is_err_and}
use Rattle.ra_session.proofs.Standing.{fed}
use Rattle.ra_session.proofs.Refusing.{feed_ended, feed_refuses, feed_admits}
use Rattle.ra_session.proofs.session.Session.feed.Goals as goal

pub returns-in_err-running-clause-refused : goal.returns-in_err-running-clause-refused
returns-in_err-running-clause-refused c =
    let p = err_from_is_err_and c.from_residual.result c.from_residual.ensures.1 in
    rw (p.1, p.2, ← c.self.view_is) (feed_ended _ _ c.args.epoch c.in_err-running.ensures.err)

pub returns-in_err-feed-clause-refused : goal.returns-in_err-feed-clause-refused
returns-in_err-feed-clause-refused c =
    let p = err_from_is_err_and c.from_residual-in_err-feed.result c.from_residual-in_err-feed.ensures.1 in
    rw (p.1, p.2, ← c.self.view_is) (feed_refuses _ c.args.epoch _ c.in_ok-running.ensures.ok c.in_err-feed.ensures.refused)

pub returns-clause-stands : goal.returns-clause-stands
returns-clause-stands c = rw (← c.self.view_is) (fed _ _ c.args.epoch c.args.piece.now c.args.now c.in_ok-feed.ensures.stands)

pub returns-clause-refused : goal.returns-clause-refused
returns-clause-refused c = rw (← c.self.view_is) (feed_admits _ c.args.epoch c.in_ok-running.ensures.ok c.in_ok-feed.ensures.refused)
