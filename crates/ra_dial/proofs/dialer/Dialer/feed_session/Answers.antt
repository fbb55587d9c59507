use Rattle.ra_dial.proofs.LinkRows.{fed, not_fed}
use Rattle.ra_dial.proofs.dialer.Dialer.feed_session.Goals as goal

pub returns-in-Err-clause-steps : goal.returns-in-Err-clause-steps
returns-in-Err-clause-steps c =
    let refused = rw c.epoch-epoch.ensures at c.in-Err.ensures.refused in
    rw (← c.self.view_is) (not_fed _ c.feed.new.self c.in-Err.fault c.args.piece.now c.args.now c.in-Err.ensures.same c.in_ok-judged.ensures refused)

pub returns-clause-steps : goal.returns-clause-steps
returns-clause-steps c =
    let becomes = rw c.epoch-epoch.ensures at c.in_default.ensures.stands in
    let allowed = rw c.epoch-epoch.ensures at c.in_default.ensures.refused in
    rw (← c.self.view_is) (fed _ _ c.args.piece.now c.args.now becomes allowed)
