use Rattle.std.proofs.Common.{sym, ◌∙◌}
use Rattle.std.proofs.lemmas.Result.{err_from_is_err_and}
use Rattle.ra_session.proofs.Refusing.{feed_ended, feed_refuses}
use Rattle.ra_session.proofs.WholeTurns.{made_there, leaves_made, turn_to, turn_answers, turn_refuses, turn_admits, turn_unfed}
use Rattle.ra_session.proofs.session.Session.turn.Goals as goal

pub returns-in_err-running-clause-refused : goal.returns-in_err-running-clause-refused
returns-in_err-running-clause-refused c =
    let p = err_from_is_err_and c.from_residual.result c.from_residual.ensures.1 in
    rw (p.1, p.2, ← c.self.view_is) (turn_unfed _ c.args.epoch c.args.piece.now c.args.now _ (feed_ended _ _ c.args.epoch c.in_err-running.ensures.err))

pub returns-in_err-feed-clause-refused : goal.returns-in_err-feed-clause-refused
returns-in_err-feed-clause-refused c =
    let p = err_from_is_err_and c.from_residual-in_err-feed.result c.from_residual-in_err-feed.ensures.1 in
    rw (p.1, p.2, ← c.self.view_is)
    (turn_unfed _ c.args.epoch c.args.piece.now c.args.now _ (feed_refuses _ c.args.epoch _ c.in_ok-running.ensures.ok c.in_err-feed.ensures.refused))

pub returns-then-is_bad_ipc-clause-leaves : goal.returns-then-is_bad_ipc-clause-leaves
returns-then-is_bad_ipc-clause-leaves c =
    let is = sym c.is_bad_ipc.ensures ∙ c.if-is_bad_ipc.true in
    rw (← c.self.view_is)
    (leaves_made c.in-Err.fault _ _ is
    (turn_to _ c.take_one.new.self _ c.args.epoch c.args.piece.now c.args.now c.in_ok-feed.ensures.stands (made_there c.in-Err.fault _ _ is c.in-Err.ensures.leaves)))

pub returns-then-is_bad_ipc-clause-refused : goal.returns-then-is_bad_ipc-clause-refused
returns-then-is_bad_ipc-clause-refused c =
    rw (← c.self.view_is)
    (turn_refuses _ _ c.args.epoch c.args.piece.now c.args.now c.in-Err.fault c.in_ok-running.ensures.ok c.in_ok-feed.ensures.stands
    c.in_ok-feed.ensures.refused c.in-Err.ensures.refused)

pub returns-in-Ok-clause-leaves : goal.returns-in-Ok-clause-leaves
returns-in-Ok-clause-leaves c =
    rw (← c.self.view_is) (turn_to _ c.take_one.new.self _ c.args.epoch c.args.piece.now c.args.now c.in_ok-feed.ensures.stands c.in-Ok.ensures.leaves)

pub returns-in-Ok-clause-answered : goal.returns-in-Ok-clause-answered
returns-in-Ok-clause-answered c =
    rw (← c.self.view_is) (turn_answers _ _ c.args.epoch c.args.piece.now c.args.now _ c.in_ok-feed.ensures.stands c.in-Ok.ensures.answered)

pub returns-in-Ok-clause-refused : goal.returns-in-Ok-clause-refused
returns-in-Ok-clause-refused c =
    rw (← c.self.view_is)
    (turn_admits _ _ c.args.epoch c.args.piece.now c.args.now c.in_ok-running.ensures.ok c.in_ok-feed.ensures.stands c.in_ok-feed.ensures.refused c.in-Ok.ensures.refused)

pub returns-else-is_bad_ipc-clause-refused : goal.returns-else-is_bad_ipc-clause-refused
returns-else-is_bad_ipc-clause-refused c =
    rw (← c.self.view_is)
    (turn_refuses _ _ c.args.epoch c.args.piece.now c.args.now c.in-Err.fault c.in_ok-running.ensures.ok c.in_ok-feed.ensures.stands
    c.in_ok-feed.ensures.refused c.in-Err.ensures.refused)
