use Rattle.std.proofs.Common.{refl}
use Rattle.std.proofs.lemmas.Result.{err_from_is_err_and}
use Rattle.ra_endpoint_commands.proofs.DrainLemmas.{draining_at_start, draining_on, drained, drain_refused}
use Rattle.ra_endpoint_commands.proofs.replay.drain.Goals as goal

pub frames-init : goal.frames-init
frames-init c = λ w stands. draining_at_start c.args.side w _ _ _ stands refl

pub returns-in_err-take_one : goal.returns-in_err-take_one
returns-in_err-take_one c = λ w stands.
    let p = err_from_is_err_and c.from_residual.result c.from_residual.ensures.1 in
    rw (p.1, p.2) (drain_refused c.in_err-take_one.field-0.0 c.args.side w _ _ _ _ _ (c.frames.invariant w stands) c.in_err-take_one.ensures)

pub returns-then-not-branch : goal.returns-then-not-branch
returns-then-not-branch c = λ w stands.
    drained c.args.side w _ _ _ _ _ c.in_ok-take_one.field-0 c.if-not-branch.true (c.frames.invariant w stands) c.in_ok-take_one.ensures

pub frames-preserved : goal.frames-preserved
frames-preserved c = λ w stands.
    draining_on c.args.side w _ _ _ _ _ c.in_ok-take_one.field-0 c.if-not-branch.false (c.frames.invariant w stands) c.in_ok-take_one.ensures
