use Rattle.std.proofs.Common.{◌≡◌, ℕ, suc, ◌+◌, ◌-◌, ◌^◌, arith}
use Rattle.std.proofs.lemmas.Result.{err_from_is_err_and}
use Rattle.ra_commands.proofs.GrandRunning.{draining_at_start, draining_on, drained, drain_refused}
use Rattle.ra_commands.proofs.grand.drain.Goals as goal

pub loop-turn-init : goal.loop-turn-init
loop-turn-init c = λ w stands. draining_at_start c.args.client w _ _ stands

pub returns-in_err-take_frame : goal.returns-in_err-take_frame
returns-in_err-take_frame c = λ w stands.
    let p = err_from_is_err_and c.from_residual.result c.from_residual.ensures.1 in
    let next : 2 ^ 64 - c.loop-turn.turn ≡ suc (2 ^ 64 - (c.loop-turn.turn + 1)) = omega (arith, c.loop-turn-test.true) in
    rw (p.1, p.2) (λ other. drain_refused c.args.client w (2 ^ 64 - c.loop-turn.turn) (2 ^ 64 - (c.loop-turn.turn + 1)) _ _ _ _ _ c.in_err-take_frame.field-0.0
    next (c.loop-turn.invariant w stands) c.in_err-take_frame.ensures other)

pub returns-then-not-branch : goal.returns-then-not-branch
returns-then-not-branch c = λ w stands.
    let next : 2 ^ 64 - c.loop-turn.turn ≡ suc (2 ^ 64 - (c.loop-turn.turn + 1)) = omega (arith, c.loop-turn-test.true) in
    drained c.args.client w (2 ^ 64 - c.loop-turn.turn) (2 ^ 64 - (c.loop-turn.turn + 1)) _ _ _ _ _ c.in_ok-take_frame.field-0
    next c.if-not-branch.true (c.loop-turn.invariant w stands) c.in_ok-take_frame.ensures

pub loop-turn-preserved : goal.loop-turn-preserved
loop-turn-preserved c = λ w stands.
    let next : 2 ^ 64 - c.loop-turn.turn ≡ suc (2 ^ 64 - (c.loop-turn.turn + 1)) = omega (arith, c.loop-turn-test.true) in
    draining_on c.args.client w (2 ^ 64 - c.loop-turn.turn) (2 ^ 64 - (c.loop-turn.turn + 1)) _ _ _ _ _ c.in_ok-take_frame.field-0
    next c.if-not-branch.false (c.loop-turn.invariant w stands) c.in_ok-take_frame.ensures
