use Rattle.std.proofs.Common.{arith}
use Rattle.ra_commands.proofs.GrandRunning.{running_at_start, line_on, line_off, lines_over}
use Rattle.ra_commands.proofs.grand.run_lines.Goals as goal

pub loop-i-init : goal.loop-i-init
loop-i-init c = running_at_start c.args.lines.now c.in_ok-world.world c.args.text.now.items c.in_ok-world.ensures

pub returns-in-Err : goal.returns-in-Err
returns-in-Err c =
    line_off c.args.lines.now c.loop-i.i c.index-lines-i.result _ _ c.in-Err.fault _ _ _ _ (omega (arith, c.loop-i-test.true)) c.index-lines-i.is c.loop-i.invariant c.in-Err.ensures
    c.in_ok-push_refused-in-Err.ensures.other c.in_ok-push_refused-in-Err.ensures.line

pub loop-i-preserved : goal.loop-i-preserved
loop-i-preserved c = line_on c.args.lines.now c.loop-i.i c.index-lines-i.result _ _ _ _ _ (omega (arith, c.loop-i-test.true)) c.index-lines-i.is c.loop-i.invariant c.in-Ok.ensures

pub returns : goal.returns
returns c = lines_over c.args.lines.now c.loop-i.i _ _ _ _ (omega (arith, c.loop-i-test.false)) c.loop-i.invariant c.in_ok-push_world.ensures
