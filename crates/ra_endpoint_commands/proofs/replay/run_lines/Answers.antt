use Rattle.std.proofs.Common.{arith}
use Rattle.ra_model.specs.Worlds.{new_world}
use Rattle.ra_endpoint_commands.proofs.ScriptLemmas.{running_at_start, line_on, refused_answer, lines_over}
use Rattle.ra_endpoint_commands.proofs.replay.run_lines.Goals as goal

pub loop-i-init : goal.loop-i-init
loop-i-init c = running_at_start (new_world c.args.base) c.args.lines.now c.in_ok-world.world c.args.text.now.items c.in_ok-world.ensures.stands

pub returns-in-Err : goal.returns-in-Err
returns-in-Err c =
    refused_answer c.push_refused.result c.in-Err.fault (new_world c.args.base) c.args.lines.now c.loop-i.i c.index-lines-i.result _ _ _ _ _ _ (omega (arith, c.loop-i-test.true)) c.index-lines-i.is c.loop-i.invariant c.in-Err.ensures
    c.push_refused.ensures.refused c.push_refused.ensures.line c.push_refused.ensures.other

pub loop-i-preserved : goal.loop-i-preserved
loop-i-preserved c = line_on (new_world c.args.base) c.args.lines.now c.loop-i.i c.index-lines-i.result _ _ _ _ _ (omega (arith, c.loop-i-test.true)) c.index-lines-i.is c.loop-i.invariant c.in-Ok.ensures

pub returns : goal.returns
returns c = lines_over (new_world c.args.base) c.args.lines.now c.loop-i.i _ _ _ _ (omega (arith, c.loop-i-test.false)) c.loop-i.invariant c.in_ok-push_world.ensures
