use Rattle.std.proofs.Common.{arith}
use Rattle.ra_model.specs.Worlds.{new_world}
use Rattle.ra_endpoint_commands.proofs.ScriptLemmas.{behind_at_start, behind_line, behind_over}
use Rattle.ra_endpoint_commands.proofs.soak.run_lines.Goals as goal

pub loop-line-init : goal.loop-line-init
loop-line-init c = behind_at_start (new_world 0) c.args.lines.now _ c.in_ok-world.ensures.stands

pub loop-line-preserved : goal.loop-line-preserved
loop-line-preserved c = behind_line (new_world 0) c.args.lines.now c.loop-line.line-index c.line-item.result _ _ (omega (arith, c.loop-line-test.true)) c.line-item.is c.loop-line.invariant c.in_ok-run_line.ensures

pub returns : goal.returns
returns c = behind_over (new_world 0) c.args.lines.now c.loop-line.line-index _ c.loop-line-test.false c.loop-line.invariant
