use Rattle.std.proofs.Common.{◌+◌, drop}
use Rattle.ra_model.specs.Worlds.{new_world}
use Rattle.ra_endpoint_commands.proofs.ScriptLemmas.{IsRunning}
use Rattle.ra_endpoint_commands.proofs.replay.run_lines.Given as goal

abbrev pub invariant-loop-i : goal.invariant-loop-i
invariant-loop-i l = IsRunning (new_world l.base) l.lines (drop l.i l.lines) (l.i + 1) l.world l.fn.text.items l.text.items
