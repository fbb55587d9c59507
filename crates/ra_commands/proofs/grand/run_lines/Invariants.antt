use Rattle.std.proofs.Common.{◌+◌, drop}
use Rattle.ra_commands.proofs.GrandRunning.{IsRunning}
use Rattle.ra_commands.proofs.grand.run_lines.Given as goal

abbrev pub invariant-loop-i : goal.invariant-loop-i
invariant-loop-i l = IsRunning l.lines (drop l.i l.lines) (l.i + 1) l.world l.fn.text.items l.text.items
