use Rattle.std.proofs.Common.{drop}
use Rattle.ra_model.specs.Worlds.{new_world}
use Rattle.ra_endpoint_commands.proofs.ScriptLemmas.{IsBehind}
use Rattle.ra_endpoint_commands.proofs.soak.run_lines.Given as goal

abbrev pub invariant-loop-line : goal.invariant-loop-line
invariant-loop-line l = IsBehind (new_world 0) l.lines (drop l.line-index l.lines) l.world
