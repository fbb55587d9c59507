use Rattle.std.proofs.Common.{◌≡◌, ◌-◌, ◌+◌, ◌*◌, ◌≤◌, ◌++◌}
use Rattle.ra_script.specs.Generated.{steps_lines, generated}
use Rattle.ra_script.proofs.generating.generate.Given as goal

-- the lines so far and those of the steps that are left are all
abbrev pub invariant-loop : goal.invariant-loop
invariant-loop l = record {
  lines : l.lines.items ++ steps_lines (l.steps - l.counter) l.generator ≡ generated l.fn.start l.fn.steps;
  link : l.generator.link ≤ 1 + l.counter;
  moment : l.generator.moment ≤ 4000 * l.counter;
}
