use Rattle.std.proofs.Common.{◌≡◌, ◌-◌, ◌++◌}
use Rattle.ra_script.specs.Generated.{bytes_drawn, state_after}
use Rattle.ra_script.proofs.generating.draw_bytes.Given as goal

-- the bytes so far and those that are still drawn are all
abbrev pub invariant-loop : goal.invariant-loop
invariant-loop l = record {
  bytes : l.bytes.items ++ bytes_drawn (l.count - l.counter) l.state ≡ bytes_drawn l.fn.count l.fn.state;
  state : state_after (l.count - l.counter) l.state ≡ state_after l.fn.count l.fn.state;
}
