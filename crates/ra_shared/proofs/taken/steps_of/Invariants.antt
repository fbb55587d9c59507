use Rattle.std.proofs.Common.{◌≡◌, ◌+◌, ◌-◌, ◌^◌, ◌<◌, drop, map, sum, min}
use Rattle.ra_shared.proofs.taken.steps_of.Given as goal

abbrev pub invariant-loop-handle : goal.invariant-loop-handle
invariant-loop-handle g l = record {
  fits : l.steps < 2 ^ 64;
  rest : min (l.steps + sum (map (λ h. h.steps) (drop l.handle-index l.handles))) (2 ^ 64 - 1) ≡ min (sum (map (λ h. h.steps) l.handles)) (2 ^ 64 - 1);
}
