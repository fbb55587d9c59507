use Rattle.std.proofs.Common.{◌≡◌, ◌+◌, ◌-◌, ◌^◌, ◌<◌, drop, map, sum, min}
use Rattle.ra_locked.proofs.shared.keep_faults_of.Given as goal

abbrev pub invariant-loop-handle : goal.invariant-loop-handle
invariant-loop-handle g l = record {
  fits : l.answered < 2 ^ 64;
  rest : min (l.answered + sum (map (λ h. h.keep_faults) (drop l.handle-index l.handles))) (2 ^ 64 - 1) ≡ min (sum (map (λ h. h.keep_faults) l.handles)) (2 ^ 64 - 1);
}
