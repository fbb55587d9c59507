use Rattle.std.proofs.Common.{◌≡◌, take}
use Rattle.ra_values.proofs.comparing.+same.Given as goal

abbrev pub invariant-same_items-loop-at : goal.invariant-same_items-loop-at
invariant-same_items-loop-at l = take l.at l.one ≡ take l.at l.other
