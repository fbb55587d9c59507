use Rattle.std.proofs.Common.{◌≡◌, take, bytes_eq}
use Rattle.ra_sign.proofs.equality.are_equal.Given as goal

-- the fronts so far are compared
abbrev pub invariant-loop-i : goal.invariant-loop-i
invariant-loop-i l = l.same ≡ bytes_eq (take l.i l.left) (take l.i l.right)
