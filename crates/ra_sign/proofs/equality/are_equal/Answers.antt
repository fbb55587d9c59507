use Rattle.std.proofs.Common.{add-one, arith}
use Rattle.ra_sign.proofs.CompareLemmas.{one_more}
use Rattle.ra_sign.proofs.equality.are_equal.Goals as goal

pub loop-i-preserved : goal.loop-i-preserved
loop-i-preserved c =
    rw (add-one, c.loop-i.invariant)
    (one_more c.args.left.now c.args.right.now c.loop-i.i (omega arith) (omega arith))
