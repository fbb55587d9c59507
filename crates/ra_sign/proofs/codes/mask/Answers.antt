use Rattle.std.proofs.Common.{bit_xor, arith, get_or}
use Rattle.std.proofs.lemmas.List.{get_or_default}
use Rattle.std.proofs.lemmas.List.Edits.{map_over_more}
use Rattle.ra_sign.proofs.codes.mask.Goals as goal

pub loop-byte-preserved : goal.loop-byte-preserved
loop-byte-preserved c =
    map_over_more (λ b. bit_xor b c.args.pad) c.args.block.now c.loop-byte.block c.loop-byte.byte-index
    (get_or c.loop-byte.block c.loop-byte.byte-index 0)
    (omega arith) c.loop-byte.invariant (get_or_default c.loop-byte.block c.loop-byte.byte-index 0 _ (omega arith))
