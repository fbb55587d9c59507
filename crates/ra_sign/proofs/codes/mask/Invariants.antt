use Rattle.std.proofs.Common.{◌≡◌, ◌++◌, map, take, drop, bit_xor}
use Rattle.ra_sign.proofs.codes.mask.Given as goal

-- the bytes so far are masked
abbrev pub invariant-loop-byte : goal.invariant-loop-byte
invariant-loop-byte l =
    l.block ≡ map (λ b. bit_xor b l.pad) (take l.byte-index l.fn.block) ++ drop l.byte-index l.fn.block
