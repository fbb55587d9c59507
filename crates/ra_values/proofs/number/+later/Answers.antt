use Rattle.std.proofs.Common.{◌-◌, arith}
use Rattle.ra_values.proofs.Limits.{limit_wide, limit_most}
use Rattle.ra_values.proofs.number.+later.Goals as goal

pub returns-then-byte-lt128-clause-small : goal.returns-then-byte-lt128-clause-small
returns-then-byte-lt128-clause-small t c = omega (arith, limit_wide c.args.more (omega arith))

pub overflow_mul-result : goal.overflow_mul-result
overflow_mul-result t c = omega (arith, c.in_ok-high.ensures.small, limit_most (c.args.more - 1) (omega arith))

pub overflow_add-result : goal.overflow_add-result
overflow_add-result t c = omega (arith, c.in_ok-high.ensures.small, limit_most (c.args.more - 1) (omega arith))
