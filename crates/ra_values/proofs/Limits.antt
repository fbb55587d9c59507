-- How large the groups after a first one get.
use Rattle.std.proofs.Common.{◌≡◌, ℕ, zero, suc, ◌*◌, ◌-◌, ◌<◌, ◌≤◌, ◌^◌, refl, arith}
use Rattle.ra_values.specs.Number.{later_limit}

pub limit_more : (m : ℕ) → 0 < m → later_limit m ≡ 128 * later_limit (m - 1)
limit_more zero h = absurd (omega arith)
limit_more (suc m) h = let e : suc m - 1 ≡ m = omega arith in rw e refl

pub limit_least : (m : ℕ) → 16 ≤ later_limit m
limit_least zero = omega arith
limit_least (suc m) = omega (arith, limit_least m)

pub limit_wide : (m : ℕ) → 0 < m → 2048 ≤ later_limit m
limit_wide m h = omega (arith, limit_more m h, limit_least (m - 1))

pub limit_most : (m : ℕ) → m ≤ 3 → later_limit m ≤ 2 ^ 25
limit_most zero h = omega arith
limit_most (suc zero) h = omega arith
limit_most (suc (suc zero)) h = omega arith
limit_most (suc (suc (suc zero))) h = omega arith
limit_most (suc (suc (suc (suc m)))) h = absurd (omega arith)
