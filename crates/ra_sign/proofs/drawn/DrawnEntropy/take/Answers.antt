use Rattle.std.proofs.Common.{take, ap, arith}
use Rattle.std.specs.Int.{w64, to_be_bytes}
use Rattle.ra_sign.specs.Hmac.{hmac_sha256}
use Rattle.ra_sign.proofs.drawn.DrawnEntropy.take.Goals as goal

pub returns-clause-after : goal.returns-clause-after
returns-clause-after c =
    rw (← c.self.view_is) (λ n.
    ap (λ i. take 16 (hmac_sha256 c.self.inside.start (to_be_bytes w64 i))) (omega (arith, c.saturating_add-self-inside.ensures)))
