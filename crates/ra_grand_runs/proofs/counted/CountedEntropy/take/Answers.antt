use Rattle.std.proofs.Common.{◌++◌, ◌∙◌, ap, arith}
use Rattle.std.specs.Prelude.{replicate}
use Rattle.std.specs.Int.{w64, to_be_bytes}
use Rattle.ra_grand_runs.specs.Draws.{nth_draw}
use Rattle.ra_grand_runs.proofs.counted.CountedEntropy.take.Goals as goal

pub returns-clause-value : goal.returns-clause-value
unfolding nth_draw
returns-clause-value c =
    rw (← c.self.view_is) (c.draw.ensures ∙ ap (λ i. replicate 8 0 ++ to_be_bytes w64 i) (omega (arith, c.saturating_add-self-inside.ensures)))

pub returns-clause-after : goal.returns-clause-after
unfolding nth_draw
returns-clause-after c =
    rw (← c.self.view_is) (λ n. ap (λ i. replicate 8 0 ++ to_be_bytes w64 i) (omega (arith, c.saturating_add-self-inside.ensures)))
