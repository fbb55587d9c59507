use Rattle.std.proofs.Common.{refl}
use Rattle.ra_registry.specs.Rows.{start_row}
use Rattle.ra_registry.proofs.StartRows.{start_consistent}
use Rattle.ra_registry.proofs.registry.Registry.new.Goals as goal

pub invariant_of-result : goal.invariant_of-result
unfolding start_row
invariant_of-result c =
    rw (c.new.ensures.items, c.new-4.ensures.items)
    (start_consistent c.args.long_grace c.args.short_grace _ c.new-2.result c.new-3.result _ (λ k. rw c.new-2.ensures.empty refl) c.new-3.ensures.empty)
