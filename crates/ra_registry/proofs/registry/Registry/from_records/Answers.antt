use Rattle.ra_registry.proofs.StartRows.{start_consistent}
use Rattle.ra_registry.proofs.registry.Registry.from_records.Goals as goal

pub invariant_of-result : goal.invariant_of-result
invariant_of-result c =
    rw (c.in_ok-start.ensures, c.new-2.ensures.items)
    (start_consistent c.args.long_grace c.args.short_grace c.args.records.now c.in_ok-rows.rows c.new.result _ c.in_ok-rows.ensures c.new.ensures.empty)
