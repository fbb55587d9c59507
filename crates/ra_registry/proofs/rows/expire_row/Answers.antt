use Rattle.std.proofs.Common.{Some, option_map, rules, sym, ap, ◌∙◌}
use Rattle.ra_registry.specs.RowChanges.{expire}
use Rattle.ra_registry.proofs.TableLemmas.{set_is_change, none_is_change}
use Rattle.ra_registry.proofs.rows.expire_row.Goals as goal

pub returns-in-Some : goal.returns-in-Some
returns-in-Some c =
    let written = c.get_mut.follows.holds c.expire.result in
    set_is_change c.args.rows.now (c.get_mut.follows.lender c.expire.result) c.args.key.now (Some c.expire.result) expire
    (written.3 (search rules)).0
    (ap (option_map expire) (sym c.in-Some.ensures.value) ∙ ap Some (sym c.expire.ensures))

pub returns-in_default : goal.returns-in_default
returns-in_default c =
    none_is_change c.args.rows.now c.get_mut.follows.lender-at-none c.args.key.now expire
    c.get_mut.follows.holds-at-none (sym c.in_default.ensures.value)
