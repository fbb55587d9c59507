use Rattle.std.proofs.Common.{Some, option_map, rules, sym, ap, ◌∙◌}
use Rattle.ra_registry.specs.RowChanges.{close}
use Rattle.ra_registry.proofs.TableLemmas.{set_is_change, none_is_change}
use Rattle.ra_registry.proofs.rows.close_row.Goals as goal

pub returns-in-Some : goal.returns-in-Some
returns-in-Some c =
    let written = c.get_mut.follows.holds c.close.result in
    set_is_change c.args.rows.now (c.get_mut.follows.lender c.close.result) c.args.key.now (Some c.close.result) (close c.args.epoch c.args.cause)
    (written.3 (search rules)).0
    (ap (option_map (close c.args.epoch c.args.cause)) (sym c.in-Some.ensures.value) ∙ ap Some (sym c.close.ensures))

pub returns-in_default : goal.returns-in_default
returns-in_default c =
    none_is_change c.args.rows.now c.get_mut.follows.lender-at-none c.args.key.now (close c.args.epoch c.args.cause)
    c.get_mut.follows.holds-at-none (sym c.in_default.ensures.value)
