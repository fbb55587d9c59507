use Rattle.std.proofs.Common.{◌≡◌, Bool, true, false, cond, ap, sym, refl, ◌∙◌}
use Rattle.std.specs.BTreeMap.{get}
use Rattle.std.specs.BTreeSet.{contains}
use Rattle.ra_base.specs.Keys.{key_cmp}
use Rattle.ra_registry.specs.RowChanges.{is_open}
use Rattle.ra_registry.specs.Rows.{same_key}
use Rattle.ra_registry.proofs.SameKeys.{same_key_is}
use Rattle.ra_registry.proofs.rows.forget_closed.Goals as goal

pub returns-else-not-is_open-clause-keys : goal.returns-else-not-is_open-clause-keys
returns-else-not-is_open-clause-keys c = λ k.
    let found : is_open (get key_cmp c.args.rows.now c.args.key.now) ≡ true =
    ap is_open (sym (c.copied.ensures ∙ c.get.ensures.value)) ∙ sym c.is_open.ensures ∙ c.if-not-is_open.false in
    let there : contains key_cmp c.args.open_keys.now c.args.key.now ≡ true = c.requires found in
    let here : (b : Bool) → same_key c.args.key.now k ≡ b
    → contains key_cmp c.args.open_keys.now k ≡ cond b (is_open (get key_cmp c.args.rows.now c.args.key.now)) (contains key_cmp c.args.open_keys.now k) =
    elim [
      | true ↦ λ e. ap (contains key_cmp c.args.open_keys.now) (sym (same_key_is c.args.key.now k e)) ∙ there ∙ sym found
      | false ↦ λ e. refl
    ] in
    here (same_key c.args.key.now k) refl
