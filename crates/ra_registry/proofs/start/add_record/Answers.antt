use Rattle.std.proofs.Common.{◌≡◌, max, Bool, true, false, cond, Option, Some, refl, ap, ◌∙◌}
use Rattle.std.specs.BTreeMap.{get}
use Rattle.ra_base.specs.Keys.{key_cmp}
use Rattle.ra_base.specs.declared.key.Key.{Key}
use Rattle.ra_registry.specs.declared.row.Row.{Row}
use Rattle.ra_registry.specs.Rows.{same_key, epoch_of, stopped}
use Rattle.ra_registry.proofs.SameKeys.{same_key_is}
use Rattle.ra_registry.proofs.start.add_record.Goals as goal

pub returns : goal.returns
returns c = λ key.
    let kept = c.args.kept.now in
    let rows = c.args.rows.now in
    let row_is : c.stopped.result ≡ stopped (max kept.epoch (epoch_of (get key_cmp rows kept.key))) =
    c.stopped.ensures ∙ ap stopped (c.greater_epoch-epoch.ensures ∙ ap (λ (row : Option Row). max kept.epoch (epoch_of row)) (c.copied.ensures ∙ c.get.ensures.value)) in
    let here : (b : Bool) → same_key kept.key key ≡ b
    → cond b (Some c.stopped.result) (get key_cmp rows key) ≡ cond b (Some (stopped (max kept.epoch (epoch_of (get key_cmp rows key))))) (get key_cmp rows key) =
    elim [
      | true ↦ λ e. ap Some (row_is ∙ ap (λ (k : Key). stopped (max kept.epoch (epoch_of (get key_cmp rows k)))) (same_key_is kept.key key e))
      | false ↦ λ e. refl
    ] in
    c.in_ok-insert.ensures.updates.0 key ∙ ap (λ (k : Key). cond (same_key k key) (Some c.stopped.result) (get key_cmp rows key)) c.same.ensures
    ∙ here (same_key kept.key key) refl
