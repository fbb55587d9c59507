use Rattle.std.proofs.Common.{◌≡◌, ◌+◌, true, false, not, cond, ◌&&◌, ◌||◌, take, get_or, arith, sym, ap, ◌∙◌, refl}
use Rattle.std.proofs.Math.Bool.{and-true}
use Rattle.std.specs.BTreeSet.{contains}
use Rattle.std.proofs.lemmas.List.{get_or_default}
use Rattle.std.proofs.lemmas.List.Folds.{list_any_more}
use Rattle.ra_base.specs.Keys.{key_cmp}
use Rattle.ra_registry.specs.declared.past.Past.{Past}
use Rattle.ra_registry.specs.RowChanges.{expire}
use Rattle.ra_registry.specs.Rows.{same_key}
use Rattle.ra_registry.specs.TableChanges.{has_key}
use Rattle.ra_registry.proofs.RowLemmas.{expire_twice}
use Rattle.ra_registry.proofs.TableLemmas.{one_more_change, key_left, count_removed}
use Rattle.ra_registry.proofs.expiry.close_expired.Goals as goal

pub loop-expiry-init : goal.loop-expiry-init
loop-expiry-init c = record {
  changed = λ k. refl;
  keys_left = λ k. sym (and-true (contains key_cmp c.args.open_keys.now k));
  count = omega arith;
  still = λ j d le small. c.requires.there j d small;
}

pub loop-expiry-preserved : goal.loop-expiry-preserved
loop-expiry-preserved c =
    let i = c.loop-expiry.expiry-index in
    let item = c.expiry-item.result in
    let entries = c.args.expiries.now in
    let inv = c.loop-expiry.invariant in
    let at_default : (d : Past) → get_or entries i d ≡ item = λ d. get_or_default entries i d item c.loop-expiry-test.true ∙ sym c.expiry-item.is in
    let there : contains key_cmp c.loop-expiry.open_keys item.key ≡ true =
    ap (λ (e : Past). contains key_cmp c.loop-expiry.open_keys e.key) c.expiry-item.is ∙ inv.still i item (omega arith) c.loop-expiry-test.true in
    let removed = count_removed c.remove.result _ _ (c.remove.ensures.test ∙ there) c.remove.ensures.len in
    record {
      changed = one_more_change c.args.rows.now c.loop-expiry.rows c.expire_row.new.rows entries i item expire expire_twice
          c.loop-expiry-test.true c.expiry-item.is inv.changed c.expire_row.ensures;
      keys_left = λ k.
          let b = has_key (take i entries) k in
          let more : has_key (take (i + 1) entries) k ≡ (b || same_key item.key k) =
          list_any_more (λ (e : Past). same_key e.key k) entries i item c.loop-expiry-test.true ∙ ap (λ (e : Past). b || same_key e.key k) (sym c.expiry-item.is) in
          c.remove.ensures.updates.0 k ∙ ap (cond (same_key item.key k) false) (inv.keys_left k)
          ∙ key_left (contains key_cmp c.args.open_keys.now k) b (same_key item.key k)
          ∙ ap (λ t. contains key_cmp c.args.open_keys.now k && not t) (sym more);
      count = omega (arith, removed, inv.count);
      still = λ j d le small.
          let q = (get_or entries j d).key in
          let differ : same_key item.key q ≡ false =
          ap (λ (e : Past). same_key e.key q) (sym (at_default d)) ∙ c.requires.apart i j d (omega arith) small in
          c.remove.ensures.updates.0 q ∙ ap (λ t. cond t false (contains key_cmp c.loop-expiry.open_keys q)) differ ∙ inv.still j d (omega arith) small;
    }
