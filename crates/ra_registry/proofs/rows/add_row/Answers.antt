use Rattle.std.proofs.Common.{◌≡◌, ◌+◌, true, false, ◌∙◌, arith}
use Rattle.std.specs.BTreeSet.{contains, btree_set_len}
use Rattle.ra_base.specs.Keys.{key_cmp}
use Rattle.ra_registry.proofs.TableLemmas.{key_undone, count_added, count_removed}
use Rattle.ra_registry.proofs.rows.add_row.Goals as goal

pub returns-then-is_err-clause-same_keys : goal.returns-then-is_err-clause-same_keys
returns-then-is_err-clause-same_keys c =
    key_undone c.args.open_keys.now c.insert.new.self c.remove.new.self c.args.key.now
    (rw (← c.same.ensures) c.in_ok-insert.ensures.updates.0) c.remove.ensures.updates.0 c.requires.absent

pub returns-then-is_err-clause-same_count : goal.returns-then-is_err-clause-same_count
returns-then-is_err-clause-same_count c =
    let absent : contains key_cmp c.args.open_keys.now c.same.result ≡ false = rw c.same.ensures c.requires.absent in
    let there : contains key_cmp c.insert.new.self c.args.key.now ≡ true = rw (← c.same.ensures) c.in_ok-insert.ensures.updates.1 in
    let added : btree_set_len c.insert.new.self ≡ btree_set_len c.args.open_keys.now + 1 =
    count_added c.in_ok-insert.field-0 _ _ _ c.in_ok-insert.ensures.added absent c.in_ok-insert.ensures.len in
    let removed : btree_set_len c.remove.new.self + 1 ≡ btree_set_len c.insert.new.self =
    count_removed c.remove.result _ _ (c.remove.ensures.test ∙ there) c.remove.ensures.len in
    omega arith

pub returns-clause-count : goal.returns-clause-count
returns-clause-count c =
    let absent : contains key_cmp c.args.open_keys.now c.same.result ≡ false = rw c.same.ensures c.requires.absent in
    count_added c.in_ok-insert.field-0 _ _ _ c.in_ok-insert.ensures.added absent c.in_ok-insert.ensures.len
