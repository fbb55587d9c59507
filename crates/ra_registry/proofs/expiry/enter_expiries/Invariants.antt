use Rattle.std.proofs.Common.{◌≡◌, ◌+◌, ◌≤◌, ◌++◌, length, map, filter}
use Rattle.std.specs.Vec.{vec_capacity}
use Rattle.std.specs.BTreeMap.{get}
use Rattle.ra_base.specs.Keys.{key_cmp}
use Rattle.ra_registry.specs.Legal.{is_over_row}
use Rattle.ra_registry.specs.Expiry.{expiry_of}
use Rattle.ra_registry.proofs.expiry.enter_expiries.Given as goal

abbrev pub invariant-loop-key : goal.invariant-loop-key
invariant-loop-key l = record {
  entered : l.history.items ++ map (expiry_of l.at) (filter (λ key. is_over_row l.graces.long l.graces.short (get key_cmp l.rows key) l.at) l.key-iterator)
      ≡ l.fn.history.items ++ map (expiry_of l.at) (filter (λ key. is_over_row l.graces.long l.graces.short (get key_cmp l.rows key) l.at) l.open_keys.keys);
  room : length l.history.items + length l.key-iterator ≤ vec_capacity l.history;
  capacity : vec_capacity l.fn.history ≤ vec_capacity l.history;
}
