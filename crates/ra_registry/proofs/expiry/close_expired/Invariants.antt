use Rattle.std.proofs.Common.{◌≡◌, ℕ, ◌+◌, ◌<◌, ◌≤◌, true, not, ◌&&◌, take, length, get_or}
use Rattle.std.specs.BTreeSet.{contains, btree_set_len}
use Rattle.ra_base.specs.Keys.{key_cmp}
use Rattle.ra_base.specs.declared.key.Key.{Key}
use Rattle.ra_registry.specs.declared.past.Past.{Past}
use Rattle.ra_registry.specs.RowChanges.{expire}
use Rattle.ra_registry.specs.TableChanges.{ChangesRows, has_key}
use Rattle.ra_registry.proofs.expiry.close_expired.Given as goal

abbrev pub invariant-loop-expiry : goal.invariant-loop-expiry
invariant-loop-expiry l = record {
  changed : ChangesRows l.fn.rows l.rows (take l.expiry-index l.expiries) expire;
  keys_left : (k : Key) → contains key_cmp l.open_keys k ≡ (contains key_cmp l.fn.open_keys k && not (has_key (take l.expiry-index l.expiries) k));
  count : btree_set_len l.open_keys + l.expiry-index ≡ btree_set_len l.fn.open_keys;
  still : (j : ℕ) (d : Past) → l.expiry-index ≤ j → j < length l.expiries → contains key_cmp l.open_keys (get_or l.expiries j d).key ≡ true;
}
