-- What a registry holds beside its history, and how it follows from it.
use Rattle.std.specs.Prelude.{◌≡◌, ℕ, ◌+◌, ◌≤◌, true, length, drop}
use Rattle.std.specs.BTreeMap.{BTreeMap, get}
use Rattle.std.specs.BTreeSet.{BTreeSet, contains, btree_set_len}
use Rattle.ra_base.specs.Keys.{key_cmp}
use Rattle.ra_base.specs.declared.key.Key.{Key}
use Rattle.ra_registry.specs.declared.row.Row.{Row}
use Rattle.ra_registry.specs.RegistryStates.{RegistryState}
use Rattle.ra_registry.specs.RowChanges.{is_open, is_unshortened}
use Rattle.ra_registry.specs.Rows.{row_of}
use Rattle.ra_registry.specs.TableChanges.{has_key}
use Rattle.ra_registry.specs.Seats.{admissions, endings}
use Rattle.ra_registry.specs.Legal.{IsLegal}

-- All rows, and the keys of those that are not closed. Rows that are lost and not shortened have an entry behind the first
-- `shortened_to`. So many seats are not spent, and the history's room is that.
pub record IsConsistent (registry : RegistryState) (rows : BTreeMap Key Row) (open_keys : BTreeSet Key) (shortened_to seats room : ℕ) : Type 0 where
  pub legal : IsLegal registry
  pub rows_are : (key : Key) → get key_cmp rows key ≡ row_of registry key
  pub open_are : (key : Key) → contains key_cmp open_keys key ≡ is_open (row_of registry key)
  pub within : shortened_to ≤ length registry.history
  pub unshortened : (key : Key) → is_unshortened (row_of registry key) ≡ true
      → has_key (drop shortened_to registry.history) key ≡ true
  pub seats_are : seats + endings registry.history ≡ admissions registry.history
  pub has_room : length registry.history + seats + btree_set_len open_keys ≤ room
