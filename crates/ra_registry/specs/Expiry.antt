-- What `expire` does.
use Rattle.std.specs.Prelude.{◌≡◌, ℕ, List, length, map}
use Rattle.std.specs.List.{list_any}
use Rattle.std.specs.List.Sorted.{IsStrictlySortedBy}
use Rattle.ra_base.specs.Keys.{key_cmp}
use Rattle.ra_base.specs.declared.key.Key.{Key}
use Rattle.ra_registry.specs.declared.past.Did.TheVariants.{Expired}
use Rattle.ra_registry.specs.declared.past.Past.{Past}
use Rattle.ra_registry.specs.Rows.{row_of, same_key}
use Rattle.ra_registry.specs.Legal.{is_over}
use Rattle.ra_registry.specs.RegistryStates.{RegistryState, with_entries}

abbrev pub expiry_of : ℕ → Key → Past
expiry_of at key = record { at = at; key = key; did = Expired }

-- Each row that is lost and whose grace is over has expired, in the order of the keys.
pub record Expires (before : RegistryState) (at count : ℕ) (after : RegistryState) : Type 0 where
  pub keys : List Key
  pub in_order : IsStrictlySortedBy key_cmp keys
  pub each : (key : Key) → list_any (same_key key) keys ≡ is_over before (row_of before key) at
  pub counted : count ≡ length keys
  pub entered : after ≡ with_entries before (map (expiry_of at) keys)
