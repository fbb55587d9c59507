-- What a call leaves to the sessions of other keys.
use Rattle.std.specs.Prelude.{◌≡◌, ◌⊎◌, ℕ, false, List, option_map}
use Rattle.ra_base.specs.declared.key.Key.{Key}
use Rattle.ra_base.specs.declared.kind.Kind.{Kind}
use Rattle.ra_registry.specs.RegistryStates.{RegistryState}
use Rattle.ra_registry.specs.RowChanges.{shorten}
use Rattle.ra_registry.specs.Rows.{same_key, row_of}
use Rattle.ra_hub.specs.Hubs.{Hub, row}

-- its session and its row are as before
pub record IsSame (old new : Hub) (key : Key) : Type 0 where
  pub session : new.session key ≡ old.session key
  pub row_is : row new key ≡ row old key

-- its session is as before, and its row too, or the grace of its lost link was shortened
pub record IsShortened (now : ℕ) (old new : Hub) (key : Key) : Type 0 where
  pub session : new.session key ≡ old.session key
  pub row_is : (row new key ≡ row old key) ⊎ (row new key ≡ option_map (shorten now) (row old key))

abbrev pub OfOthers : Key → (Key → Type 0) → Type 0
OfOthers key P = (other : Key) → same_key key other ≡ false → P other

-- two registries have the same grace times, and the same rows for the keys with this token
pub record AgreeOn (token : List ℕ) (a b : RegistryState) : Type 0 where
  pub long : a.long_grace ≡ b.long_grace
  pub short : a.short_grace ≡ b.short_grace
  pub rows : (kind : Kind) → row_of a (record { kind = kind; token = token }) ≡ row_of b (record { kind = kind; token = token })
