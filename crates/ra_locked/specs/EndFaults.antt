-- Why the end of a shared registry is not as it is to be.
use Rattle.std.specs.Prelude.{◌≡◌, ◌≢◌, ℕ, ◌<◌, List, Some, slice_get}
use Rattle.ra_registry.specs.declared.past.Past.{Past}
use Rattle.ra_locked.specs.declared.fault.EndFault.{EndFault}
use Rattle.ra_locked.specs.declared.fault.EndFault.TheVariants.{NotAll, Mismatch, Twice, KeepUnlike, NoMemory}

-- why the receipts of this handle do not fit a history and the receipts before them
abbrev pub IsOfBook : List Past → ℕ → EndFault → Type 0
IsOfBook history number (NotAll given made) = ⊥
IsOfBook history number (Mismatch handle receipt entry) = (handle ≡ number) × (entry ≡ slice_get history receipt.place) × (entry ≢ Some receipt.past)
IsOfBook history number (Twice place one other) = other ≡ number
IsOfBook history number (KeepUnlike answered failed) = ⊥
IsOfBook history number NoMemory = ⊥

-- why the receipts of so many handles do not fit a history
abbrev pub IsOfBooks : List Past → ℕ → EndFault → Type 0
IsOfBooks history count (NotAll given made) = ⊥
IsOfBooks history count (Mismatch handle receipt entry) = (handle < count) × (entry ≡ slice_get history receipt.place) × (entry ≢ Some receipt.past)
IsOfBooks history count (Twice place one other) = other < count
IsOfBooks history count (KeepUnlike answered failed) = ⊥
IsOfBooks history count NoMemory = Unit {0}

-- why a registry does not end that made so many handles, and to which so many were given back
abbrev pub EndsNot : ℕ → ℕ → EndFault → Type 0
EndsNot made given (NotAll given' made') = (given' ≡ given) × (made' ≡ made) × (given ≢ made)
EndsNot made given (Mismatch handle receipt entry) = (given ≡ made) × (handle < given) × (entry ≢ Some receipt.past)
EndsNot made given (Twice place one other) = (given ≡ made) × (other < given)
EndsNot made given (KeepUnlike answered failed) = ⊥
EndsNot made given NoMemory = given ≡ made
