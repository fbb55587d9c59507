-- What a registry is seen as: its grace times, the records that it started from, and the history of its entries, oldest first.
use Rattle.std.specs.Prelude.{ℕ, List, [], ◌∷◌, ◌++◌, take}
use Rattle.ra_keep.specs.declared.record.Record.{Record}
use Rattle.ra_registry.specs.declared.past.Past.{Past}

pub record RegistryState : Type 0 where
  pub long_grace : ℕ
  pub short_grace : ℕ
  pub start : List Record
  pub history : List Past

-- with more entries
abbrev pub with_entries : RegistryState → List Past → RegistryState
with_entries registry entries = record registry { history = registry.history ++ entries }

-- with one more entry
abbrev pub with_entry : RegistryState → Past → RegistryState
with_entry registry entry = with_entries registry (entry ∷ [])

-- as it was when it had that many entries
abbrev pub up_to : ℕ → RegistryState → RegistryState
up_to n registry = record registry { history = take n registry.history }
