-- What holds of the spellings of values, apart from reading and writing.
use Rattle.std.specs.Prelude.{◌≡◌, ℕ, List, ◌++◌}
use Rattle.ra_values.specs.Tree.{Tree}
use Rattle.ra_values.specs.Spelling.{Spells, levels, Fits}
use Rattle.ra_values.specs.ValueBytes.{value_bytes}

-- A value that fits has a spelling.
abbrev pub EachIsSpelled : Type 0
EachIsSpelled = (t : Tree) → Fits levels t → (bytes : List ℕ) × Spells levels t bytes

-- It has only one.
abbrev pub SpelledOnce : Type 0
SpelledOnce = (t : Tree) (a b : List ℕ) → Spells levels t a → Spells levels t b → a ≡ b

-- Any other value has none.
abbrev pub OthersAreNotSpelled : Type 0
OthersAreNotSpelled = (t : Tree) (bytes : List ℕ) → Spells levels t bytes → Fits levels t

-- No spelling begins another, also of another value.
abbrev pub NoneBeginsAnother : Type 0
NoneBeginsAnother = (t u : Tree) (a b x y : List ℕ) → Spells levels t a → Spells levels u b → a ++ x ≡ b ++ y → (t ≡ u) × (a ≡ b)

-- The function of bytes gives the spelling.
abbrev pub BytesAreSpelling : Type 0
BytesAreSpelling = (t : Tree) → Fits levels t → Spells levels t (value_bytes t)
