-- The spelling of a value in bytes: a tag, and what the tag asks for.
use Rattle.std.specs.Prelude.{◌≡◌, ℕ, zero, suc, ◌<◌, ◌^◌, List, [], ◌∷◌, ◌++◌, length, IsUtf8}
use Rattle.ra_values.specs.Number.{SpellsNumber}
use Rattle.ra_values.specs.Tree.{Tree, undefined, text, buffer, vs_buffer, array, object, int, Trees, none, more, count}

-- The deepest level: the outermost value stands at level 1, the items of an array one level below it.
abbrev pub levels : ℕ
levels = 128

-- a tag, a length, and that many bytes
abbrev pub SpellsPrefixed : ℕ → List ℕ → List ℕ → Type 0
SpellsPrefixed tag content bytes = (len : List ℕ) × SpellsNumber (length content) len × (bytes ≡ tag ∷ (len ++ content))

-- The bytes spell the value, where so many levels are left. The tags count in the order of the cases.
abbrev mutual
  pub Spells : ℕ → Tree → List ℕ → Type 0
  Spells zero t bytes = ⊥
  Spells (suc left) undefined bytes = bytes ≡ 0 ∷ []
  Spells (suc left) (text t) bytes = IsUtf8 t × SpellsPrefixed 1 t bytes
  Spells (suc left) (buffer b) bytes = SpellsPrefixed 2 b bytes
  Spells (suc left) (vs_buffer b) bytes = SpellsPrefixed 3 b bytes
  Spells (suc left) (array items) bytes = (len : List ℕ) × (rest : List ℕ) × SpellsNumber (count items) len × SpellsAll left items rest × (bytes ≡ 4 ∷ (len ++ rest))
  Spells (suc left) (object t) bytes = IsUtf8 t × SpellsPrefixed 5 t bytes
  Spells (suc left) (int n) bytes = (pattern : List ℕ) × SpellsNumber n pattern × (bytes ≡ 6 ∷ pattern)

  pub SpellsAll : ℕ → Trees → List ℕ → Type 0
  SpellsAll left none bytes = bytes ≡ []
  SpellsAll left (more t ts) bytes = (first : List ℕ) × (others : List ℕ) × Spells left t first × SpellsAll left ts others × (bytes ≡ first ++ others)

-- The value has a spelling, where so many levels are left.
abbrev mutual
  pub Fits : ℕ → Tree → Type 0
  Fits zero t = ⊥
  Fits (suc left) undefined = Unit {0}
  Fits (suc left) (text t) = IsUtf8 t × (length t < 2 ^ 32)
  Fits (suc left) (buffer b) = length b < 2 ^ 32
  Fits (suc left) (vs_buffer b) = length b < 2 ^ 32
  Fits (suc left) (array items) = (count items < 2 ^ 32) × AllFit left items
  Fits (suc left) (object t) = IsUtf8 t × (length t < 2 ^ 32)
  Fits (suc left) (int n) = n < 2 ^ 32

  pub AllFit : ℕ → Trees → Type 0
  AllFit left none = Unit {0}
  AllFit left (more t ts) = Fits left t × AllFit left ts

-- new is old with a spelling at its end
abbrev pub AppendsPrefixed : ℕ → List ℕ → List ℕ → List ℕ → Type 0
AppendsPrefixed tag content old new = (bytes : List ℕ) × SpellsPrefixed tag content bytes × (new ≡ old ++ bytes)

abbrev pub Appends : ℕ → Tree → List ℕ → List ℕ → Type 0
Appends left t old new = (bytes : List ℕ) × Spells left t bytes × (new ≡ old ++ bytes)

abbrev pub AppendsAll : ℕ → Trees → List ℕ → List ℕ → Type 0
AppendsAll left ts old new = (bytes : List ℕ) × SpellsAll left ts bytes × (new ≡ old ++ bytes)
