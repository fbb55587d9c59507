-- The spelling of a value as a function. That it is the spelling is a law.
use Rattle.std.specs.Prelude.{ℕ, zero, suc, ◌+◌, ◌/◌, ◌%◌, List, [], ◌∷◌, ◌++◌, length, if◌then◌else◌, nat_lt}
use Rattle.ra_values.specs.Tree.{Tree, undefined, text, buffer, vs_buffer, array, object, int, Trees, none, more, count}

-- the groups of a number, of which so many may follow the first
abbrev pub groups_of : ℕ → ℕ → List ℕ
groups_of zero n = n ∷ []
groups_of (suc left) n = if nat_lt n 128 then n ∷ [] else (n % 128 + 128) ∷ groups_of left (n / 128)

unfoldable pub number_bytes : ℕ → List ℕ
number_bytes n = groups_of 4 n

-- a tag, a length, and the content
abbrev pub prefixed_bytes : ℕ → List ℕ → List ℕ
prefixed_bytes tag content = tag ∷ (number_bytes (length content) ++ content)

unfoldable mutual
  pub value_bytes : Tree → List ℕ
  value_bytes undefined = 0 ∷ []
  value_bytes (text t) = prefixed_bytes 1 t
  value_bytes (buffer b) = prefixed_bytes 2 b
  value_bytes (vs_buffer b) = prefixed_bytes 3 b
  value_bytes (array items) = 4 ∷ (number_bytes (count items) ++ items_bytes items)
  value_bytes (object t) = prefixed_bytes 5 t
  value_bytes (int n) = 6 ∷ number_bytes n

  pub items_bytes : Trees → List ℕ
  items_bytes none = []
  items_bytes (more t ts) = value_bytes t ++ items_bytes ts
