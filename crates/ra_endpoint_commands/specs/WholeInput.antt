-- What was read of an input, where the source tells.
use Rattle.std.specs.Prelude.{◌≡◌, ℕ, ◌<◌, ◌≤◌, List, [], length, Option, Some}
use Rattle.ra_endpoint_commands.specs.declared.read_whole.Input.{Input}
use Rattle.ra_endpoint_commands.specs.declared.read_whole.Input.TheVariants.{Whole, Over}

-- all of it, which is within the limit, and nothing is left; or it has more bytes than the limit
abbrev pub IsInput : ℕ → Input → Option (List ℕ) → Option (List ℕ) → Type 0
IsInput limit (Whole bytes) left left' = (length bytes.items ≤ limit) × ((input : List ℕ) → left ≡ Some input → (bytes.items ≡ input) × (left' ≡ Some []))
IsInput limit Over left left' = (input : List ℕ) → left ≡ Some input → limit < length input
