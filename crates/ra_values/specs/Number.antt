-- A number below 2^32 in groups of seven bits, the lowest first: its spelling, and its reading.
use Rattle.std.specs.Prelude.{◌≡◌, ℕ, zero, suc, ◌+◌, ◌-◌, ◌*◌, ◌<◌, ◌≤◌, ◌^◌, List, [], ◌∷◌, ◌++◌, Ok, nat_lt, ◌==◌, if◌then◌else◌}
use Rattle.ra_values.specs.declared.fault.Wrong.TheVariants.{Short, BadNumber}
use Rattle.ra_values.specs.Reading.{Read, wrong, ◌>>=◌}

-- A byte below 128 is the last and stands for itself. One from 128 on has the low seven bits, and the bytes after it stand for
-- the rest, which isn't 0. So each number has one form.
abbrev pub IsGroups : List ℕ → ℕ → Type 0
IsGroups [] n = ⊥
IsGroups (b ∷ []) n = (b < 128) × (n ≡ b)
IsGroups (b ∷ c ∷ bs) n = (128 ≤ b) × (b < 256) × (high : ℕ) × (0 < high) × (n + 128 ≡ b + 128 * high) × IsGroups (c ∷ bs) high

abbrev pub SpellsNumber : ℕ → List ℕ → Type 0
SpellsNumber n bytes = (n < 2 ^ 32) × IsGroups bytes n

-- reading a fifth byte, which stands at the front of here
abbrev pub last_at : ℕ → List ℕ → List ℕ → Read ℕ
last_at b here bytes = if nat_lt 15 b then wrong BadNumber here else Ok (b, bytes)

-- reading the bytes after a first one, of which so many may still follow the next
unfoldable pub later_at : ℕ → List ℕ → Read ℕ
later_at more [] = wrong Short []
later_at zero (b ∷ bytes) = if b == 0 then wrong BadNumber (b ∷ bytes) else last_at b (b ∷ bytes) bytes
later_at (suc more) (b ∷ bytes) = if b == 0 then wrong BadNumber (b ∷ bytes) else (if nat_lt b 128 then Ok (b, bytes) else (do
  high ← later_at more bytes
  Ok (b - 128 + 128 * high.0, high.1)))

-- reading a number
unfoldable pub number_at : List ℕ → Read ℕ
number_at [] = wrong Short []
number_at (b ∷ bytes) = if nat_lt b 128 then Ok (b, bytes) else (do
  high ← later_at 3 bytes
  Ok (b - 128 + 128 * high.0, high.1))

-- what such later bytes stand for is below this
abbrev pub later_limit : ℕ → ℕ
later_limit zero = 16
later_limit (suc more) = 128 * later_limit more

-- new is old with the bytes of the number behind it
abbrev pub AppendsNumber : ℕ → List ℕ → List ℕ → Type 0
AppendsNumber n old new = (bytes : List ℕ) × IsGroups bytes n × (new ≡ old ++ bytes)
