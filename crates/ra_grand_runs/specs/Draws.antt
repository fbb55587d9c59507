-- The draws of this world, by their numbers, and those of one link among them.
use Rattle.std.specs.Prelude.{ℕ, zero, suc, ◌+◌, ◌-◌, ◌^◌, min, List, [], ◌∷◌, ◌++◌, replicate}
use Rattle.std.specs.Int.{w64, to_be_bytes}

-- the n-th draw, counted from 1: its number in 16 bytes, the highest first. From the last 64-bit number on it is that number's
unfoldable pub nth_draw : ℕ → List ℕ
nth_draw n = replicate 8 0 ++ to_be_bytes w64 (min n (2 ^ 64 - 1))

-- the draws that come after so many
abbrev pub draws_after : ℕ → ℕ → List ℕ
draws_after drawn n = nth_draw (drawn + n + 1)

-- these draws, and then those that come
abbrev pub own_then : List (List ℕ) → (ℕ → List ℕ) → ℕ → List ℕ
own_then [] next n = next n
own_then (d ∷ ds) next zero = d
own_then (d ∷ ds) next (suc n) = own_then ds next n

-- the first of them
abbrev pub first_draws : ℕ → (ℕ → List ℕ) → List (List ℕ)
first_draws zero draw = []
first_draws (suc n) draw = draw 0 ∷ first_draws n (λ k. draw (k + 1))
