-- The moments of a list whose last entry is repeated.
use Rattle.std.specs.Prelude.{ℕ, ◌-◌, List, min, length, slice_index}

-- the n-th moment, counted from 0; past the end it is the last one
abbrev pub nth_moment : List ℕ → ℕ → ℕ
nth_moment moments n = slice_index moments (min n (length moments - 1))
