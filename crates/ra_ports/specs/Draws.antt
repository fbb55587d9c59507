-- The draws of a list whose last entry is repeated.
use Rattle.std.specs.Prelude.{ℕ, ◌-◌, List, [], min, length, slice_index_or}

-- the n-th draw, counted from 0; past the end it is the last one
abbrev pub nth_draw : List (List ℕ) → ℕ → List ℕ
nth_draw draws n = slice_index_or draws (min n (length draws - 1)) []
