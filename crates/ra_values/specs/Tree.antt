-- Plain values, without where they lie in memory. An integer is its 32 bits as a number.
use Rattle.std.specs.Prelude.{ℕ, suc, List, [], ◌∷◌}

mutual
  pub data Tree : Type 0 where
    undefined : Tree
    text : List ℕ → Tree
    buffer : List ℕ → Tree
    vs_buffer : List ℕ → Tree
    array : Trees → Tree
    object : List ℕ → Tree
    int : ℕ → Tree

  pub data Trees : Type 0 where
    none : Trees
    more : Tree → Trees → Trees

abbrev pub count : Trees → ℕ
count none = 0
count (more t ts) = suc (count ts)

abbrev pub trees_of : List Tree → Trees
trees_of [] = none
trees_of (t ∷ ts) = more t (trees_of ts)
