-- The queue of what is not acknowledged.
use Rattle.std.specs.Prelude.{ℕ, Bool, false, nat_le, List, [], ◌∷◌}
use Rattle.ra_model.specs.declared.session.Entry.{Entry}

-- the messages, the oldest first, and how many more there is room for
pub record Queue : Type 0 where
  pub entries : List Entry
  pub spare : ℕ

-- the first has an id up to this one
abbrev pub leads : ℕ → List Entry → Bool
leads upto [] = false
leads upto (entry ∷ entries) = nat_le entry.id upto
