-- What a call answered, beside what it should answer.
use Rattle.std.specs.Prelude.{◌≡◌, ◌≢◌, Bool, if◌then◌else◌, List, [], ◌∷◌, Option, Some, None, Result, Ok, Err}

-- The answer is the expected one, unless memory ran out.
abbrev pub Answers : {T E : Type 0} → E → Result T E → Result T E → Type 0
Answers no_memory (Ok x) expected = expected ≡ Ok x
Answers no_memory (Err e) expected = e ≢ no_memory → expected ≡ Err e

-- the reason of the first row of a table whose test holds
abbrev pub first_that : {X : Type 0} → List (Bool × X) → Option X
first_that [] = None
first_that (row ∷ rows) = if row.0 then Some row.1 else first_that rows
