-- The rows of a query as records.
use Rattle.std.specs.Prelude.{ℕ, ◌+◌, ◌^◌, ◌==◌, nat_lt, pos, negsuc, List, [], ◌∷◌, map, Option, Some, None, if◌then◌else◌, Result, Ok, Err}
use Rattle.ra_base.specs.declared.kind.Kind.{Kind}
use Rattle.ra_base.specs.declared.kind.Kind.TheVariants.{Management, ExtensionHost}
use Rattle.ra_base.specs.TokenGrammar.{token_of}
use Rattle.ra_keep.specs.declared.record.Record.{Record}
use Rattle.sqlite.specs.declared.types.Value.{Value}
use Rattle.sqlite.specs.declared.types.Value.TheVariants.{Null, Int, Real, Text as Words, Blob}
use Rattle.sqlite.specs.Order.{Row, column}

-- the kind that a number is kept for
abbrev pub kind_numbered : ℕ → Option Kind
kind_numbered n = if n == 1 then Some Management else (if n == 2 then Some ExtensionHost else None)

-- the number from 0 that a value is
abbrev pub number_in : Value → Option ℕ
number_in (Int (pos n)) = Some n
number_in (Int (negsuc n)) = None
number_in Null = None
number_in (Real x) = None
number_in (Words t) = None
number_in (Blob b) = None

abbrev pub and_then : {A B : Type 0} → (A → Option B) → Option A → Option B
and_then f (Some x) = f x
and_then f None = None

abbrev pub kind_in : Value → Option Kind
kind_in v = and_then kind_numbered (number_in v)

abbrev pub ok_of : {A E : Type 0} → Result A E → Option A
ok_of (Ok x) = Some x
ok_of (Err e) = None

-- the token that a value is
abbrev pub token_in : Value → Option (List ℕ)
token_in (Words t) = ok_of (token_of t)
token_in (Int n) = None
token_in Null = None
token_in (Real x) = None
token_in (Blob b) = None

-- the moment that a value is
abbrev pub moment_in : Value → Option ℕ
moment_in v = and_then (λ at. if nat_lt at (2 ^ 53) then Some at else None) (number_in v)

-- the record that a row of the query is, where it has this number
abbrev pub record_in : ℕ → Row → Option Record
record_in n row =
    and_then (λ number. if number == n then
    and_then (λ kind. and_then (λ token. and_then (λ epoch. and_then (λ at. Some (record { key = record { kind = kind; token = token }; epoch = epoch; at = at }))
    (moment_in (column row 4))) (number_in (column row 3))) (token_in (column row 2))) (kind_in (column row 1))
    else None) (number_in (column row 0))

abbrev pub first_bad : ℕ → Option Record → Option ℕ → Option ℕ
first_bad n (Some r) later = later
first_bad n None later = Some n

abbrev pub with_first : Option Record → Option (List Record) → Option (List Record)
with_first (Some r) (Some rs) = Some (r ∷ rs)
with_first (Some r) None = None
with_first None rs = None

-- the records that rows of the query are, where the first has this number and each later one the next
abbrev pub records_from : ℕ → List Row → Option (List Record)
records_from n [] = Some []
records_from n (row ∷ rows) = with_first (record_in n row) (records_from (n + 1) rows)

-- the number of the first row that is no record
abbrev pub bad_from : ℕ → List Row → Option ℕ
bad_from n [] = None
bad_from n (row ∷ rows) = first_bad n (record_in n row) (bad_from (n + 1) rows)

-- a row of the table as the query shows it
abbrev pub shown_row : Row → Row
shown_row row = column row 0 ∷ column row 2 ∷ column row 3 ∷ column row 4 ∷ column row 5 ∷ []

-- the records that the rows of the table are
abbrev pub records_of : List Row → Option (List Record)
records_of rows = records_from 1 (map shown_row rows)
