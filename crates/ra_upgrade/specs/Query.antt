-- The query of a request target, as pairs of names and values (application/x-www-form-urlencoded, the URL Standard, section 5).
-- Names and values are percent-decoded; bytes that are then no UTF-8 become U+FFFD.
use Rattle.std.specs.Prelude.{ℕ, Bool, false, List, [], ◌∷◌, map, filter, Option, Some, None, bytes_eq, codes}
use Rattle.std.specs.Str.Lossy.{utf8_lossy}
use Rattle.form_urlencoded.specs.Form.{split_once, raw_pairs, decode}

-- '?'
abbrev pub question_mark : ℕ
question_mark = 63

-- what follows the first question mark
abbrev pub query_of : List ℕ → List ℕ
query_of target = (split_once question_mark target).1

-- the text that an encoded name or value stands for
unfoldable pub form_text : List ℕ → List ℕ
form_text bytes = utf8_lossy (decode bytes)

-- the name and the value of a pair, decoded
abbrev pub decoded : List ℕ × List ℕ → List ℕ × List ℕ
decoded pair = (form_text pair.0, form_text pair.1)

-- the pairs of a query
abbrev pub pairs : List ℕ → List (List ℕ × List ℕ)
pairs query = map decoded (raw_pairs query)

-- the one element of a list that has just one
abbrev pub only : {A : Type 0} → List A → Option A
only [] = None
only (x ∷ []) = Some x
only (x ∷ y ∷ xs) = None

-- the values of the pairs of that name, in order
abbrev pub values_of : List ℕ → List (List ℕ × List ℕ) → List (List ℕ)
values_of name ps = map (λ p. p.1) (filter (λ p. bytes_eq p.0 name) ps)

-- the value of a name that just one pair has
abbrev pub only_value : List ℕ → List ℕ → Option (List ℕ)
only_value name query = only (values_of name (pairs query))

-- the value is there, and is `true`
abbrev pub is_true : Option (List ℕ) → Bool
is_true None = false
is_true (Some value) = bytes_eq value (codes "true")

-- just one pair has the name, and its value is `true`
abbrev pub flag : List ℕ → List ℕ → Bool
flag name query = is_true (only_value name query)
