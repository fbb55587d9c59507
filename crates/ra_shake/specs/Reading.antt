-- What a body says, as JSON. Members may stand in any order, of equal names the last one counts, and others are not looked at.
use Rattle.std.specs.Prelude.{ℕ, Bool, false, List, Option, Some, None, codes, bytes_eq, option_and_then, if◌then◌else◌}
use Rattle.std.specs.Str.{is_utf8}
use Rattle.serde_json.specs.Data.{Data}
use Rattle.serde_json.specs.Find.{get, as_str, as_number, as_u64}
use Rattle.serde_json.specs.Read.{read}

-- the value of a body that is UTF-8 and JSON, nested at most 127 deep
unfoldable pub reading : List ℕ → Option Data
reading body = if is_utf8 body then read body else None

-- a member of an object
abbrev pub member_of : List ℕ → Option Data → Option Data
member_of name value = option_and_then (get name) value

-- a member that is a text
abbrev pub text_of_member : List ℕ → Option Data → Option (List ℕ)
text_of_member name value = option_and_then as_str (member_of name value)

-- a member that is a whole number, below 2^64 and written without a point or an exponent
abbrev pub number_of_member : List ℕ → Option Data → Option ℕ
number_of_member name value = option_and_then as_u64 (option_and_then as_number (member_of name value))

abbrev pub is_text : Option (List ℕ) → List ℕ → Bool
is_text None text = false
is_text (Some found) text = bytes_eq found text

-- the value is an object of that type
abbrev pub has_type : List ℕ → Option Data → Bool
has_type name value = is_text (text_of_member (codes "type") value) name
