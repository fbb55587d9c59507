-- The words that all grammars share: sides, numbers, counts and bytes, as they are printed and as they are read.
use Rattle.std.specs.Prelude.{ℕ, ◌^◌, ◌==◌, ◌&&◌, nat_lt, if◌then◌else◌, List, [], ◌∷◌, ◌++◌, length, slice_index, drop, codes, Result, Ok, Err}
use Rattle.std.specs.Str.{bytes_eq}
use Rattle.std.specs.Str.Parse.{digits_value}
use Rattle.std.specs.Fmt.{decimal}
use Rattle.hex.specs.Hex.{decode_of, encode_lower}
use Rattle.hex.specs.declared.error.FromHexError.{FromHexError}
use Rattle.ra_base.specs.declared.event.Side.{Side}
use Rattle.ra_base.specs.declared.event.Side.TheVariants as sides
use Rattle.ra_base.specs.declared.event.Count.{Count}
use Rattle.ra_base.specs.declared.event.Count.TheVariants as counts
use Rattle.ra_script.specs.declared.line.What.{What}
use Rattle.ra_script.specs.declared.line.What.TheVariants.{UnknownWord, BadNumber, BadBytes}

-- a step after another, which goes on where the first did not fail
infixl 10 ◌>>=◌
abbrev pub ◌>>=◌ : {A B E : Type 0} → Result A E → (A → Result B E) → Result B E
(Ok x) >>= f = f x
(Err e) >>= f = Err e

-- ---- as they are printed

abbrev pub side_text : Side → List ℕ
side_text sides.A = codes "A"
side_text sides.B = codes "B"

abbrev pub count_text : Count → List ℕ
count_text counts.All = codes "*"
count_text (counts.Exact n) = decimal n
count_text (counts.Most n) = codes "~" ++ decimal n

abbrev pub bytes_text : List ℕ → List ℕ
bytes_text [] = codes "-"
bytes_text (b ∷ bytes) = encode_lower (b ∷ bytes)

-- ---- as they are read

abbrev pub side_at : List ℕ → Result Side What
side_at word = if bytes_eq word (codes "A") then Ok sides.A else if bytes_eq word (codes "B") then Ok sides.B else Err UnknownWord

-- numbers are below these
abbrev pub number_limit : ℕ
number_limit = 2 ^ 64

abbrev pub moment_limit : ℕ
moment_limit = 2 ^ 53

-- a word that is just the decimal of a number below the limit
unfoldable pub number_at : ℕ → List ℕ → Result ℕ What
number_at limit word = let n = digits_value 10 word in if nat_lt n limit && bytes_eq word (decimal n) then Ok n else Err BadNumber

unfoldable pub count_at : List ℕ → Result Count What
count_at word =
    if bytes_eq word (codes "*") then Ok counts.All
    else if slice_index word 0 == 126 then (number_at number_limit (drop 1 word) >>= λ n. Ok (counts.Most n))
    else (number_at number_limit word >>= λ n. Ok (counts.Exact n))

abbrev pub digits_or_bad : Result (List ℕ) FromHexError → Result (List ℕ) What
digits_or_bad (Ok bytes) = Ok bytes
digits_or_bad (Err e) = Err BadBytes

-- pairs of digits in either case, or a dash for none
unfoldable pub bytes_at : List ℕ → Result (List ℕ) What
bytes_at word =
    if bytes_eq word (codes "-") then Ok []
    else if length word == 0 then Err BadBytes
    else digits_or_bad (decode_of word)
