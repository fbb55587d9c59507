-- A number is read from just its decimal.
use Rattle.std.proofs.Common.{◌≡◌, ◌≢◌, ℕ, ◌^◌, ◌<◌, ◌≤◌, Bool, true, false, ◌&&◌, cond, ltb, ◌⊎◌, inl, inr, List, length, get_or, Result, Ok, Err, refl, sym, ap, ◌∙◌, arith}
use Rattle.std.specs.Str.{bytes_eq, IsUtf8}
use Rattle.std.specs.Str.Parse.{digits_value, IsNumeral, AllDigits, without_leading_plus}
use Rattle.std.specs.Fmt.{decimal}
use Rattle.std.proofs.lemmas.Bool.{and_parts, cases_lt, ltb-true, lt-ltb}
use Rattle.std.proofs.lemmas.Fmt.{decimal_is_IsNumeral, decimal-digits_value, decimal_digit, first_decimal, IsAscii-decimal}
use Rattle.std.proofs.lemmas.Slice.Eq.{bytes_eq-Decides}
use Rattle.std.proofs.lemmas.Str.{IsUtf8-from_ascii}
use Rattle.std.proofs.lemmas.Str.Parse.{IsNumeralModel, numerals_by_value, tells_digits, without_leading_plus_none}
use Rattle.ra_script.specs.declared.line.What.{What}
use Rattle.ra_script.specs.declared.line.What.TheVariants.{BadNumber}
use Rattle.ra_script.specs.Words.{number_at, number_limit}

own : IsNumeralModel (AllDigits 10) (digits_value 10)
own = numerals_by_value (AllDigits 10) tells_digits

-- the decimal of a number is read again
pub number_again : (limit n : ℕ) (word : List ℕ) → limit ≤ 2 ^ 64 → n < limit → word ≡ decimal n → number_at limit word ≡ Ok n
unfolding number_at
number_again limit n word most lt e =
    let value : digits_value 10 word ≡ n = ap (digits_value 10) e ∙ (decimal_is_IsNumeral n (omega arith)).1 in
    let below : ltb n limit ≡ true = lt-ltb n limit lt in
    let same : bytes_eq word (decimal n) ≡ true = (bytes_eq-Decides word (decimal n)).1 e in
    rw (value, below, same) refl

chosen : (b : Bool) (n m : ℕ) → cond b (Ok n) (Err BadNumber) ≡ Ok m → (b ≡ true) × (n ≡ m)
chosen true n m e = (refl, cc)
chosen false n m e = absurd cc

-- what is read is a decimal
pub number_found : (limit n : ℕ) (word : List ℕ) → number_at limit word ≡ Ok n → (n < limit) × (word ≡ decimal n)
unfolding number_at
number_found limit n word e =
    let v = digits_value 10 word in
    let parts = chosen (ltb v limit && bytes_eq word (decimal v)) v n e in
    let tests = and_parts (ltb v limit) (bytes_eq word (decimal v)) parts.0 in
    let below : v < limit = ltb-true v limit tests.0 in
    let is : v ≡ n = parts.1 in
    (omega arith, (bytes_eq-Decides word (decimal v)).0 tests.1 ∙ ap decimal is)

refused : (b : Bool) (n : ℕ) → (b ≡ true → ⊥) → cond b (Ok n) (Err BadNumber) ≡ Err BadNumber
refused true n h = absurd (h refl)
refused false n h = refl

-- nothing is read from what is no decimal
pub number_none : (limit : ℕ) (word : List ℕ) → ((n : ℕ) → n < limit → word ≡ decimal n → ⊥) → number_at limit word ≡ Err BadNumber
unfolding number_at
number_none limit word none =
    let v = digits_value 10 word in
    refused (ltb v limit && bytes_eq word (decimal v)) v (λ h.
    let tests = and_parts (ltb v limit) (bytes_eq word (decimal v)) h in
    none v (ltb-true v limit tests.0) ((bytes_eq-Decides word (decimal v)).0 tests.1))

-- no decimal begins with a plus, and only that of 0 with a zero
pub decimal_front : (n : ℕ) → n < 2 ^ 64 → (48 ≤ get_or (decimal n) 0 0) × (get_or (decimal n) 0 0 ≡ 48 → length (decimal n) ≡ 1)
decimal_front n lt =
    elim (cases_lt 0 n) [
      | inl above ↦ let first = first_decimal n above lt in (omega arith, λ e. absurd (omega arith))
      | inr zero ↦
          let is : n ≡ 0 = omega arith in
          rw (is, decimal_digit 0 (omega arith)) (omega arith, λ _. refl)
    ]

pub not_decimal : (word : List ℕ) (n : ℕ) → n < 2 ^ 64 → (get_or word 0 0 ≡ 43) ⊎ ((get_or word 0 0 ≡ 48) × (1 < length word)) → word ≡ decimal n → ⊥
not_decimal word n lt front e =
    let first = ap (λ (w : List ℕ). get_or w 0 0) e in
    let len = ap (λ (w : List ℕ). length w) e in
    let h = decimal_front n lt in
    elim front [
      | inl plus ↦ omega (arith, first, h.0)
      | inr zero ↦ let one = h.1 (sym first ∙ zero.0) in omega (arith, len, one)
    ]

pub decimal_utf8 : (word : List ℕ) (n : ℕ) → n < 2 ^ 64 → word ≡ decimal n → IsUtf8 word
decimal_utf8 word n lt e = rw e (IsUtf8-from_ascii (decimal n) (IsAscii-decimal n lt))

-- digits without a zero before them are the decimal of their value
pub digits_are_decimal : (word : List ℕ) → IsNumeral 10 word → (get_or word 0 0 ≡ 48 → length word ≤ 1) → digits_value 10 word < 2 ^ 64 → word ≡ decimal (digits_value 10 word)
digits_are_decimal word digits front lt = sym (decimal-digits_value own word digits.1 digits.0 (λ e. let h = front e in let some = digits.0 in omega arith) lt)

-- what `parse` answers of a text without a plus or a zero before it
pub parsed : (word text : List ℕ) (n : ℕ) → text ≡ word → get_or word 0 0 ≢ 43 → (get_or word 0 0 ≡ 48 → length word ≤ 1) → (IsNumeral 10 (without_leading_plus text) × (digits_value 10 (without_leading_plus text) < 2 ^ 64)) × (n ≡ digits_value 10 (without_leading_plus text)) → number_at number_limit word ≡ Ok n
parsed word text n same plus zero h =
    let plain : without_leading_plus text ≡ word = ap without_leading_plus same ∙ without_leading_plus_none word plus in
    let facts = rw plain at h in
    let is = digits_are_decimal word facts.0.0 zero facts.0.1 in
    number_again number_limit n word (omega arith) (rw facts.1 facts.0.1) (is ∙ ap decimal (sym facts.1))

pub unparsed : (word text : List ℕ) (n : ℕ) → text ≡ word → get_or word 0 0 ≢ 43 → ((IsNumeral 10 (without_leading_plus text) × (digits_value 10 (without_leading_plus text) < 2 ^ 64)) → ⊥) → n < number_limit → word ≡ decimal n → ⊥
unparsed word text n same plus h lt is =
    let plain : without_leading_plus text ≡ word = ap without_leading_plus same ∙ without_leading_plus_none word plus in
    let facts = rw plain at h in
    let numeral = decimal_is_IsNumeral n lt in
    facts (rw is numeral.0, rw (is, numeral.1) lt)

-- a number is below a limit or not read below it
pub number_below : (limit n : ℕ) (word : List ℕ) → limit ≤ number_limit → number_at number_limit word ≡ Ok n → n < limit → number_at limit word ≡ Ok n
number_below limit n word most e lt = number_again limit n word most lt (number_found number_limit n word e).1

pub number_above : (limit n : ℕ) (word : List ℕ) → limit ≤ number_limit → number_at number_limit word ≡ Ok n → limit ≤ n → number_at limit word ≡ Err BadNumber
number_above limit n word most e le = number_none limit word (λ m lt is.
    let again = number_again number_limit m word (omega arith) (omega arith) is in
    let same : Ok m ≡ Ok n = sym again ∙ e in
    let equal : m ≡ n = cc in
    omega arith)

cause : (b : Bool) (n : ℕ) (what : What) → cond b (Ok n) (Err BadNumber) ≡ Err what → what ≡ BadNumber
cause true n what e = absurd cc
cause false n what e = cc

-- there is one cause
pub number_cause : (limit : ℕ) (word : List ℕ) (what : What) → number_at limit word ≡ Err what → what ≡ BadNumber
unfolding number_at
number_cause limit word what e =
    let v = digits_value 10 word in
    cause (ltb v limit && bytes_eq word (decimal v)) v what e

differ : (m : ℕ) (what : What) (r : Result ℕ What) → r ≡ Ok m → r ≡ Err what → ⊥
differ m what r a b = cc

pub number_bad : (limit : ℕ) (word : List ℕ) (what : What) → limit ≤ number_limit → number_at number_limit word ≡ Err what → number_at limit word ≡ Err what
number_bad limit word what most e =
    number_none limit word (λ m lt is. differ m what (number_at number_limit word) (number_again number_limit m word (omega arith) (omega arith) is) e)
    ∙ ap Err (sym (number_cause number_limit word what e))
