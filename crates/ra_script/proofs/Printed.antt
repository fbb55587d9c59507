-- A word that is printed is read again, and has no space in it.
use Rattle.std.proofs.Common.{◌≡◌, ℕ, suc, ◌/◌, ◌%◌, ◌^◌, ◌<◌, ◌≤◌, Bool, true, false, ◌&&◌, eqb, leb, inl, inr, List, [], ◌∷◌, length, get_or, Ok, refl, ap, ◌∙◌, arith}
use Rattle.std.specs.Prelude.{codes}
use Rattle.std.specs.List.{All, AllByRecursion, list_all, slice_split, join_with_byte}
use Rattle.std.specs.Str.{bytes_eq}
use Rattle.std.specs.Str.Parse.{AllDigits}
use Rattle.std.specs.Fmt.{decimal}
use Rattle.std.proofs.lemmas.Bool.Decides.{eqb_tells, nat_tests}
use Rattle.std.proofs.lemmas.Fmt.{decimal_is_IsNumeral}
use Rattle.std.proofs.lemmas.List.Elements.{All-nil, All-cons}
use Rattle.std.proofs.lemmas.List.Folds.{list_all-append}
use Rattle.std.proofs.lemmas.List.Sums.{AllPass-from_list_all, list_all-from_AllPass}
use Rattle.std.proofs.lemmas.List.Splits.{slice_split_none, slice_split_at}
use Rattle.std.proofs.lemmas.Slice.Eq.{bytes_eq-Decides}
use Rattle.std.proofs.lemmas.Str.Parse.{digit_from_value}
use Rattle.hex.specs.Hex.{IsBytes, encode_with, encode_lower, lower_digits}
use Rattle.hex.proofs.HexLemmas.{decode_of-encode_lower, length-encode_with}
use Rattle.ra_base.specs.declared.event.Side.{Side}
use Rattle.ra_base.specs.declared.event.Side.TheVariants.{A, B}
use Rattle.ra_base.specs.declared.event.Count.{Count}
use Rattle.ra_base.specs.declared.event.Count.TheVariants as counts
use Rattle.ra_script.specs.Words.{side_text, count_text, bytes_text, side_at, number_at, count_at, bytes_at, number_limit}
use Rattle.ra_script.specs.Lines.{is_text}
use Rattle.ra_script.specs.Printable.{IsCountInRange}
use Rattle.ra_script.proofs.Numbers.{number_again}

not_true : (b : Bool) → (b ≡ true → ⊥) → b ≡ false
not_true true h = absurd (h refl)
not_true false h = refl

pub differs : (a b : List ℕ) → (a ≡ b → ⊥) → bytes_eq a b ≡ false
differs a b h = not_true (bytes_eq a b) (λ e. h ((bytes_eq-Decides a b).0 e))

pub not_equal : (a b : ℕ) → (a ≡ b → ⊥) → eqb a b ≡ false
not_equal a b h = elim (eqb_tells a b) [ inl p ↦ absurd (h p.1) | inr p ↦ p.0 ]

-- ---- read again

pub side_again : (s : Side) → side_at (side_text s) ≡ Ok s
side_again A = refl
side_again B = refl

first_digit : (ds : List ℕ) → AllDigits 10 ds → 0 < length ds → (48 ≤ get_or ds 0 0) × (get_or ds 0 0 ≤ 57)
first_digit [] h some = absurd (omega arith)
first_digit (c ∷ cs) h some = let r = digit_from_value c h.0 in (r.0, r.1)

pub decimal_again : (limit n : ℕ) → limit ≤ 2 ^ 64 → n < limit → number_at limit (decimal n) ≡ Ok n
decimal_again limit n most lt = number_again limit n (decimal n) most lt refl

pub count_again : (count : Count) → IsCountInRange count → count_at (count_text count) ≡ Ok count
unfolding count_at
count_again counts.All h = refl
count_again (counts.Exact n) h =
    let numeral = decimal_is_IsNumeral n h in
    let digit = first_digit (decimal n) numeral.0.1 numeral.0.0 in
    let star : bytes_eq (decimal n) (codes "*") ≡ false = differs (decimal n) (codes "*") (λ e. let first = ap (λ (w : List ℕ). get_or w 0 0) e in omega (arith, digit.0)) in
    let tilde : eqb (get_or (decimal n) 0 0) 126 ≡ false = not_equal _ 126 (λ e. omega (arith, digit.1)) in
    rw (star, tilde, decimal_again number_limit n (omega arith) h) refl
count_again (counts.Most n) h = rw (decimal_again number_limit n (omega arith) h) refl

pub bytes_again : (bytes : List ℕ) → IsBytes bytes → bytes_at (bytes_text bytes) ≡ Ok bytes
unfolding bytes_at
bytes_again [] h = refl
bytes_again (b ∷ bytes) h =
    let text = encode_lower (b ∷ bytes) in
    let len = length-encode_with lower_digits (b ∷ bytes) in
    let dash : bytes_eq text (codes "-") ≡ false = differs text (codes "-") (λ e. let one = ap (λ (w : List ℕ). length w) e in omega arith) in
    let some : eqb (length text) 0 ≡ false = not_equal (length text) 0 (λ e. omega arith) in
    rw (dash, some, decode_of-encode_lower (b ∷ bytes) h) refl

-- ---- no space

abbrev IsWordByte : ℕ → Type 0
IsWordByte c = (33 ≤ c) × (c ≤ 126)

pub record IsWord (word : List ℕ) : Type 0 where
  pub bytes : All IsWordByte word

abbrev is_word_byte : ℕ → Bool
is_word_byte c = leb 33 c && leb c 126

word_byte : (c : ℕ) → is_word_byte c ≡ true → IsWordByte c
word_byte c h = grind (arith, nat_tests)

pub literal_word : (word : List ℕ) → list_all is_word_byte word ≡ true → IsWord word
literal_word word h = record { bytes = λ k d lt. word_byte _ (AllPass-from_list_all is_word_byte word h k d lt) }

pub side_word : (s : Side) → IsWord (side_text s)
side_word A = literal_word (codes "A") refl
side_word B = literal_word (codes "B") refl

digits_word : (ds : List ℕ) → AllDigits 10 ds → All IsWordByte ds
digits_word [] h = All-nil IsWordByte
digits_word (c ∷ cs) h = let r = digit_from_value c h.0 in All-cons IsWordByte c cs (omega (arith, r.0), omega (arith, r.1)) (digits_word cs h.1)

pub decimal_word : (n : ℕ) → n < 2 ^ 64 → IsWord (decimal n)
decimal_word n lt = record { bytes = digits_word (decimal n) (decimal_is_IsNumeral n lt).0.1 }

pub count_word : (count : Count) → IsCountInRange count → IsWord (count_text count)
count_word counts.All h = literal_word (codes "*") refl
count_word (counts.Exact n) h = decimal_word n h
count_word (counts.Most n) h = record { bytes = All-cons IsWordByte 126 (decimal n) (omega arith, omega arith) (decimal_word n h).bytes }

hex_word : (bytes : List ℕ) → IsBytes bytes → All IsWordByte (encode_lower bytes)
unfolding encode_with
hex_word [] h = All-nil IsWordByte
hex_word (b ∷ bytes) h =
    let digits = (literal_word lower_digits refl).bytes in
    let fits : b < 256 = h 0 in
    All-cons IsWordByte (get_or lower_digits (b / 16) 0) (get_or lower_digits (b % 16) 0 ∷ encode_lower bytes) (digits (b / 16) 0 (omega arith))
    (All-cons IsWordByte (get_or lower_digits (b % 16) 0) (encode_lower bytes) (digits (b % 16) 0 (omega arith)) (hex_word bytes (λ k. h (suc k))))

pub bytes_word : (bytes : List ℕ) → IsBytes bytes → IsWord (bytes_text bytes)
bytes_word [] h = literal_word (codes "-") refl
bytes_word (b ∷ bytes) h = record { bytes = hex_word (b ∷ bytes) h }

-- ---- words with a space between

abbrev pub is_space : ℕ → Bool
is_space c = eqb c 32

no_space : (word : List ℕ) → IsWord word → All (λ c. is_space c ≡ false) word
no_space word h k d lt = let r = h.bytes k d lt in not_equal (get_or word k d) 32 (λ e. omega (arith, r.0))

text_byte : (c : ℕ) → 33 ≤ c → c ≤ 126 → is_text c ≡ true
text_byte c low high = grind (arith, nat_tests)

text_word : (word : List ℕ) → IsWord word → list_all is_text word ≡ true
text_word word h = list_all-from_AllPass is_text word (λ k d lt. let r = h.bytes k d lt in text_byte (get_or word k d) r.0 r.1)

pub split_words : (word : List ℕ) (words : List (List ℕ)) → IsWord word → AllByRecursion IsWord words → slice_split is_space (join_with_byte 32 (word ∷ words)) ≡ word ∷ words
split_words word [] h hs = slice_split_none is_space word (no_space word h)
split_words word (next ∷ words) h hs =
    slice_split_at is_space word 32 (join_with_byte 32 (next ∷ words)) (no_space word h) refl
    ∙ ap (λ (ws : List (List ℕ)). word ∷ ws) (split_words next words hs.0 hs.1)

pub text_words : (word : List ℕ) (words : List (List ℕ)) → IsWord word → AllByRecursion IsWord words → list_all is_text (join_with_byte 32 (word ∷ words)) ≡ true
text_words word [] h hs = text_word word h
text_words word (next ∷ words) h hs =
    list_all-append is_text word (32 ∷ join_with_byte 32 (next ∷ words)) ∙ rw (text_word word h, text_words next words hs.0 hs.1) refl
