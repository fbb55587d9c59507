-- The bytes of the texts that heads are made of: base64, encoded forms, and words that are given.
use Rattle.std.proofs.Common.{◌≡◌, ◌≢◌, ℕ, zero, suc, ◌+◌, ◌*◌, ◌/◌, ◌%◌, ◌<◌, ◌≤◌, ◌==◌, true, false, not, List, [], ◌∷◌, length, replicate, slice_index, reverse, arith, refl, All, length-append}
use Rattle.std.specs.List.{AllByRecursion, AllPass, list_all}
use Rattle.std.specs.Int.{byte_at, to_be_bytes, w32}
use Rattle.std.proofs.lemmas.Bool.Decides.{nat_tests}
use Rattle.std.proofs.lemmas.List.Elements.{All-nil, All-cons, All-head, All-tail, All-append, All-weaker}
use Rattle.std.proofs.lemmas.List.Sums.{AllPass-from_list_all}
use Rattle.base64.specs.Engines.{standard}
use Rattle.base64.specs.GeneralPurpose.{encode_of, engine_symbols}
use Rattle.base64.specs.Rfc4648.{encode_group, encode_two, encode_one, encode_symbols, padding_len}
use Rattle.sha1.specs.Sha1.{sha1, digest_bytes, hash_after, padded_message}
use Rattle.ra_base.specs.TokenGrammar.{is_visible}
use Rattle.httparse.specs.Grammar.{is_value_byte, is_ows, skip_ows, trim_ows}
use Rattle.httparse.proofs.TrimLemmas.{trim_ows_space, AllPass-reverse}
use Rattle.std.specs.Str.{bytes_eq}
use Rattle.std.specs.Cmp.Lexicographic.{nat_list_eq_equiv}
use Rattle.std.proofs.lemmas.Bool.{cond-false}

-- ---- bytes

-- the number is that of a byte
abbrev pub IsByte : ℕ → Type 0
IsByte b = b < 256

-- a list that is written out, element by element
pub each_of : {X : Type 0} (P : X → Type 0) (xs : List X) → AllByRecursion P xs → All P xs
each_of P [] h = All-nil P
each_of P (x ∷ xs) h = All-cons P x xs h.0 (each_of P xs h.1)

small_byte : (i n : ℕ) → byte_at i n < 256
small_byte zero n = omega arith
small_byte (suc i) n = omega arith

be_bytes : (n : ℕ) → All IsByte (to_be_bytes w32 n)
be_bytes n = each_of IsByte (to_be_bytes w32 n) (small_byte 3 n, (small_byte 2 n, (small_byte 1 n, (small_byte 0 n, tt))))

digest : (h : List ℕ) (n : ℕ) → All IsByte (digest_bytes h n)
unfolding digest_bytes
digest h zero = All-nil IsByte
digest h (suc n) = All-append IsByte (digest_bytes h n) (to_be_bytes w32 (slice_index h n)) (digest h n) (be_bytes (slice_index h n))

length-digest : (h : List ℕ) (n : ℕ) → length (digest_bytes h n) ≡ 4 * n
unfolding digest_bytes
length-digest h zero = refl
length-digest h (suc n) = omega (arith, length-append (digest_bytes h n) (to_be_bytes w32 (slice_index h n)), length-digest h n)

-- a digest has 20 bytes
pub All-sha1 : (m : List ℕ) → All IsByte (sha1 m)
unfolding sha1
All-sha1 m = digest (hash_after (padded_message m) (length (padded_message m) / 64)) 5

pub length-sha1 : (m : List ℕ) → length (sha1 m) ≡ 20
unfolding sha1
length-sha1 m = length-digest (hash_after (padded_message m) (length (padded_message m) / 64)) 5

-- ---- base64

-- the 64 symbols
abbrev symbols : List ℕ
symbols = engine_symbols standard

symbol : (i : ℕ) → i < 64 → is_visible (slice_index symbols i) ≡ true
symbol i below =
    let len : length symbols ≡ 64 = refl in
    AllPass-from_list_all is_visible symbols refl i 0 (omega (arith, len))

abbrev Visible : ℕ → Type 0
Visible b = is_visible b ≡ true

visible_symbols : (m : List ℕ) → All IsByte m → AllPass is_visible (encode_symbols symbols m)
unfolding encode_symbols
visible_symbols [] small = All-nil Visible
visible_symbols (a ∷ []) small =
    let x : a < 256 = All-head IsByte a [] small in
    each_of Visible (encode_one symbols a) (symbol (a / 4) (omega arith), (symbol (a % 4 * 16) (omega arith), tt))
visible_symbols (a ∷ b ∷ []) small =
    let x : a < 256 = All-head IsByte a (b ∷ []) small in
    let y : b < 256 = All-head IsByte b [] (All-tail IsByte a (b ∷ []) small) in
    each_of Visible (encode_two symbols a b)
    (symbol (a / 4) (omega arith), (symbol (a % 4 * 16 + b / 16) (omega arith), (symbol (b % 16 * 4) (omega arith), tt)))
visible_symbols (a ∷ b ∷ c ∷ rest) small =
    let x : a < 256 = All-head IsByte a (b ∷ c ∷ rest) small in
    let more = All-tail IsByte a (b ∷ c ∷ rest) small in
    let y : b < 256 = All-head IsByte b (c ∷ rest) more in
    let last = All-tail IsByte b (c ∷ rest) more in
    let z : c < 256 = All-head IsByte c rest last in
    All-append Visible (encode_group symbols a b c) (encode_symbols symbols rest)
    (each_of Visible (encode_group symbols a b c) (
      symbol (a / 4) (omega arith),
      (
        symbol (a % 4 * 16 + b / 16) (omega arith),
        (symbol (b % 16 * 4 + c / 64) (omega arith), (symbol (c % 64) (omega arith), tt)),
      ),
    ))
    (visible_symbols rest (All-tail IsByte c rest last))

some_symbols : (m : List ℕ) → 0 < length m → 0 < length (encode_symbols symbols m)
unfolding encode_symbols
some_symbols [] some = absurd (omega arith)
some_symbols (a ∷ []) some = omega arith
some_symbols (a ∷ b ∷ []) some = omega arith
some_symbols (a ∷ b ∷ c ∷ rest) some = omega arith

padded : (n : ℕ) → AllPass is_visible (replicate n 61)
padded zero = All-nil Visible
padded (suc n) = All-cons Visible 61 (replicate n 61) refl (padded n)

-- base64 is visible text
pub visible_encoded : (m : List ℕ) → All IsByte m → AllPass is_visible (encode_of standard m)
visible_encoded m small =
    All-append Visible (encode_symbols symbols m) (replicate (padding_len (length m)) 61) (visible_symbols m small) (padded (padding_len (length m)))

pub some_encoded : (m : List ℕ) → 0 < length m → 0 < length (encode_of standard m)
some_encoded m some =
    omega (arith, some_symbols m some, length-append (encode_symbols symbols m) (replicate (padding_len (length m)) 61))

length-symbols : (m : List ℕ) → length (encode_symbols symbols m) ≤ 2 * length m
unfolding encode_symbols
length-symbols [] = omega arith
length-symbols (a ∷ []) = omega arith
length-symbols (a ∷ b ∷ []) = omega arith
length-symbols (a ∷ b ∷ c ∷ rest) = omega (arith, length-symbols rest)

length-padded : (n : ℕ) → length {A = ℕ} (replicate n 61) ≡ n
length-padded zero = refl
length-padded (suc n) = omega (arith, length-padded n)

pub length-encoded : (m : List ℕ) → length (encode_of standard m) ≤ 2 * length m + 2
length-encoded m =
    omega (arith, length-symbols m, length-append (encode_symbols symbols m) (replicate (padding_len (length m)) 61), length-padded (padding_len (length m)))

-- ---- visible text in a line

not_return : (b : ℕ) → not (b == 13) ≡ true → b ≢ 13
not_return b h is = grind (arith, nat_tests)

-- a text that is given has no CR
pub no_return : (text : List ℕ) → list_all (λ b. not (b == 13)) text ≡ true → All (λ b. b ≢ 13) text
no_return text h = All-weaker (λ b. not (b == 13) ≡ true) (λ b. b ≢ 13) not_return text (AllPass-from_list_all (λ b. not (b == 13)) text h)

visible_not_return : (b : ℕ) → is_visible b ≡ true → b ≢ 13
visible_not_return b h is = grind (arith, nat_tests)

pub visible_no_return : (text : List ℕ) → AllPass is_visible text → All (λ b. b ≢ 13) text
visible_no_return text visible = All-weaker Visible (λ b. b ≢ 13) visible_not_return text visible

value_not_return : (b : ℕ) → is_value_byte b ≡ true → b ≢ 13
value_not_return b h is = grind (arith, nat_tests)

pub value_no_return : (text : List ℕ) → AllPass is_value_byte text → All (λ b. b ≢ 13) text
value_no_return text value = All-weaker (λ b. is_value_byte b ≡ true) (λ b. b ≢ 13) value_not_return text value

value_from_visible : (b : ℕ) → is_visible b ≡ true → is_value_byte b ≡ true
value_from_visible b h = grind (arith, nat_tests)

-- it may be the value of a header field
pub visible_value : (text : List ℕ) → AllPass is_visible text → AllPass is_value_byte text
visible_value text visible = All-weaker Visible (λ b. is_value_byte b ≡ true) value_from_visible text visible

visible_no_space : (b : ℕ) → is_visible b ≡ true → is_ows b ≡ false
visible_no_space b h = grind (arith, nat_tests)

not_skipped : (text : List ℕ) → AllPass is_visible text → skip_ows text ≡ text
not_skipped [] visible = refl
not_skipped (b ∷ text) visible = cond-false _ _ _ (visible_no_space b (All-head Visible b text visible))

-- it comes back from behind a space
pub trimmed : (text : List ℕ) → AllPass is_visible text → trim_ows (32 ∷ text) ≡ text
trimmed text visible = trim_ows_space text (not_skipped text visible) (not_skipped (reverse text) (AllPass-reverse is_visible text visible))

pub same_bytes : (text : List ℕ) → bytes_eq text text ≡ true
same_bytes text = nat_list_eq_equiv.refl text
