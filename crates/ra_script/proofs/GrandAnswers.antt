-- What the calls that read the words of grand scripts answer.
use Rattle.std.proofs.Common.{◌≡◌, ℕ, ◌<◌, ◌≤◌, pos, true, false, inl, inr, List, Ok, Err, refl, arith, IsUtf8}
use Rattle.std.specs.Str.{is_utf8}
use Rattle.std.specs.Prelude.{FitsSigned}
use Rattle.std.specs.Int.{w32}
use Rattle.std.proofs.lemmas.Bool.{false_from_ne_true, cases_lt}
use Rattle.std.proofs.lemmas.Int.{ints, fits_signed_from_abs}
use Rattle.std.proofs.lemmas.Str.{IsUtf8-from_is_utf8, is_utf8-from_IsUtf8}
use Rattle.ra_script.specs.declared.line.What.{What}
use Rattle.ra_script.specs.declared.line.What.TheVariants.{BadNumber, BadBytes}
use Rattle.ra_script.specs.Words.{number_at, number_limit, bytes_at}
use Rattle.ra_script.specs.GrandWords.{id_limit, id_at, utf8_at}
use Rattle.ra_script.proofs.Numbers.{number_below, number_above, number_bad}

-- an id that fits 32 bits with a sign
pub id_fits : (n : ℕ) → FitsSigned w32 (pos n) → n < id_limit
id_fits n h = omega (arith, ints)

pub id_read : (word : List ℕ) (n : ℕ) → number_at number_limit word ≡ Ok n → n < id_limit → id_at word ≡ Ok (pos n)
unfolding id_at
id_read word n e lt = rw (number_below id_limit n word (omega arith) e lt) refl

past_ids : (n : ℕ) → (FitsSigned w32 (pos n) → ⊥) → id_limit ≤ n
past_ids n h = elim (cases_lt n id_limit) [ inl lt ↦ absurd (h (fits_signed_from_abs w32 (pos n) lt)) | inr le ↦ le ]

pub id_above : (word : List ℕ) (n : ℕ) → number_at number_limit word ≡ Ok n → (FitsSigned w32 (pos n) → ⊥) → id_at word ≡ Err BadNumber
unfolding id_at
id_above word n e past = rw (number_above id_limit n word (omega arith) e (past_ids n past)) refl

pub id_bad : (word : List ℕ) (what : What) → number_at number_limit word ≡ Err what → id_at word ≡ Err what
unfolding id_at
id_bad word what e = rw (number_bad id_limit word what (omega arith) e) refl

pub utf8_read : (word bytes run : List ℕ) → bytes_at word ≡ Ok bytes → run ≡ bytes → IsUtf8 run → utf8_at word ≡ Ok bytes
unfolding utf8_at
utf8_read word bytes run e same h = let test : is_utf8 run ≡ true = is_utf8-from_IsUtf8 run h in rw (e, ← same, test) refl

pub utf8_none : (word bytes run : List ℕ) → bytes_at word ≡ Ok bytes → run ≡ bytes → (IsUtf8 run → ⊥) → utf8_at word ≡ Err BadBytes
unfolding utf8_at
utf8_none word bytes run e same h =
    let test : is_utf8 run ≡ false = false_from_ne_true (is_utf8 run) (λ t. h (IsUtf8-from_is_utf8 run t)) in
    rw (e, ← same, test) refl
