-- Where a head ends: with its first empty line, CR LF CR LF, in the first 16,384 bytes. What the head says is not looked at here.
use Rattle.std.specs.Prelude.{◌≡◌, ℕ, ◌+◌, ◌≤◌, List, ◌++◌, Some}
use Rattle.memchr.specs.Find.{FindsNeedle, OccursAt}
use Rattle.httparse.specs.Ascii.{crlf_bytes}

-- the most bytes of a head
abbrev pub max_head : ℕ
max_head = 16384

-- the most header fields of a head
abbrev pub max_fields : ℕ
max_fields = 64

-- the end of a line and the empty line after it, CR LF CR LF
abbrev pub empty_line : List ℕ
empty_line = crlf_bytes ++ crlf_bytes

-- the first n bytes end with the first empty line, and are no more than a head may have
pub record EndsAt (bytes : List ℕ) (n : ℕ) : Type 0 where
  pub place : ℕ
  pub first : FindsNeedle bytes empty_line 0 (Some place)
  pub n_is : n ≡ place + 4
  pub most : n ≤ max_head

-- no empty line ends in the bytes that a head may have
abbrev pub NeverEnds : List ℕ → Type 0
NeverEnds bytes = (place : ℕ) → place + 4 ≤ max_head → ¬ (OccursAt bytes empty_line place)
