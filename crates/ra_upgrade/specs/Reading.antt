-- What is answered to bytes that are to begin with a head, as three rules of which just one applies: no head ends there yet, one
-- ends there that has not the form, or one is there and says something. It holds for each form of head and for all that one says.
use Rattle.std.specs.Prelude.{◌≡◌, ℕ, List, length, take, nat_lt, Option, None, Result, Ok, Err, if◌then◌else◌}
use Rattle.ra_upgrade.specs.Ends.{max_head, EndsAt, NeverEnds}

-- no head ends there: more bytes may bring its end, where there are fewer than a head may have
pub record IsOpen {A E : Type 0} (too_long : E) (bytes : List ℕ) (result : Result (Option A) E) : Type 0 where
  pub never : NeverEnds bytes
  pub is : result ≡ (if nat_lt (length bytes) max_head then Ok None else Err too_long)

-- a head ends there, and it has not the form
pub record IsBad {H A E : Type 0} (form : List ℕ → H → Type 0) (bad : E) (bytes : List ℕ) (result : Result (Option A) E) : Type 0 where
  pub n : ℕ
  pub ends : EndsAt bytes n
  pub none : (head : H) → ¬ (form (take n bytes) head)
  pub is : result ≡ Err bad

-- a head of that length is there, and this is what it says
pub record IsRead {H A E : Type 0} (form : List ℕ → H → Type 0) (says : ℕ → H → Result (Option A) E) (bytes : List ℕ) (result : Result (Option A) E) : Type 0 where
  pub n : ℕ
  pub ends : EndsAt bytes n
  pub head : H
  pub has_form : form (take n bytes) head
  pub is : result ≡ says n head
