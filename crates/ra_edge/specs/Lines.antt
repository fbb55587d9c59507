-- What becomes of the links that are to come, and of those that come back.
use Rattle.std.specs.Prelude.{◌≡◌, ℕ, nat_lt, if◌then◌else◌, false, Option, Some, None, List, [], ◌∷◌, Result, Ok, Err}
use Rattle.ra_ports.specs.Causes.{next_count}
use Rattle.ra_ports.specs.Links.{Incoming}

-- the first of the links that are to come was taken, where they are told; or none was
abbrev pub TakesLine : {L E : Type 0} → Option (List L) → Option (List L) → Result L E → Type 0
TakesLine {L = L} old new (Ok line) = (lines : List L) → old ≡ Some lines → (rest : List L) × (lines ≡ line ∷ rest) × (new ≡ Some rest)
TakesLine old new (Err fault) = new ≡ old

-- nothing was sent on a link, and it never failed, nor ended, nor went over to frames
pub record IsFresh (sent : Option (List ℕ)) (faults : ℕ) (incoming : Incoming) : Type 0 where
  pub nothing : sent ≡ Some []
  pub whole : faults ≡ 0
  pub goes : incoming.ended ≡ false
  pub unframed : incoming.framed ≡ None

-- the count of links that had failed, after one that failed so often
abbrev pub after_line : ℕ → ℕ → ℕ
after_line faults count = if nat_lt 0 faults then next_count count else count
