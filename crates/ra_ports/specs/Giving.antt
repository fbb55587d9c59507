-- What one call of a link in memory gives, of the steps from one place on, so that those from another place are left.
use Rattle.std.specs.Prelude.{◌≡◌, ◌⊎◌, ℕ, ◌+◌, ◌-◌, ◌<◌, List, ◌++◌, length, take, drop, min, Result, Ok}
use Rattle.ra_ports.specs.declared.Failed.{Failed}
use Rattle.ra_ports.specs.declared.link.Got.{Got}
use Rattle.ra_ports.specs.declared.link.Got.TheVariants.{Bytes, End}
use Rattle.ra_ports.specs.declared.link_step.LinkStep.{LinkStep}
use Rattle.ra_ports.specs.Links.{IsPiece, got_bytes}
use Rattle.ra_ports.specs.LinkSteps.{steps_bytes, steps_left, next_step, IsStepPlace}

-- the answer and the steps that are left are those of the definition, and the bytes are in the buffer
pub record Gives (steps : List LinkStep) (at from : ℕ) (answer : Result Got Failed) (next_at next_from : ℕ) (into : List ℕ) : Type 0 where
  pub next : next_step (steps_left steps at from) (length into) ≡ (answer, steps_left steps next_at next_from)
  pub bytes : steps_bytes (steps_left steps at from) ≡ got_bytes answer into ++ steps_bytes (steps_left steps next_at next_from)
  pub piece : IsPiece answer into
  pub place : IsStepPlace steps next_at next_from
  pub end : answer ≡ Ok End → next_at ≡ length steps

-- a part of what is left of a piece, or all of it
abbrev pub Moves : ℕ → ℕ → ℕ → ℕ → ℕ → ℕ → Type 0
Moves size n at from next_at next_from =
    ((from + n < size) × (next_at ≡ at) × (next_from ≡ from + n)) ⊎ ((from + n ≡ size) × (next_at ≡ at + 1) × (next_from ≡ 0))

-- as much of a piece, from a place on, as there is room for
pub record GivesPiece (bytes : List ℕ) (at from : ℕ) (answer : Result Got Failed) (next_at next_from : ℕ) (into : List ℕ) : Type 0 where
  pub n : ℕ
  pub n_is : n ≡ min (length bytes - from) (length into)
  pub answered : answer ≡ Ok (Bytes n)
  pub copied : take n into ≡ take n (drop from bytes)
  pub moves : Moves (length bytes) n at from next_at next_from
