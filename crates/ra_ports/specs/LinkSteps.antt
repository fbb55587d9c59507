-- The steps of a link in memory: what is left of them at a place, their bytes, and what one call gives of them.
use Rattle.std.specs.Prelude.{◌≡◌, ℕ, ◌<◌, ◌≤◌, nat_le, if◌then◌else◌, List, [], ◌∷◌, length, drop, All, Result, Ok, Err}
use Rattle.std.specs.List.{flat_map}
use Rattle.ra_ports.specs.declared.Failed.{Failed}
use Rattle.ra_ports.specs.declared.link.Got.{Got}
use Rattle.ra_ports.specs.declared.link.Got.TheVariants.{Bytes, NotYet, End}
use Rattle.ra_ports.specs.declared.link_step.LinkStep.{LinkStep}
use Rattle.ra_ports.specs.declared.link_step.LinkStep.TheVariants.{Piece, Idle, Fault}

abbrev pub step_bytes : LinkStep → List ℕ
step_bytes (Piece bytes) = bytes
step_bytes Idle = []
step_bytes Fault = []

-- the bytes of these steps, one after another
abbrev pub steps_bytes : List LinkStep → List ℕ
steps_bytes steps = flat_map step_bytes steps

-- a piece has bytes
abbrev pub IsFilled : LinkStep → Type 0
IsFilled (Piece bytes) = 0 < length bytes
IsFilled Idle = Unit {0}
IsFilled Fault = Unit {0}

-- the first so many bytes of the first step, where it is a piece, are gone
abbrev pub behind_bytes : ℕ → List LinkStep → List LinkStep
behind_bytes from [] = []
behind_bytes from (Piece bytes ∷ steps) = Piece (drop from bytes) ∷ steps
behind_bytes from (Idle ∷ steps) = Idle ∷ steps
behind_bytes from (Fault ∷ steps) = Fault ∷ steps

-- the steps from a place on: so many steps are done, and so many bytes of the next one
abbrev pub steps_left : List LinkStep → ℕ → ℕ → List LinkStep
steps_left steps at from = behind_bytes from (drop at steps)

-- the place is within the first step, where that is a piece, and else before it
abbrev pub IsInFront : ℕ → List LinkStep → Type 0
IsInFront from [] = from ≡ 0
IsInFront from (Piece bytes ∷ steps) = from < length bytes
IsInFront from (Idle ∷ steps) = from ≡ 0
IsInFront from (Fault ∷ steps) = from ≡ 0

-- no piece is empty, and the place is within these steps
pub record IsStepPlace (steps : List LinkStep) (at from : ℕ) : Type 0 where
  pub filled : All IsFilled steps
  pub within : at ≤ length steps
  pub inside : IsInFront from (drop at steps)

-- what one call answers of these steps, for a buffer of so many bytes, and the steps that are left then
abbrev pub next_step : List LinkStep → ℕ → Result Got Failed × List LinkStep
next_step [] room = (Ok End, [])
next_step (Piece bytes ∷ steps) room =
    if nat_le (length bytes) room then (Ok (Bytes (length bytes)), steps) else (Ok (Bytes room), Piece (drop room bytes) ∷ steps)
next_step (Idle ∷ steps) room = (Ok NotYet, steps)
next_step (Fault ∷ steps) room = (Err (record {}), steps)
