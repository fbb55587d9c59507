-- What the calls of the server's side answer, and what it stands for then.
use Rattle.std.specs.Prelude.{◌≡◌, ℕ, List, [], ◌∷◌, length, None, Result, Ok, Err}
use Rattle.ra_base.specs.declared.key.Key.{Key}
use Rattle.ra_hub.specs.Jobs.{SeenJob}
use Rattle.ra_hub.specs.declared.hub.Swept.{Swept}
use Rattle.ra_session.specs.declared.values.SessionFault.{SessionFault}
use Rattle.ra_session.specs.SessionRefusals.{IsRefusal}
use Rattle.ra_grand_runs.specs.Grands.{Grand}
use Rattle.ra_grand_runs.specs.GrandSweeps.{expired_keys, left_by, sweeps}
use Rattle.ra_grand_runs.specs.Marks.{Mark, whole, unticked}
use Rattle.ra_grand_server.specs.ServerStates.{ServerState, StandsForServer}
use Rattle.ra_grand_runs.specs.Works.{told_by, told_refusal, worked}

-- the mark of a sweep that left these sessions
abbrev pub sweep_mark : List Key → Mark
sweep_mark [] = whole
sweep_mark (key ∷ keys) = unticked (key ∷ keys)

-- all was swept but the sessions that the mark tells, and the answer counts both
pub record Sweeps (swept : Swept) (new : ServerState) (w : Grand) : Type 0 where
  pub mark : Mark
  pub expired : swept.expired ≡ length (expired_keys w)
  pub short : swept.short ≡ length (left_by mark)
  pub stands : StandsForServer new (sweeps mark w)

-- the job with this number was done, or its session refused, and it stays
abbrev pub Works : Result (Unit {0}) SessionFault → (number : ℕ) (job : SeenJob) → ServerState → Grand → Type 0
Works (Ok u) number job new w = (told_refusal (told_by job w) ≡ None) × StandsForServer new (worked number w)
Works (Err fault) number job new w = IsRefusal fault (told_refusal (told_by job w)) × StandsForServer new w
