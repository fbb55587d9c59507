-- How tasks are started.
use Rattle.std.specs.Prelude.{◌≡◌, ℕ, Bool, true, List, Result, Ok, Err, IsErr, IfErr}
use Rattle.ra_ports.specs.Causes.{IsListed, next_count}

-- whether tasks run at once on the caller, or in threads; the numbers of the starts that fail; and the counts of starts and faults
pub record SpawnScript : Type 0 where
  pub here : Bool
  pub failing : List ℕ
  pub starts : ℕ
  pub faults : ℕ

-- after a start with this answer
abbrev pub after_start : {T : Type 0} → SpawnScript → Result Unit T → SpawnScript
after_start spawner (Ok done) = record spawner { starts = next_count spawner.starts }
after_start spawner (Err task) = record spawner { starts = next_count spawner.starts; faults = next_count spawner.faults }

-- a listed start fails; where tasks run on the caller no other does, and this very task is handed back
pub record StartsAsListed {T : Type 0} (old new : SpawnScript) (task : T) (result : Result Unit T) : Type 0 where
  pub listed : IsListed old.failing old.starts → IsErr result
  pub here : old.here ≡ true → IfErr result (λ left. IsListed old.failing old.starts × (left ≡ task))
  pub state : new ≡ after_start old result
