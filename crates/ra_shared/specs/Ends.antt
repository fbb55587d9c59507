-- How the end of a hub that threads share is refused.
use Rattle.std.specs.Prelude.{◌≡◌, ◌≢◌, ℕ, ◌<◌, List, Some, slice_get, length}
use Rattle.ra_registry.specs.RegistryStates.{RegistryState}
use Rattle.ra_registry.specs.declared.registry.RegistryParts.{RegistryParts}
use Rattle.ra_locked.specs.declared.fault.EndFault.TheVariants.{NotAll, Mismatch, Twice, KeepUnlike, NoMemory}
use Rattle.ra_shared.specs.Answers.{Bears}
use Rattle.ra_shared.specs.declared.answers.KeptAnswer.{KeptAnswer}
use Rattle.ra_shared.specs.declared.fault.FinishFault.{FinishFault}
use Rattle.ra_shared.specs.declared.fault.FinishFault.TheVariants.{Registry, Untrue}

-- the registry of these parts
abbrev pub registry_of : RegistryParts → RegistryState
registry_of parts = record {
  long_grace = parts.long_grace;
  short_grace = parts.short_grace;
  start = parts.start.items;
  history = parts.history.items;
}

-- this answer is one that this handle kept, and its session's last state does not bear it out
abbrev pub IsUntrueOf : ℕ → List KeptAnswer → FinishFault → Type 0
IsUntrueOf number book (Registry fault) = ⊥
IsUntrueOf number book (Untrue handle key told last) =
    (handle ≡ number) × ((k : ℕ) × (slice_get book k ≡ Some (record { key = key; told = told }))) × (Bears last told → ⊥)

-- the same of some handle
abbrev pub IsUntrue : List (List KeptAnswer) → FinishFault → Type 0
IsUntrue books (Registry fault) = ⊥
IsUntrue books (Untrue handle key told last) =
    ((b : List KeptAnswer) × (k : ℕ) × (slice_get books handle ≡ Some b) × (slice_get b k ≡ Some (record { key = key; told = told })))
    × (Bears last told → ⊥)

-- why a hub does not end that made so many handles, and to which those with these answers were given back, which counted so many
-- failures of the keeper
abbrev pub EndsNot : ℕ → List (List KeptAnswer) → ℕ → FinishFault → Type 0
EndsNot made books answered (Registry (NotAll given' made')) = (given' ≡ length books) × (made' ≡ made) × (length books ≢ made)
EndsNot made books answered (Registry (Mismatch handle receipt entry)) = (length books ≡ made) × (handle < length books) × (entry ≢ Some receipt.past)
EndsNot made books answered (Registry (Twice place one other)) = (length books ≡ made) × (other < length books)
EndsNot made books answered (Registry (KeepUnlike answered' failed)) = (length books ≡ made) × (answered' ≡ answered) × (failed < answered)
EndsNot made books answered (Registry NoMemory) = length books ≡ made
EndsNot made books answered (Untrue handle key told last) = (length books ≡ made) × IsUntrue books (Untrue handle key told last)
