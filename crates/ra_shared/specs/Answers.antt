-- Answers of sessions that a handle keeps, and what bears them out.
use Rattle.std.specs.Prelude.{◌≡◌, ℕ, ◌-◌, ◌^◌, ◌≤◌, ◌<◌, Bool, true, Option, Some, None}
use Rattle.ra_session.specs.declared.values.SessionFault.{SessionFault}
use Rattle.ra_session.specs.declared.values.SessionFault.TheVariants as faults
use Rattle.ra_shared.specs.declared.answers.LastState.{LastState}
use Rattle.ra_shared.specs.declared.answers.Told.{Told}
use Rattle.ra_shared.specs.declared.answers.Told.TheVariants.{Ended, StaleAttach, StaleTurn, NoLink, IdsSpent}

-- what is kept of the fault of a `tell`
abbrev pub told_of : SessionFault → Option Told
told_of (faults.Ended cause) = Some (Ended cause)
told_of faults.NoLink = Some NoLink
told_of faults.IdsSpent = Some IdsSpent
told_of (faults.Stale current) = None
told_of (faults.TooLong stated) = None
told_of (faults.BadIpc fault message) = None
told_of (faults.TooLarge len) = None
told_of (faults.NoSuchCall id) = None
told_of faults.WrongKind = None
told_of faults.NoMemory = None

-- what is kept of the fault of an `attach` of the link with this number
abbrev pub told_of_attach : ℕ → SessionFault → Option Told
told_of_attach epoch (faults.Stale current) = Some (StaleAttach current epoch)
told_of_attach epoch (faults.Ended cause) = Some (Ended cause)
told_of_attach epoch faults.NoLink = Some NoLink
told_of_attach epoch faults.IdsSpent = Some IdsSpent
told_of_attach epoch (faults.TooLong stated) = None
told_of_attach epoch (faults.BadIpc fault message) = None
told_of_attach epoch (faults.TooLarge len) = None
told_of_attach epoch (faults.NoSuchCall id) = None
told_of_attach epoch faults.WrongKind = None
told_of_attach epoch faults.NoMemory = None

-- what is kept of the fault of a turn of the link with this number, whose `attach` had been Ok, or not
abbrev pub told_of_turn : ℕ → Bool → SessionFault → Option Told
told_of_turn epoch attached (faults.Stale current) = Some (StaleTurn current epoch attached)
told_of_turn epoch attached (faults.Ended cause) = Some (Ended cause)
told_of_turn epoch attached faults.NoLink = Some NoLink
told_of_turn epoch attached faults.IdsSpent = Some IdsSpent
told_of_turn epoch attached (faults.TooLong stated) = None
told_of_turn epoch attached (faults.BadIpc fault message) = None
told_of_turn epoch attached (faults.TooLarge len) = None
told_of_turn epoch attached (faults.NoSuchCall id) = None
told_of_turn epoch attached faults.WrongKind = None
told_of_turn epoch attached faults.NoMemory = None

-- The last state of a session bears an answer out. An epoch never falls, a cause stays, and ids are only spent; no call at a server says
-- more than 2^31 messages. At a server no turn finds its session without a link.
abbrev pub Bears : LastState → Told → Type 0
Bears last (Ended cause) = last.cause ≡ Some cause
Bears last (StaleAttach current epoch) = (current ≤ last.epoch) × (epoch ≤ last.epoch)
Bears last (StaleTurn current epoch attached) = (current ≤ last.epoch) × (attached ≡ true → epoch < last.epoch)
Bears last NoLink = ⊥
Bears last IdsSpent = (2 ^ 64 - 1) - last.marks.sent < 2 ^ 31
