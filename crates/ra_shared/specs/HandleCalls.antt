-- What the calls of a handle leave: its receipts, the answers that it kept, and its count of calls under the lock of a session.
use Rattle.std.specs.Prelude.{◌≡◌, ℕ, ◌⊎◌, Bool, List, [], ◌∷◌, ◌++◌, Option, Some, None, Result, Ok, Err}
use Rattle.ra_base.specs.declared.handshake.Request.{Request}
use Rattle.ra_base.specs.declared.key.Cause.TheVariants.{Stopped}
use Rattle.ra_base.specs.declared.key.Key.{Key}
use Rattle.ra_base.specs.declared.key.Seat.{Seat}
use Rattle.ra_hub.specs.declared.fault.HubFault.{HubFault}
use Rattle.ra_hub.specs.declared.fault.HubFault.TheVariants.{Refused, NoSession, Session, KeepFault, NoMemory}
use Rattle.ra_keep.specs.Causes.{next_count}
use Rattle.ra_locked.specs.Receipts.{Gains, entry_of}
use Rattle.ra_locked.specs.declared.receipt.Receipt.{Receipt}
use Rattle.ra_registry.specs.Admission.{key_of, entry_for, refusal_entry}
use Rattle.ra_registry.specs.declared.past.Did.TheVariants.{Admitted, Missed}
use Rattle.ra_session.specs.declared.values.SessionFault.TheVariants.{Ended}
use Rattle.ra_session.specs.declared.values.Tell.{Tell}
use Rattle.ra_session.specs.declared.values.Turn.{Turn}
use Rattle.ra_shared.specs.Answers.{told_of, told_of_attach, told_of_turn}
use Rattle.ra_shared.specs.LockedCalls.{AttachesSome, TurnsSome, TellsSome}
use Rattle.ra_shared.specs.declared.answers.KeptAnswer.{KeptAnswer}
use Rattle.ra_shared.specs.declared.answers.Told.{Told}
use Rattle.ra_shared.specs.declared.answers.Told.TheVariants as declared

-- what a handle has counted and kept
pub record Tally : Type 0 where
  pub steps : ℕ
  pub answers : List KeptAnswer

-- one call more under the lock of a session, and an answer more, where it is one that is kept
abbrev pub Steps : Key → Option Told → (before after : Tally) → Type 0
Steps key (Some told) before after = after ≡ record { steps = next_count before.steps; answers = before.answers ++ record { key = key; told = told } ∷ [] }
Steps key None before after = after ≡ record { steps = next_count before.steps; answers = before.answers }

-- an answer to a request is received with its arguments
abbrev pub HasReceipt : Request → ℕ → Result Seat HubFault → (old new : List Receipt) → Type 0
HasReceipt ask at (Ok seat) old new = (seat.key ≡ key_of ask) × Gains (entry_for ask at (Admitted seat.epoch ask.reconnection)) old new
HasReceipt ask at (Err (Refused reason)) old new = Gains (refusal_entry ask at reason) old new
HasReceipt ask at (Err NoSession) old new = ⊥
HasReceipt ask at (Err (Session fault)) old new = ⊥
HasReceipt ask at (Err KeepFault) old new = new ≡ old
HasReceipt ask at (Err NoMemory) old new = new ≡ old

-- The session of a seat was called, by the call of that name, and answered this; or there was no memory to keep an answer, and nothing was
-- called.
abbrev pub AttachLeaves : Seat → List ℕ → ℕ → Result (Unit {0}) HubFault → (before after : Tally) → Type 0
AttachLeaves seat chunk now (Ok r) before after = AttachesSome seat.epoch chunk now (Ok r) × Steps seat.key None before after
AttachLeaves seat chunk now (Err (Session fault)) before after =
    AttachesSome seat.epoch chunk now (Err fault) × Steps seat.key (told_of_attach seat.epoch fault) before after
AttachLeaves seat chunk now (Err (Refused reason)) before after = ⊥
AttachLeaves seat chunk now (Err NoSession) before after = ⊥
AttachLeaves seat chunk now (Err KeepFault) before after = ⊥
AttachLeaves seat chunk now (Err NoMemory) before after = after ≡ before

-- the same of a turn, where an `attach` with the seat had been Ok, or not
abbrev pub TurnLeaves : Seat → Bool → List ℕ → ℕ → Result Turn HubFault → (before after : Tally) → Type 0
TurnLeaves seat attached piece now (Ok turn) before after = TurnsSome seat.epoch piece now (Ok turn) × Steps seat.key None before after
TurnLeaves seat attached piece now (Err (Session fault)) before after =
    TurnsSome seat.epoch piece now (Err fault) × Steps seat.key (told_of_turn seat.epoch attached fault) before after
TurnLeaves seat attached piece now (Err (Refused reason)) before after = ⊥
TurnLeaves seat attached piece now (Err NoSession) before after = ⊥
TurnLeaves seat attached piece now (Err KeepFault) before after = ⊥
TurnLeaves seat attached piece now (Err NoMemory) before after = after ≡ before

-- The session of a key was called and answered this; or its row is that of a start record, whose session had been stopped; or there is no
-- row, which has a receipt; or there was no memory, and nothing was called.
abbrev pub TellLeaves : Key → Tell → ℕ → Result (Unit {0}) HubFault → (before after : Tally) → (old new : List Receipt) → Type 0
TellLeaves key tell now (Ok r) before after old new = TellsSome tell now (Ok r) × Steps key None before after × (new ≡ old)
TellLeaves key tell now (Err (Session fault)) before after old new =
    ((TellsSome tell now (Err fault) × Steps key (told_of fault) before after)
    ⊎ ((fault ≡ Ended Stopped)
    × (after ≡ record before { answers = before.answers ++ record { key = key; told = declared.Ended Stopped } ∷ [] })))
    × (new ≡ old)
TellLeaves key tell now (Err NoSession) before after old new = (after ≡ before) × Gains (entry_of key now Missed) old new
TellLeaves key tell now (Err (Refused reason)) before after old new = ⊥
TellLeaves key tell now (Err KeepFault) before after old new = ⊥
TellLeaves key tell now (Err NoMemory) before after old new = (after ≡ before) × (new ≡ old)
