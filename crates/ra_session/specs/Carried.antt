-- What a fault of a call carries, by what was heard and what is said.
use Rattle.std.specs.Prelude.{◌≡◌, ◌<◌, ◌⊎◌, ℕ, List, Bool, false, Some, Ok, Err}
use Rattle.ra_model.specs.Frames.{body_limit}
use Rattle.ra_ipc.specs.Messages.{Message, promise, event_listen}
use Rattle.ra_ipc.specs.ReadMessage.{message_at, context_at}
use Rattle.ra_session.specs.Hearing.{BadMessage, unreadable, active}
use Rattle.ra_session.specs.SessionRefusals.{bad_message, if_large, too_large}
use Rattle.ra_session.specs.declared.values.SessionFault.{SessionFault}
use Rattle.ra_session.specs.declared.values.SessionFault.TheVariants as faults

-- a call or a listen with this id
abbrev pub IsRequestOf : ℕ → Message → Type 0
IsRequestOf id (promise i channel name arg) = i ≡ id
IsRequestOf id (event_listen i channel event arg) = i ≡ id
IsRequestOf id _ = ⊥

-- this is wrong with the message: it is no packet, or no context; or it asks with an id
abbrev pub HasFault : BadMessage → List ℕ → Type 0
HasFault (unreadable fault) message = (message_at message ≡ Err fault) ⊎ (context_at message ≡ Err fault)
HasFault (active id) message = (m : Message) × (message_at message ≡ Ok m) × IsRequestOf id m

-- of a turn
abbrev pub TurnCarries : SessionFault → Type 0
TurnCarries (faults.BadIpc fault message) = HasFault (bad_message fault) message
TurnCarries (faults.TooLong stated) = body_limit < stated
TurnCarries (faults.TooLarge len) = ⊥
TurnCarries (faults.NoSuchCall id) = ⊥
TurnCarries faults.WrongKind = ⊥
TurnCarries (faults.Ended cause) = Unit {0}
TurnCarries (faults.Stale current) = Unit {0}
TurnCarries faults.NoLink = Unit {0}
TurnCarries faults.IdsSpent = Unit {0}
TurnCarries faults.NoMemory = Unit {0}

-- of a link that begins: the session has ended, or the link is not a new one, or memory ran out
abbrev pub AttachCarries : SessionFault → Type 0
AttachCarries (faults.Ended cause) = Unit {0}
AttachCarries (faults.Stale current) = Unit {0}
AttachCarries faults.NoMemory = Unit {0}
AttachCarries faults.NoLink = ⊥
AttachCarries (faults.TooLong stated) = ⊥
AttachCarries (faults.BadIpc fault message) = ⊥
AttachCarries (faults.TooLarge len) = ⊥
AttachCarries faults.IdsSpent = ⊥
AttachCarries (faults.NoSuchCall id) = ⊥
AttachCarries faults.WrongKind = ⊥

-- of a call that says these messages, and is asked of a session of the right kind or not
abbrev pub SayCarries : Bool → List (List ℕ) → SessionFault → Type 0
SayCarries is_right bodies (faults.TooLarge len) = if_large bodies ≡ Some (too_large len)
SayCarries is_right bodies faults.WrongKind = is_right ≡ false
SayCarries is_right bodies (faults.BadIpc fault message) = ⊥
SayCarries is_right bodies (faults.TooLong stated) = ⊥
SayCarries is_right bodies (faults.Stale current) = ⊥
SayCarries is_right bodies faults.NoLink = ⊥
SayCarries is_right bodies (faults.Ended cause) = Unit {0}
SayCarries is_right bodies faults.IdsSpent = Unit {0}
SayCarries is_right bodies (faults.NoSuchCall id) = Unit {0}
SayCarries is_right bodies faults.NoMemory = Unit {0}
