-- Why a turn is refused, if it is. The first cause counts.
use Rattle.std.specs.Prelude.{ℕ, List, length, Bool, true, false, Option, Some, None, Result, Ok, Err}
use Rattle.ra_model.specs.declared.session.Up.{Up as Delivery}
use Rattle.ra_model.specs.declared.session.Up.TheVariants.{Message as HandedUp, Control, Quiet, Ended}
use Rattle.ra_model.specs.FirstFrame.{is_too_long, stated}
use Rattle.ra_model.specs.Endpoints.{Endpoint}
use Rattle.ra_model.specs.Taking.{delivery}
use Rattle.ra_model.specs.Refusals.{or_fault, fault_if}
use Rattle.ra_session.specs.Sessions.{Session}
use Rattle.ra_session.specs.Hearing.{Heard, spoils, hears}
use Rattle.ra_session.specs.SessionCalls.{feed_session}
use Rattle.ra_session.specs.Turns.{heard_at}
use Rattle.ra_session.specs.SessionRefusals.{Refusal, too_long, bad_ipc, feed_refusal, if_spent}
use Rattle.ra_session.specs.declared.values.SessionFault.{SessionFault}
use Rattle.ra_session.specs.declared.values.SessionFault.TheVariants as faults

abbrev pub if_too_long : Endpoint → Option Refusal
if_too_long e = fault_if (is_too_long e.unread) (too_long (stated e.unread))

-- what is wrong with a message, or that it can't be answered at this endpoint
abbrev pub heard_refusal : Heard → List ℕ → Endpoint → Option Refusal
heard_refusal (spoils bad) body e = Some (bad_ipc bad body)
heard_refusal (hears h) body e = if_spent (length h.says) e

abbrev pub delivery_refusal : Option Delivery → ℕ → Session → Endpoint → Option Refusal
delivery_refusal None now s e = None
delivery_refusal (Some (HandedUp id body)) now s e = heard_refusal (heard_at s id body now) body e
delivery_refusal (Some (Control body)) now s e = None
delivery_refusal (Some Quiet) now s e = None
delivery_refusal (Some Ended) now s e = None

-- of a session that has a link, and has not ended
unfoldable pub taken_refusal : ℕ → Session → Option Refusal
taken_refusal now s = or_fault (if_too_long s.peer.endpoint) (delivery_refusal (delivery s.peer.endpoint) now s s.peer.endpoint)

unfoldable pub turn_refusal : ℕ → List ℕ → ℕ → Session → Option Refusal
turn_refusal epoch piece now s = or_fault (feed_refusal epoch s) (taken_refusal now (feed_session epoch piece now s))

-- the fault is that a bad message was heard
abbrev pub is_bad_ipc : SessionFault → Bool
is_bad_ipc (faults.BadIpc fault message) = true
is_bad_ipc (faults.Ended cause) = false
is_bad_ipc (faults.Stale current) = false
is_bad_ipc faults.NoLink = false
is_bad_ipc (faults.TooLong stated) = false
is_bad_ipc (faults.TooLarge len) = false
is_bad_ipc faults.IdsSpent = false
is_bad_ipc (faults.NoSuchCall id) = false
is_bad_ipc faults.WrongKind = false
is_bad_ipc faults.NoMemory = false

-- What holds after a turn: one that hears a bad message is made, and ends the session. Any other refusal leaves all as it was.
abbrev pub TurnLeaves : {X : Type 0} → Result X SessionFault → (made same : Type 0) → Type 0
TurnLeaves (Ok x) made same = made
TurnLeaves (Err (faults.BadIpc fault message)) made same = made
TurnLeaves (Err (faults.Ended cause)) made same = same
TurnLeaves (Err (faults.Stale current)) made same = same
TurnLeaves (Err faults.NoLink) made same = same
TurnLeaves (Err (faults.TooLong stated)) made same = same
TurnLeaves (Err (faults.TooLarge len)) made same = same
TurnLeaves (Err faults.IdsSpent) made same = same
TurnLeaves (Err (faults.NoSuchCall id)) made same = same
TurnLeaves (Err faults.WrongKind) made same = same
TurnLeaves (Err faults.NoMemory) made same = same
