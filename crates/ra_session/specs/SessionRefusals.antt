-- Why a call of a session is refused, if it is. The first cause counts. A turn has a file of its own.
use Rattle.std.specs.Prelude.{◌≡◌, ℕ, ◌-◌, ◌^◌, List, [], ◌∷◌, map, length, Bool, not, ◌==◌, nat_le, nat_lt, Option, Some, None, option_map, Result, Ok, Err, if◌then◌else◌}
use Rattle.std.specs.Option.{is_some}
use Rattle.ra_base.specs.declared.key.Cause.{Cause}
use Rattle.ra_model.specs.Frames.{body_limit, last_id}
use Rattle.ra_model.specs.Endpoints.{Endpoint, sent, is_linked}
use Rattle.ra_model.specs.Refusals.{or_fault, fault_if}
use Rattle.ra_values.specs.Tree.{Tree}
use Rattle.ra_ipc.specs.Messages.{Reply, Message, promise, promise_cancel, event_listen, event_dispose}
use Rattle.ra_ipc.specs.Packets.{message_bytes}
use Rattle.ra_ipc.specs.ChannelServers.{has_call, timeout_answers}
use Rattle.ra_ipc.specs.ChannelClients.{sent_now, is_in}
use Rattle.ra_ipc.specs.View.{id_of}
use Rattle.ra_session.specs.Sessions.{Session, is_management}
use Rattle.ra_session.specs.Hearing.{BadMessage, unreadable, active}
use Rattle.ra_session.specs.SessionCalls.{Firing, answer_packets}
use Rattle.ra_session.specs.declared.values.IpcFault.{IpcFault}
use Rattle.ra_session.specs.declared.values.IpcFault.TheVariants as ipc
use Rattle.ra_session.specs.declared.values.SessionFault.{SessionFault}
use Rattle.ra_session.specs.declared.values.SessionFault.TheVariants as faults

-- A cause. A message is bad for what is wrong with it.
pub data Refusal : Type 0 where
  ended : Cause → Refusal
  stale : (current : ℕ) → Refusal
  no_link : Refusal
  too_long : (stated : ℕ) → Refusal
  bad_ipc : BadMessage → (message : List ℕ) → Refusal
  too_large : (len : ℕ) → Refusal
  ids_spent : Refusal
  no_such_call : (id : ℕ) → Refusal
  wrong_kind : Refusal

-- ---- causes that calls have in common

abbrev pub if_ended : Session → Option Refusal
if_ended s = option_map (λ cause. ended cause) s.cause

abbrev pub if_unlinked : Endpoint → Option Refusal
if_unlinked e = fault_if (not (is_linked e.phase)) no_link

-- fewer ids are left than there are messages
abbrev pub if_spent : ℕ → Endpoint → Option Refusal
if_spent n e = fault_if (nat_lt (last_id - sent e) n) ids_spent

-- the first of the messages that is above the limit
abbrev pub if_large : List (List ℕ) → Option Refusal
if_large [] = None
if_large (body ∷ bodies) = if nat_lt body_limit (length body) then Some (too_large (length body)) else if_large bodies

-- the session is of the other kind
abbrev pub unless_kind : Bool → Option Refusal
unless_kind is_right = fault_if (not is_right) wrong_kind

-- these packets can't be said
abbrev pub unsayable : List Message → Endpoint → Option Refusal
unsayable messages e = or_fault (if_large (map message_bytes messages)) (if_spent (length messages) e)

-- ---- links

unfoldable pub attach_refusal : ℕ → Session → Option Refusal
attach_refusal epoch s = or_fault (if_ended s) (fault_if (nat_le epoch s.peer.endpoint.epoch) (stale s.peer.endpoint.epoch))

unfoldable pub feed_refusal : ℕ → Session → Option Refusal
feed_refusal epoch s =
    or_fault (if_ended s)
    (or_fault (fault_if (not (epoch == s.peer.endpoint.epoch)) (stale s.peer.endpoint.epoch)) (if_unlinked s.peer.endpoint))

-- ---- answers of the application

unfoldable pub answer_refusal : ℕ → Reply → Option Firing → Session → Option Refusal
answer_refusal id reply fire s =
    or_fault (if_ended s)
    (or_fault (unless_kind (is_management s.kind))
    (or_fault (fault_if (not (has_call id s.server)) (no_such_call id))
    (unsayable (answer_packets s.server id reply fire) s.peer.endpoint)))

unfoldable pub say_refusal : List ℕ → Session → Option Refusal
say_refusal body s =
    or_fault (if_ended s)
    (or_fault (unless_kind (not (is_management s.kind)))
    (or_fault (if_large (body ∷ [])) (if_spent 1 s.peer.endpoint)))

-- ---- requests of this end

-- ids of requests go up to 2 ^ 31 - 1
abbrev pub id_left : Session → Bool
id_left s = nat_lt s.client.next (2 ^ 31)

-- A request is judged with the next id, also where it has to wait for Initialize.
abbrev pub request_refusal : Message → Session → Option Refusal
request_refusal m s =
    or_fault (if_ended s)
    (or_fault (unless_kind (is_management s.kind))
    (or_fault (if id_left s then if_large (message_bytes m ∷ []) else None)
    (or_fault (fault_if (not (id_left s)) ids_spent) (if_spent (length (sent_now s.client m)) s.peer.endpoint))))

unfoldable pub call_refusal : List ℕ → List ℕ → Tree → Session → Option Refusal
call_refusal channel name arg s = request_refusal (promise s.client.next channel name arg) s

unfoldable pub listen_refusal : List ℕ → List ℕ → Tree → Session → Option Refusal
listen_refusal channel event arg s = request_refusal (event_listen s.client.next channel event arg) s

-- the end of a request whose id is one of these
abbrev pub end_refusal : ℕ → List ℕ → Message → Session → Option Refusal
end_refusal id ids m s =
    or_fault (if_ended s)
    (or_fault (unless_kind (is_management s.kind))
    (or_fault (fault_if (not (is_in id ids)) (no_such_call id)) (if_spent (length (sent_now s.client m)) s.peer.endpoint)))

unfoldable pub cancel_refusal : ℕ → Session → Option Refusal
cancel_refusal id s = end_refusal id s.client.calls (promise_cancel id) s

unfoldable pub dispose_refusal : ℕ → Session → Option Refusal
dispose_refusal id s = end_refusal id s.client.listeners (event_dispose id) s

-- ---- ticks and ends

unfoldable pub tick_refusal : ℕ → Session → Option Refusal
tick_refusal now s = if is_some s.cause then None else if_spent (length (timeout_answers s.server now)) s.peer.endpoint

unfoldable pub leave_refusal : Session → Option Refusal
leave_refusal s = if_ended s

-- ---- the fault of a call, and the refusal

abbrev pub bad_message : IpcFault → BadMessage
bad_message (ipc.Packet fault) = unreadable fault
bad_message (ipc.ActiveId id) = active (id_of id)

-- the fault is this refusal, or memory ran out
abbrev pub IsRefusal : SessionFault → Option Refusal → Type 0
IsRefusal (faults.Ended cause) refusal = refusal ≡ Some (ended cause)
IsRefusal (faults.Stale current) refusal = refusal ≡ Some (stale current)
IsRefusal faults.NoLink refusal = refusal ≡ Some no_link
IsRefusal (faults.TooLong stated) refusal = refusal ≡ Some (too_long stated)
IsRefusal (faults.BadIpc fault message) refusal = refusal ≡ Some (bad_ipc (bad_message fault) message)
IsRefusal (faults.TooLarge len) refusal = refusal ≡ Some (too_large len)
IsRefusal faults.IdsSpent refusal = refusal ≡ Some ids_spent
IsRefusal (faults.NoSuchCall id) refusal = refusal ≡ Some (no_such_call (id_of id))
IsRefusal faults.WrongKind refusal = refusal ≡ Some wrong_kind
IsRefusal faults.NoMemory refusal = Unit {0}

-- it was refused exactly where it had to be, unless memory ran out
abbrev pub Refuses : {X : Type 0} → Result X SessionFault → Option Refusal → Type 0
Refuses (Ok x) refusal = refusal ≡ None
Refuses (Err fault) refusal = IsRefusal fault refusal

-- the fault is that the session has ended, by this cause
abbrev pub IsEnd : SessionFault → Option Cause → Type 0
IsEnd (faults.Ended cause) by = by ≡ Some cause
IsEnd (faults.Stale current) by = ⊥
IsEnd faults.NoLink by = ⊥
IsEnd (faults.TooLong stated) by = ⊥
IsEnd (faults.BadIpc fault message) by = ⊥
IsEnd (faults.TooLarge len) by = ⊥
IsEnd faults.IdsSpent by = ⊥
IsEnd (faults.NoSuchCall id) by = ⊥
IsEnd faults.WrongKind by = ⊥
IsEnd faults.NoMemory by = ⊥
