-- The channel server: registered channels, and what is active, in the order in which it came.
use Rattle.std.specs.Prelude.{ℕ, ◌+◌, List, [], ◌∷◌, ◌++◌, length, map, Bool, true, false, not, ◌&&◌, ◌==◌, nat_le, nat_lt, Option, Some, None, codes, if◌then◌else◌}
use Rattle.std.specs.List.{list_any, filter, filter_map}
use Rattle.std.specs.Str.{bytes_eq}
use Rattle.json.specs.Print.{escape}
use Rattle.ra_values.specs.Tree.{Tree, object}
use Rattle.ra_ipc.specs.Messages.{Reply, error, Message, response, event_fire}

-- A call that waits for its channel, one that was handed out, a listen that waits, and a listener.
pub data Active : Type 0 where
  waiting_call : (id : ℕ) (channel name : List ℕ) (arg : Tree) (cancelled : Bool) (until : ℕ) → Active
  handed_call : (id : ℕ) → Active
  waiting_listen : (id : ℕ) (channel event : List ℕ) (until : ℕ) → Active
  listener : (id : ℕ) (channel event : List ℕ) → Active

pub record Server : Type 0 where
  pub channels : List (List ℕ)
  pub active : List Active

-- a call for the application
pub record Call : Type 0 where
  pub id : ℕ
  pub channel : List ℕ
  pub name : List ℕ
  pub arg : Tree
  pub cancelled : Bool

abbrev pub holds : ℕ → Active → Bool
holds i (waiting_call id channel name arg cancelled until) = id == i
holds i (handed_call id) = id == i
holds i (waiting_listen id channel event until) = id == i
holds i (listener id channel event) = id == i

abbrev pub is_active : ℕ → Server → Bool
is_active i s = list_any (holds i) s.active

abbrev pub is_registered : List ℕ → Server → Bool
is_registered channel s = list_any (bytes_eq channel) s.channels

-- how long a request waits for its channel, in milliseconds
abbrev pub channel_wait : ℕ
channel_wait = 1000

abbrev pub with_active : Server → Active → Server
with_active s a = record s { active = s.active ++ a ∷ [] }

-- ---- a Promise whose id is not active

abbrev pub promised : Server → ℕ → List ℕ → List ℕ → Tree → ℕ → Server
promised s id channel name arg now =
    if is_registered channel s then with_active s (handed_call id) else with_active s (waiting_call id channel name arg false (now + channel_wait))

abbrev pub promised_call : Server → ℕ → List ℕ → List ℕ → Tree → Option Call
promised_call s id channel name arg =
    if is_registered channel s then Some (record { id = id; channel = channel; name = name; arg = arg; cancelled = false }) else None

-- ---- a PromiseCancel: it marks a call that waits

abbrev pub cancel_one : ℕ → Active → Active
cancel_one i (waiting_call id channel name arg cancelled until) = waiting_call id channel name arg (if id == i then true else cancelled) until
cancel_one i (handed_call id) = handed_call id
cancel_one i (waiting_listen id channel event until) = waiting_listen id channel event until
cancel_one i (listener id channel event) = listener id channel event

abbrev pub cancelled_at : Server → ℕ → Server
cancelled_at s i = record s { active = map (cancel_one i) s.active }

-- ---- an EventListen whose id is not active

abbrev pub listened : Server → ℕ → List ℕ → List ℕ → ℕ → Server
listened s id channel event now =
    if is_registered channel s then with_active s (listener id channel event) else with_active s (waiting_listen id channel event (now + channel_wait))

-- ---- an EventDispose: it ends the listener, or the listen that waits

abbrev pub is_listener : ℕ → Active → Bool
is_listener i (waiting_call id channel name arg cancelled until) = false
is_listener i (handed_call id) = false
is_listener i (waiting_listen id channel event until) = id == i
is_listener i (listener id channel event) = id == i

abbrev pub disposed : Server → ℕ → Server
disposed s i = record s { active = filter (λ a. not (is_listener i a)) s.active }

-- ---- a channel that is registered for the first time

abbrev pub open_one : List ℕ → Active → Active
open_one channel (waiting_call id c name arg cancelled until) = if bytes_eq channel c then handed_call id else waiting_call id c name arg cancelled until
open_one channel (handed_call id) = handed_call id
open_one channel (waiting_listen id c event until) = if bytes_eq channel c then listener id c event else waiting_listen id c event until
open_one channel (listener id c event) = listener id c event

abbrev pub call_one : List ℕ → Active → Option Call
call_one channel (waiting_call id c name arg cancelled until) =
    if bytes_eq channel c then Some (record { id = id; channel = c; name = name; arg = arg; cancelled = cancelled }) else None
call_one channel (handed_call id) = None
call_one channel (waiting_listen id c event until) = None
call_one channel (listener id c event) = None

abbrev pub registered : Server → List ℕ → Server
registered s channel =
    if is_registered channel s then s else record { channels = s.channels ++ channel ∷ []; active = map (open_one channel) s.active }

abbrev pub registered_calls : Server → List ℕ → List Call
registered_calls s channel = if is_registered channel s then [] else filter_map (call_one channel) s.active

-- ---- an answer to a call that was handed out

abbrev pub is_handed : ℕ → Active → Bool
is_handed i (waiting_call id channel name arg cancelled until) = false
is_handed i (handed_call id) = id == i
is_handed i (waiting_listen id channel event until) = false
is_handed i (listener id channel event) = false

abbrev pub has_call : ℕ → Server → Bool
has_call i s = list_any (is_handed i) s.active

abbrev pub completed : Server → ℕ → Server
completed s i = record s { active = filter (λ a. not (is_handed i a)) s.active }

-- ---- a fire: one message for each listener

abbrev pub fire_one : List ℕ → List ℕ → Tree → Active → Option Message
fire_one channel event body (waiting_call id c name arg cancelled until) = None
fire_one channel event body (handed_call id) = None
fire_one channel event body (waiting_listen id c e until) = None
fire_one channel event body (listener id c e) = if bytes_eq channel c && bytes_eq event e then Some (event_fire id body) else None

abbrev pub fires : Server → List ℕ → List ℕ → Tree → List Message
fires s channel event body = filter_map (fire_one channel event body) s.active

-- ---- a tick: what waited too long

abbrev pub shown_name : List ℕ → List ℕ
shown_name channel = if nat_lt 65536 (length channel) then [] else channel

-- {"message":"Channel name 'X' timed out after 1000ms","name":"Unknown channel"}
abbrev pub unknown_channel : List ℕ → Reply
unknown_channel channel = error (object (codes "{\"message\":\"Channel name '" ++ (escape (shown_name channel) ++ codes "' timed out after 1000ms\",\"name\":\"Unknown channel\"}")))

abbrev pub is_timed_out : ℕ → Active → Bool
is_timed_out now (waiting_call id channel name arg cancelled until) = nat_le until now
is_timed_out now (handed_call id) = false
is_timed_out now (waiting_listen id channel event until) = nat_le until now
is_timed_out now (listener id channel event) = false

abbrev pub timeout_one : ℕ → Active → Option Message
timeout_one now (waiting_call id channel name arg cancelled until) = if nat_le until now then Some (response id (unknown_channel channel)) else None
timeout_one now (handed_call id) = None
timeout_one now (waiting_listen id channel event until) = None
timeout_one now (listener id channel event) = None

abbrev pub ticked : Server → ℕ → Server
ticked s now = record s { active = filter (λ a. not (is_timed_out now a)) s.active }

abbrev pub timeout_answers : Server → ℕ → List Message
timeout_answers s now = filter_map (timeout_one now) s.active
