-- What holds of a channel client and a channel server after every list of steps.
use Rattle.std.specs.Prelude.{◌≡◌, ℕ, ◌≤◌, List, [], ◌∷◌, Bool, false, ◌++◌, ◌==◌, ◌&&◌, Option, Some, None, if◌then◌else◌}
use Rattle.std.specs.List.{list_any, filter_map}
use Rattle.std.specs.Str.{bytes_eq}
use Rattle.ra_values.specs.Tree.{Tree}
use Rattle.ra_ipc.specs.Messages.{Reply, Message, is_promise, is_response, number_of, response, event_fire}
use Rattle.ra_ipc.specs.ChannelServers.{Server, has_call, timeout_answers, Active, waiting_call, handed_call, waiting_listen, listener}
use Rattle.ra_ipc.specs.ChannelPairs.{Pair, Step, Outcome, cancelled, answered, Entry, call_made, call_cancelled, message_heard, complete, fire, tick, start, happens, run}

-- all that the server said to the client
abbrev pub said_to_client : Pair → List Message
said_to_client p = p.client_heard ++ p.to_client

-- A call settles at most once.
abbrev pub SettlesOnce : Type 0
SettlesOnce = (steps : List Step) (i : ℕ) → number_of (λ (s : ℕ × Outcome). s.0 == i) (run steps start).settled ≤ 1

-- Each call that was heard is answered at most once, and no other call is answered.
abbrev pub AnsweredOnce : Type 0
AnsweredOnce = (steps : List Step) (i : ℕ) →
    (number_of (is_response i) (said_to_client (run steps start)) ≤ number_of (is_promise i) (run steps start).server_heard) × (number_of (is_promise i) (run steps start).server_heard ≤ 1)

-- No id comes while it is active.
abbrev pub NeverClashes : Type 0
NeverClashes = (steps : List Step) → (run steps start).clashed ≡ false

-- ---- which outcome

-- how an entry ends the call
abbrev pub ends_by : ℕ → Entry → Option Outcome
ends_by i (call_made id) = None
ends_by i (call_cancelled id) = if id == i then Some cancelled else None
ends_by i (message_heard (response id reply)) = if id == i then Some (answered reply) else None
ends_by i (message_heard _) = None

abbrev pub or_else : {A : Type 0} → Option A → Option A → Option A
or_else (Some x) other = Some x
or_else None other = other

abbrev pub first_end : ℕ → List Entry → Option Outcome
first_end i [] = None
first_end i (e ∷ es) = or_else (ends_by i e) (first_end i es)

abbrev pub is_made : ℕ → Entry → Bool
is_made i (call_made id) = id == i
is_made i (call_cancelled id) = false
is_made i (message_heard m) = false

-- The outcome of a call: the first entry after it that is its cancel or its response.
abbrev pub outcome : ℕ → List Entry → Option Outcome
outcome i [] = None
outcome i (e ∷ es) = if is_made i e then first_end i es else outcome i es

-- what was handed up for the call
abbrev pub settled_as : ℕ → List (ℕ × Outcome) → Option Outcome
settled_as i [] = None
settled_as i (s ∷ ss) = if s.0 == i then Some s.1 else settled_as i ss

-- A call settles by its own cancel or response, the first of these.
abbrev pub SettlesByItsOwn : Type 0
SettlesByItsOwn = (steps : List Step) (i : ℕ) → settled_as i (run steps start).settled ≡ outcome i (run steps start).entries

-- ---- listeners

abbrev pub fire_body : ℕ → Message → Option Tree
fire_body i (event_fire id body) = if id == i then Some body else None
fire_body i _ = None

-- the bodies that the server said to the listener
abbrev pub fires_of : ℕ → List Message → List Tree
fires_of i ms = filter_map (fire_body i) ms

abbrev pub own_body : ℕ → ℕ × Tree → Option Tree
own_body i f = if f.0 == i then Some f.1 else None

-- the bodies that the client handed up for it
abbrev pub fired_of : ℕ → List (ℕ × Tree) → List Tree
fired_of i fs = filter_map (own_body i) fs

abbrev pub IsPrefixOf : List Tree → List Tree → Type 0
IsPrefixOf xs ys = (rest : List Tree) × (xs ++ rest ≡ ys)

-- What the client hands up for a listener begins what the server said to it.
abbrev pub FiresInOrder : Type 0
FiresInOrder = (steps : List Step) (i : ℕ) → IsPrefixOf (fired_of i (run steps start).fired) (fires_of i (said_to_client (run steps start)))

abbrev pub is_listening : ℕ → List ℕ → List ℕ → Active → Bool
is_listening i channel event (waiting_call id c name arg marked until) = false
is_listening i channel event (handed_call id) = false
is_listening i channel event (waiting_listen id c e until) = false
is_listening i channel event (listener id c e) = (id == i) && (bytes_eq channel c && bytes_eq event e)

-- what one step fires for the listener
abbrev pub fired_by : ℕ → Step → Server → List Tree
fired_by i (fire channel event body) s = if list_any (is_listening i channel event) s.active then body ∷ [] else []
fired_by i _ s = []

-- the bodies fired on its channel and event while it listened, in order
abbrev pub fired_while : ℕ → List Step → Pair → List Tree
fired_while i [] p = []
fired_while i (e ∷ es) p = fired_by i e p.server ++ fired_while i es (happens p e)

abbrev pub FiredWhileListening : Type 0
FiredWhileListening = (steps : List Step) (i : ℕ) → fires_of i (said_to_client (run steps start)) ≡ fired_while i steps start

-- ---- whose answer

abbrev pub reply_of : ℕ → Message → Option Reply
reply_of i (response id reply) = if id == i then Some reply else None
reply_of i _ = None

-- the replies of these messages to the call
abbrev pub replies_of : ℕ → List Message → List Reply
replies_of i ms = filter_map (reply_of i) ms

-- what one step answers to the call: the reply that is told while the call is handed out, or that its channel is unknown
abbrev pub answered_by : ℕ → Step → Server → List Reply
answered_by i (complete id reply) s = if has_call id s then replies_of i (response id reply ∷ []) else []
answered_by i (tick now) s = replies_of i (timeout_answers s now)
answered_by i _ s = []

-- what all steps answer to the call, in order
abbrev pub answered_while : ℕ → List Step → Pair → List Reply
answered_while i [] p = []
answered_while i (e ∷ es) p = answered_by i e p.server ++ answered_while i es (happens p e)

-- The replies that the server said to a call are these.
abbrev pub AnsweredAsTold : Type 0
AnsweredAsTold = (steps : List Step) (i : ℕ) → replies_of i (said_to_client (run steps start)) ≡ answered_while i steps start
