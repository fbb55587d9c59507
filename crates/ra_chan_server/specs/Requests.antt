-- What is asked of one request that is active, and of a list of them.
use Rattle.std.specs.Prelude.{◌≡◌, ℕ, ◌<◌, ◌^◌, List, [], ◌∷◌, Bool, true, false, Option, Some, None, if◌then◌else◌}
use Rattle.std.specs.List.{AllByRecursion}
use Rattle.std.specs.Str.{bytes_eq}
use Rattle.ra_values.specs.Tree.{Tree, text}
use Rattle.ra_values.specs.Spelling.{Fits, levels}
use Rattle.ra_ipc.specs.ChannelServers.{Active, waiting_call, handed_call, waiting_listen, listener, Call, holds}

abbrev pub id_in : Active → ℕ
id_in (waiting_call id channel name arg cancelled until) = id
id_in (handed_call id) = id
id_in (waiting_listen id channel event until) = id
id_in (listener id channel event) = id

-- a call or a listen that waits for its channel, or a listener
abbrev pub is_here : Active → Bool
is_here (waiting_call id channel name arg cancelled until) = true
is_here (handed_call id) = false
is_here (waiting_listen id channel event until) = true
is_here (listener id channel event) = true

-- what becomes of it when its channel is registered
abbrev pub opened : Active → Active
opened (waiting_call id channel name arg cancelled until) = handed_call id
opened (handed_call id) = handed_call id
opened (waiting_listen id channel event until) = listener id channel event
opened (listener id channel event) = listener id channel event

-- the call that is handed out then
abbrev pub opened_call : Active → Option Call
opened_call (waiting_call id channel name arg cancelled until) = Some (record { id = id; channel = channel; name = name; arg = arg; cancelled = cancelled })
opened_call (handed_call id) = None
opened_call (waiting_listen id channel event until) = None
opened_call (listener id channel event) = None

-- a call that is cancelled while it waits
abbrev pub marked : Active → Active
marked (waiting_call id channel name arg cancelled until) = waiting_call id channel name arg true until
marked (handed_call id) = handed_call id
marked (waiting_listen id channel event until) = waiting_listen id channel event until
marked (listener id channel event) = listener id channel event

-- the change for the requests with this id
abbrev pub at_id : ℕ → (Active → Active) → Active → Active
at_id i change a = if holds i a then change a else a

-- each id is active once
abbrev pub HaveOwnIds : List Active → Type 0
HaveOwnIds [] = Unit {0}
HaveOwnIds (a ∷ others) = AllByRecursion (λ other. holds (id_in a) other ≡ false) others × HaveOwnIds others

-- an id, a channel, a name and an argument that can be written
abbrev pub RequestFits : ℕ → List ℕ → List ℕ → Tree → Type 0
RequestFits id channel name arg = (id < 2 ^ 31) × Fits levels (text channel) × Fits levels (text name) × Fits levels arg

abbrev pub ActiveFits : Active → Type 0
ActiveFits (waiting_call id channel name arg cancelled until) = RequestFits id channel name arg
ActiveFits (handed_call id) = id < 2 ^ 31
ActiveFits (waiting_listen id channel event until) = id < 2 ^ 31
ActiveFits (listener id channel event) = id < 2 ^ 31

-- whether it waits for this channel
abbrev pub waits_for : List ℕ → Active → Bool
waits_for channel (waiting_call id c name arg cancelled until) = bytes_eq channel c
waits_for channel (handed_call id) = false
waits_for channel (waiting_listen id c event until) = bytes_eq channel c
waits_for channel (listener id c event) = false

-- whether it is a listen
abbrev pub is_listen : Active → Bool
is_listen (waiting_call id channel name arg cancelled until) = false
is_listen (handed_call id) = false
is_listen (waiting_listen id channel event until) = true
is_listen (listener id channel event) = true

abbrev pub CallFits : Call → Type 0
CallFits c = RequestFits c.id c.channel c.name c.arg
