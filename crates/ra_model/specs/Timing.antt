-- The alarms of an endpoint, and the moments that it remembers. Moments and spans are milliseconds.
use Rattle.std.specs.Prelude.{ℕ, ◌+◌, ◌-◌, min, max, Bool, true, false, ◌&&◌, not, if◌then◌else◌, nat_le, Option, Some, None}
use Rattle.ra_model.specs.declared.timing.Timing.{Timing}

abbrev pub new_timing : ℕ → Timing
new_timing now =
    record { acknowledge = None; timeout = None; keep_alive = None; asked = None; latest = now; fed = now; changed = now; heard = now }

-- Alarms

-- armed for now or for a moment before
abbrev pub is_due : Option ℕ → ℕ → Bool
is_due None now = false
is_due (Some at) now = nat_le at now

abbrev pub is_armed : Option ℕ → Bool
is_armed None = false
is_armed (Some at) = true

-- the moment in it, or 0
abbrev pub moment_of : Option ℕ → ℕ
moment_of None = 0
moment_of (Some at) = at

-- an alarm that is armed stays as it is
abbrev pub or_else : Option ℕ → ℕ → Option ℕ
or_else None at = Some at
or_else (Some before) at = Some before

-- The timeout. It is armed while a message waits for its acknowledgement on a link.

-- how long the peer has been silent: the least of the spans since the oldest such message was written, since bytes came, and
-- since the link began or a timeout fired
abbrev pub silent_for : Option ℕ → ℕ → Timing → ℕ
silent_for oldest now t = min (now - moment_of oldest) (min (now - t.fed) (now - t.changed))

-- when it can have been silent for 20 s, but in no less than 500 ms
abbrev pub next_check : Option ℕ → ℕ → Timing → ℕ
next_check oldest now t = now + max 500 (20000 - silent_for oldest now t)

unfoldable pub watched : Bool → Option ℕ → ℕ → Timing → Timing
watched waits oldest now t =
    record t { timeout = if waits then or_else t.timeout (next_check oldest now t) else t.timeout }

-- the alarm is due, and the peer has been silent for 20 s
abbrev pub fires : Bool → Option ℕ → ℕ → Timing → Bool
fires waits oldest now t = is_due t.timeout now && (waits && nat_le 20000 (silent_for oldest now t))

-- an alarm that is due fires, or is armed again
unfoldable pub timeout_served : Bool → Option ℕ → ℕ → Timing → Timing
timeout_served waits oldest now t =
    if fires waits oldest now t then record t { timeout = None; changed = now }
    else if is_due t.timeout now then watched waits oldest now (record t { timeout = None })
    else t

-- The acknowledgement. An ack that is owed waits until nothing was handed up for 2 s.

unfoldable pub message_heard : ℕ → Timing → Timing
message_heard now t = record t { heard = now; acknowledge = or_else t.acknowledge (now + 2005) }

abbrev pub must_ack : Bool → ℕ → Timing → Bool
must_ack owes now t = is_due t.acknowledge now && owes

abbrev pub acks : Bool → ℕ → Timing → Bool
acks owes now t = must_ack owes now t && nat_le 2000 (now - t.heard)

-- an alarm that is due is over, or is armed again
unfoldable pub acknowledge_served : Bool → ℕ → Timing → Timing
acknowledge_served owes now t =
    if is_due t.acknowledge now
    then record t { acknowledge = if must_ack owes now t && not (acks owes now t) then Some (t.heard + 2005) else None }
    else t

-- The keep-alive, each 5 s

unfoldable pub keep_alive_served : ℕ → Timing → Timing
keep_alive_served now t = if is_due t.keep_alive now then record t { keep_alive = Some (now + 5000) } else t

-- Links

-- a link begins: no alarm is armed, and no replay was asked for on it
unfoldable pub link_begun : ℕ → Timing → Timing
link_begun now t =
    record { acknowledge = None; timeout = None; keep_alive = None; asked = None; latest = now; fed = now; changed = now; heard = t.heard }

-- the link is up
unfoldable pub link_up : Bool → ℕ → Timing → Timing
link_up keeps_alive now t = record t { keep_alive = if keeps_alive then Some (now + 5000) else t.keep_alive }

-- the link is lost
unfoldable pub alarms_cleared : Timing → Timing
alarms_cleared t = record t { acknowledge = None; timeout = None; keep_alive = None }

-- a replay was asked for at most 10 s before now
abbrev pub asked_lately : ℕ → Timing → Bool
asked_lately now t = is_armed t.asked && nat_le (now - moment_of t.asked) 10000
