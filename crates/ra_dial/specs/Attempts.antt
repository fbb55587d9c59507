-- The attempts of a dialer: how it waits, and how an attempt begins and fails.
use Rattle.std.specs.Prelude.{ℕ, ◌+◌, ◌-◌, ◌^◌, ◌==◌, min, Bool, false, nat_le, nat_lt, List, [], ◌++◌, if◌then◌else◌}
use Rattle.ra_dial.specs.declared.values.DialEnd.{DialEnd}
use Rattle.ra_dial.specs.declared.stage.Stage.{Stage}
use Rattle.ra_dial.specs.declared.stage.Stage.TheVariants as stages
use Rattle.ra_dial.specs.Clients.{request_of, new_shaking}
use Rattle.ra_dial.specs.Dialers.{Dialer, epoch}
use Rattle.ra_dial.specs.Acts.{Act, quiet, rest_until, connect, drop_link, ends}

-- an act, and the dialer after it
abbrev pub Step : Type 0
Step = Act × Dialer

abbrev pub finishes : DialEnd → Dialer → Step
finishes end d = (ends end, record d { stage = stages.Over end })

-- the wait before an attempt, counted from 0
abbrev pub wait_before : ℕ → ℕ
wait_before i = if i == 0 then 0 else if nat_le i 2 then 5000 else if nat_le i 7 then 10000 else 30000

-- how long a call and its handshake may take
abbrev pub patience : ℕ
patience = 30000

-- how long a loss may last
abbrev pub long_grace : ℕ
long_grace = 10800000

-- the count stays at its last value
abbrev pub next_attempt : ℕ → ℕ
next_attempt i = min (i + 1) (2 ^ 64 - 1)

-- the link is to be closed, where there is one
abbrev pub rest_or_drop : Bool → ℕ → Act
rest_or_drop drops until = if drops then drop_link else rest_until until

-- an attempt failed: the next wait begins, and what was to be written goes
unfoldable pub fails : Bool → ℕ → Dialer → Step
fails drops now d =
    let until = now + wait_before (next_attempt d.attempt) in
    (rest_or_drop drops until, record d { stage = stages.Resting until; attempt = next_attempt d.attempt; pending = [] })

-- a wait may be over
unfoldable pub waits_until : ℕ → ℕ → Dialer → Step
waits_until until now d = if nat_le until now then (connect, record d { stage = stages.Calling now }) else (rest_until until, d)

-- a call, and the handshake after it, may take too long
unfoldable pub waits_since : Bool → ℕ → ℕ → Dialer → Step
waits_since drops since now d = if nat_le patience (now - since) then fails drops now d else (rest_until (since + patience), d)

-- The request is written, with a drawn key. It claims a reconnection exactly where an attempt was accepted before.
unfoldable pub begins : ℕ → List ℕ → List ℕ → Dialer → Step
begins since key drawn d = (
  quiet,
  record d {
    stage = stages.Shaking since (new_shaking d.settings key drawn);
    pending = d.pending ++ request_of d.settings (nat_lt 0 (epoch d)) key;
    read = 0;
  },
)

-- a loss has lasted too long
abbrev pub is_too_long : ℕ → ℕ → Bool
is_too_long lost now = nat_lt long_grace (now - lost)

-- while attached there is no loss
abbrev pub gives_up : Stage → ℕ → ℕ → Bool
gives_up (stages.Resting until) lost now = is_too_long lost now
gives_up (stages.Calling since) lost now = is_too_long lost now
gives_up (stages.Shaking since s) lost now = is_too_long lost now
gives_up stages.Attached lost now = false
gives_up (stages.Over end) lost now = false
