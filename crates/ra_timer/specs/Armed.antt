-- Alarms that are armed, each with the moment at which it is due.
use Rattle.std.specs.Prelude.{◌≡◌, ℕ, ◌≤◌, if◌then◌else◌, min, Option, Some, None}
use Rattle.ra_model.specs.Timing.{is_due}
use Rattle.ra_timer.specs.declared.timers.Alarm.{Alarm}
use Rattle.ra_timer.specs.declared.timers.Alarm.TheVariants.{Acknowledge, Timeout, KeepAlive}

pub record Armed : Type 0 where
  pub acknowledge : Option ℕ
  pub timeout : Option ℕ
  pub keep_alive : Option ℕ

abbrev pub none_armed : Armed
none_armed = record { acknowledge = None; timeout = None; keep_alive = None }

abbrev pub alarm_of : Alarm → Armed → Option ℕ
alarm_of Acknowledge armed = armed.acknowledge
alarm_of Timeout armed = armed.timeout
alarm_of KeepAlive armed = armed.keep_alive

-- this alarm is armed for this moment, whatever it was before
abbrev pub with_alarm : Alarm → ℕ → Armed → Armed
with_alarm Acknowledge at armed = record armed { acknowledge = Some at }
with_alarm Timeout at armed = record armed { timeout = Some at }
with_alarm KeepAlive at armed = record armed { keep_alive = Some at }

-- an alarm that was due is no longer armed
abbrev pub served : ℕ → Option ℕ → Option ℕ
served now alarm = if is_due alarm now then None else alarm

abbrev pub all_served : ℕ → Armed → Armed
all_served now armed =
    record { acknowledge = served now armed.acknowledge; timeout = served now armed.timeout; keep_alive = served now armed.keep_alive }

-- the earlier of two moments, where there are any
abbrev pub earlier : Option ℕ → Option ℕ → Option ℕ
earlier None second = second
earlier (Some a) None = Some a
earlier (Some a) (Some b) = Some (min a b)

-- an alarm is armed for this moment, and none is for a moment before it; or none is armed at all
abbrev pub IsEarliest : Armed → Option ℕ → Type 0
IsEarliest armed None = armed ≡ none_armed
IsEarliest armed (Some at) =
    ((which : Alarm) × (alarm_of which armed ≡ Some at))
    × ((which : Alarm) (moment : ℕ) → alarm_of which armed ≡ Some moment → at ≤ moment)
