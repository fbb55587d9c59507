-- How often the two sides of a pipe are asked.
use Rattle.std.specs.Prelude.{◌≡◌, ℕ, zero, suc, ◌+◌, ◌≤◌, ◌/◌, ◌%◌, ◌==◌, if◌then◌else◌}
use Rattle.ra_ports.specs.Causes.{next_count}

-- a count that is raised so often, or stands at the end of its type
abbrev pub raised : ℕ → ℕ → ℕ
raised zero count = count
raised (suc n) count = next_count (raised n count)

-- so many calls, the first of them to the client, and then to each side in turn
abbrev pub AreAsked : ℕ → (client client_now target target_now : ℕ) → Type 0
AreAsked n client client_now target target_now =
    (client_now ≡ raised ((n + 1) / 2) client) × (target_now ≡ raised (n / 2) target)

-- both were asked `turns` times at most, and as often where they are spent
pub record Alternates (turns : ℕ) (Spent : Type 0) (client client_now target target_now : ℕ) : Type 0 where
  pub reads : ℕ
  pub within : reads ≤ turns
  pub asked : AreAsked reads client client_now target target_now
  pub spent : Spent → reads ≡ turns

-- a turn with an even number asks the client, and any other the target
abbrev pub TurnsTo : ℕ → (client client_now target target_now : ℕ) → Type 0
TurnsTo turn client client_now target target_now =
    (client_now ≡ (if turn % 2 == 0 then next_count client else client)) × (target_now ≡ (if turn % 2 == 0 then target else next_count target))
