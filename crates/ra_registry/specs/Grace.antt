-- How long a session whose link was lost can be reconnected.
use Rattle.std.specs.Prelude.{ℕ, ◌+◌, min, max, Bool, true, false, nat_lt, Option, Some, None}
use Rattle.ra_registry.specs.declared.row.Row.{Row}
use Rattle.ra_registry.specs.declared.row.RowState.{RowState}
use Rattle.ra_registry.specs.declared.row.RowState.TheVariants.{Up, Lost, Closed}

-- the moment from which on it can't: the long grace after the loss, or the short one after the shortening, whichever is earlier
abbrev pub deadline : ℕ → ℕ → ℕ → Option ℕ → ℕ
deadline long short at None = at + long
deadline long short at (Some shortened) = min (at + long) (shortened + short)

-- the moment of a call as a row sees it: it never falls
abbrev pub moment_of : Row → ℕ → ℕ
moment_of row at = max at row.changed

abbrev pub is_live_in : ℕ → ℕ → RowState → ℕ → Bool
is_live_in long short Up at = true
is_live_in long short (Lost lost shortened) at = nat_lt at (deadline long short lost shortened)
is_live_in long short (Closed cause) at = false

-- the session can be reconnected
abbrev pub is_live : ℕ → ℕ → Row → ℕ → Bool
is_live long short row at = is_live_in long short row.state (moment_of row at)
