-- What may happen to the row of a session.
use Rattle.std.specs.Prelude.{ℕ, Bool, true, false, ◌==◌, Option, Some, None, if◌then◌else◌}
use Rattle.ra_base.specs.declared.key.Cause.{Cause}
use Rattle.ra_base.specs.declared.key.Cause.TheVariants.{GraceOver}
use Rattle.ra_registry.specs.declared.row.Row.{Row}
use Rattle.ra_registry.specs.declared.row.RowState.{RowState}
use Rattle.ra_registry.specs.declared.row.RowState.TheVariants.{Up, Lost, Closed}
use Rattle.ra_registry.specs.Grace.{moment_of}

-- the row in that state from that moment on
abbrev pub changed_to : Row → RowState → ℕ → Row
changed_to row state at = record row { state = state; changed = at }

abbrev pub shorten_in : Row → RowState → ℕ → Row
shorten_in row Up at = row
shorten_in row (Lost lost None) at = changed_to row (Lost lost (Some (moment_of row at))) (moment_of row at)
shorten_in row (Lost lost (Some shortened)) at = row
shorten_in row (Closed cause) at = row

-- the grace of a lost row that was not shortened yet is shortened
abbrev pub shorten : ℕ → Row → Row
shorten at row = shorten_in row row.state at

abbrev pub lose_in : Row → RowState → ℕ → Row
lose_in row Up at = changed_to row (Lost (moment_of row at) None) (moment_of row at)
lose_in row (Lost lost shortened) at = row
lose_in row (Closed cause) at = row

-- a row that is up with that epoch is lost
abbrev pub lose : ℕ → ℕ → Row → Row
lose epoch at row = if row.epoch == epoch then lose_in row row.state at else row

abbrev pub close_in : Row → RowState → Cause → Row
close_in row Up cause = record row { state = Closed cause }
close_in row (Lost lost shortened) cause = record row { state = Closed cause }
close_in row (Closed before) cause = row

-- a row with that epoch that is not closed yet is closed
abbrev pub close : ℕ → Cause → Row → Row
close epoch cause row = if row.epoch == epoch then close_in row row.state cause else row

-- a row that is not closed yet is closed, since its grace is over
abbrev pub expire : Row → Row
expire row = close_in row row.state GraceOver

-- the row of a session that is admitted
abbrev pub admitted_at : ℕ → ℕ → Option Row → Row
admitted_at epoch at None = record { epoch = epoch; state = Up; changed = at }
admitted_at epoch at (Some row) = record { epoch = epoch; state = Up; changed = moment_of row at }

abbrev pub is_open_state : RowState → Bool
is_open_state Up = true
is_open_state (Lost lost shortened) = true
is_open_state (Closed cause) = false

-- there is a row, and it is not closed
abbrev pub is_open : Option Row → Bool
is_open None = false
is_open (Some row) = is_open_state row.state

abbrev pub is_unshortened_state : RowState → Bool
is_unshortened_state Up = false
is_unshortened_state (Lost lost None) = true
is_unshortened_state (Lost lost (Some shortened)) = false
is_unshortened_state (Closed cause) = false

-- there is a row, which is lost, and its grace was not shortened yet
abbrev pub is_unshortened : Option Row → Bool
is_unshortened None = false
is_unshortened (Some row) = is_unshortened_state row.state
