-- The row of each session, read off the start records and the history.
use Rattle.std.specs.Prelude.{ℕ, max, Bool, List, fold, Option, Some, None, option_map, if◌then◌else◌}
use Rattle.std.specs.BTreeMap.{is_at}
use Rattle.ra_base.specs.Keys.{key_cmp}
use Rattle.ra_base.specs.declared.key.Key.{Key}
use Rattle.ra_base.specs.declared.key.Cause.TheVariants.{Stopped}
use Rattle.ra_keep.specs.declared.record.Record.{Record}
use Rattle.ra_registry.specs.declared.past.Did.{Did}
use Rattle.ra_registry.specs.declared.past.Did.TheVariants.{Admitted, Refused, Lost, Closed, Expired, Missed}
use Rattle.ra_registry.specs.declared.past.Past.{Past}
use Rattle.ra_registry.specs.declared.row.Row.{Row}
use Rattle.ra_registry.specs.declared.row.RowState.TheVariants as states
use Rattle.ra_registry.specs.RowChanges.{shorten, lose, close, expire, admitted_at}
use Rattle.ra_registry.specs.RegistryStates.{RegistryState}

abbrev pub same_key : Key → Key → Bool
same_key a b = is_at (key_cmp a) b

-- the number of the row's latest link, and 0 where there is no row
abbrev pub epoch_of : Option Row → ℕ
epoch_of None = 0
epoch_of (Some row) = row.epoch

-- the row of a session that ended before the start
abbrev pub stopped : ℕ → Row
stopped epoch = record { epoch = epoch; state = states.Closed Stopped; changed = 0 }

-- one more start record: the row has the greatest of their epochs
abbrev pub with_record : Key → Option Row → Record → Option Row
with_record key row kept = if same_key kept.key key then Some (stopped (max kept.epoch (epoch_of row))) else row

-- the row of a session at the start
unfoldable pub start_row : List Record → Key → Option Row
start_row records key = fold (with_record key) None records

-- what an entry of the session itself does to its row
abbrev pub own_change : ℕ → Did → Option Row → Option Row
own_change at (Admitted epoch reconnection) row = Some (admitted_at epoch at row)
own_change at (Refused kind reconnection reason) row = option_map (shorten at) row
own_change at (Lost epoch) row = option_map (lose epoch at) row
own_change at (Closed epoch cause) row = option_map (close epoch cause) row
own_change at Expired row = option_map expire row
own_change at Missed row = row

-- what an entry of another session does to a row
abbrev pub other_change : ℕ → Did → Option Row → Option Row
other_change at (Admitted epoch reconnection) row = option_map (shorten at) row
other_change at (Refused kind reconnection reason) row = option_map (shorten at) row
other_change at (Lost epoch) row = row
other_change at (Closed epoch cause) row = row
other_change at Expired row = row
other_change at Missed row = row

-- the row of a session after one more entry
unfoldable pub change : Key → Option Row → Past → Option Row
change key row entry = if same_key entry.key key then own_change entry.at entry.did row else other_change entry.at entry.did row

-- the row of a session
unfoldable pub row_of : RegistryState → Key → Option Row
row_of registry key = fold (change key) (start_row registry.start key) registry.history
