-- All sessions of a server: the registry of who was admitted, and the session of each key. What the calls of a hub change.
use Rattle.std.specs.Prelude.{ℕ, List, [], Bool, false, ◌&&◌, ◌==◌, Option, Some, None, if◌then◌else◌}
use Rattle.ra_base.specs.declared.handshake.Reason.{Reason}
use Rattle.ra_base.specs.declared.handshake.Request.{Request}
use Rattle.ra_base.specs.declared.key.Cause.{Cause}
use Rattle.ra_base.specs.declared.key.Key.{Key}
use Rattle.ra_base.specs.declared.key.Seat.{Seat}
use Rattle.ra_keep.specs.declared.record.Record.{Record}
use Rattle.ra_registry.specs.declared.past.Did.{Did}
use Rattle.ra_registry.specs.declared.past.Did.TheVariants.{Lost, Closed, Missed}
use Rattle.ra_registry.specs.declared.past.Past.{Past}
use Rattle.ra_registry.specs.declared.row.Row.{Row}
use Rattle.ra_registry.specs.Admission.{key_of, admission_entry, refusal_entry}
use Rattle.ra_registry.specs.RegistryStates.{RegistryState, with_entry}
use Rattle.ra_registry.specs.RowChanges.{is_open_state}
use Rattle.ra_registry.specs.Rows.{row_of, same_key}
use Rattle.ra_session.specs.Saying.{serving}
use Rattle.ra_session.specs.SessionCalls.{lose_session, end_session}
use Rattle.ra_session.specs.Sessions.{Session}

pub record Hub : Type 0 where
  pub registry : RegistryState
  pub session : Key → Option Session

-- a hub that starts from these records
abbrev pub started : ℕ → ℕ → List Record → Hub
started long short records = record {
  registry = record { long_grace = long; short_grace = short; start = records; history = [] };
  session = λ key. None;
}

abbrev pub row : Hub → Key → Option Row
row h key = row_of h.registry key

-- this key's session is that one, and the others stay
abbrev pub with_session : {S : Type 0} → Key → S → (Key → Option S) → Key → Option S
with_session key s sessions other = if same_key key other then Some s else sessions other

abbrev pub at_key : Key → Session → Hub → Hub
at_key key s h = record h { session = with_session key s h.session }

-- one more entry of the history
abbrev pub enter : Past → Hub → Hub
enter entry h = record h { registry = with_entry h.registry entry }

abbrev pub entry_of : Key → ℕ → Did → Past
entry_of key at did = record { at = at; key = key; did = did }

-- ---- requests

-- a new session is made where the request is no reconnection
abbrev pub with_new_session : Request → ℕ → Hub → Hub
with_new_session ask now h = if ask.reconnection then h else at_key (key_of ask) (serving (key_of ask).kind now) h

unfoldable pub admitted : Request → ℕ → Hub → Hub
admitted ask now h = enter (admission_entry h.registry ask now) (with_new_session ask now h)

unfoldable pub refused : Request → ℕ → Reason → Hub → Hub
refused ask now reason h = enter (refusal_entry ask now reason) h

-- ---- ends of seats

-- the link of a seat is lost, and its session loses it
unfoldable pub seat_lost : Seat → ℕ → Session → Hub → Hub
seat_lost seat now s h = enter (entry_of seat.key now (Lost seat.epoch)) (at_key seat.key (lose_session seat.epoch s) h)

-- a close with this epoch closes the row
abbrev pub closes : ℕ → Option Row → Bool
closes epoch None = false
closes epoch (Some row) = (row.epoch == epoch) && is_open_state row.state

-- the session ends where its row is closed
abbrev pub with_end : Seat → Cause → Session → Hub → Hub
with_end seat cause s h = if closes seat.epoch (row h seat.key) then at_key seat.key (end_session cause s) h else h

unfoldable pub seat_closed : Seat → Cause → ℕ → Session → Hub → Hub
seat_closed seat cause now s h = enter (entry_of seat.key now (Closed seat.epoch cause)) (with_end seat cause s h)

-- ---- keys without a row

unfoldable pub missed : Key → ℕ → Hub → Hub
missed key now h = enter (entry_of key now Missed) h
