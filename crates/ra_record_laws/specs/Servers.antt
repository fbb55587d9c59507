-- A server as its records see it: its hub, what its keeper tells, and what calls and starts do to both.
use Rattle.std.specs.Prelude.{◌≡◌, ◌<◌, ℕ, List, [], ◌∷◌, ◌++◌, Option, Some, None, option_map, Result}
use Rattle.ra_base.specs.declared.handshake.Request.{Request}
use Rattle.ra_base.specs.declared.key.Cause.{Cause}
use Rattle.ra_base.specs.declared.key.Key.{Key}
use Rattle.ra_base.specs.declared.key.Seat.{Seat}
use Rattle.ra_keep.specs.Causes.{TellsOnly}
use Rattle.ra_keep.specs.declared.record.Record.{Record}
use Rattle.ra_registry.specs.Admission.{admission_refusal, seat_for}
use Rattle.ra_registry.specs.KeptRecords.{record_of}
use Rattle.ra_registry.specs.Seats.{unspent}
use Rattle.ra_session.specs.declared.values.Tell.{Tell}
use Rattle.ra_session.specs.declared.values.Turn.{Turn}
use Rattle.ra_hub.specs.declared.fault.HubFault.{HubFault}
use Rattle.ra_hub.specs.HubCalls.{Admits, Attaches, Turns, Tells, Loses, Closes}
use Rattle.ra_hub.specs.Hubs.{Hub, started}
use Rattle.ra_hub.specs.Keeping.{Keeps, Stands, keeper_of}
use Rattle.ra_hub.specs.declared.plain.PlainHub.{PlainHub}
use Rattle.ra_keep.specs.declared.keeper.Keeper.{Ghosts}
use Rattle.ra_hub.specs.Sweeps.{IsSwept}

-- a hub, and the list that its keeper tells, where it tells
pub record Server : Type 0 where
  pub hub : Hub
  pub told : Option (List Record)

-- A call of the hub, with what it was answered. Or the server starts again, with these grace times, from the records that are read then:
-- after it stopped between two calls, or inside a request that is answered to nobody.
pub data Call : Type 0 where
  admit : Request → (now : ℕ) → Result Seat HubFault → Call
  attach : Seat → (chunk : List ℕ) → (now : ℕ) → Result Unit HubFault → Call
  turn : Seat → (piece : List ℕ) → (now : ℕ) → Result Turn HubFault → Call
  tell : Key → Tell → (now : ℕ) → Result Unit HubFault → Call
  lose : Seat → (now : ℕ) → Call
  close : Seat → Cause → (now : ℕ) → Call
  tick : (now expired short : ℕ) → Call
  start : (long short : ℕ) → List Record → Call
  start_inside : Request → (now : ℕ) → (long short : ℕ) → List Record → Call

-- the hub has started from these records, which are those of the keeper where it tells
pub record StartsFrom (long short : ℕ) (records : List Record) (server : Server) : Type 0 where
  pub hub_is : server.hub ≡ started long short records
  pub all : (list : List Record) → server.told ≡ Some list → records ≡ list

abbrev pub HasStarted : Server → Type 0
HasStarted server = (long : ℕ) × (short : ℕ) × (records : List Record) × StartsFrom long short records server

-- the seat was given, and is not spent
abbrev pub Holds : Server → Seat → Type 0
Holds server seat = 0 < unspent seat server.hub.registry.history

-- only the hub changes: its keeper is not called
abbrev pub Alone : Server → Server → ((Hub → Type 0) → Type 0) → Type 0
Alone before after Call = Call (λ h. h ≡ after.hub) × (after.told ≡ before.told)

-- with the record of the seat that a request gets
abbrev pub with_record_of : Server → Request → ℕ → Option (List Record)
with_record_of server ask now = option_map (λ list. list ++ record_of (seat_for server.hub.registry ask) now ∷ []) server.told

-- What a call does, by the clauses of the calls of a hub that tells. A start behind a stop inside a request finds the list with its record;
-- one that finds it without is a start behind a stop between two calls.
abbrev pub Does : Call → Server → Server → Type 0
Does (admit ask now answer) before after = Admits before.hub ask now answer (λ h. h ≡ after.hub) × Keeps answer now before.told after.told
Does (attach seat chunk now answer) before after = Alone before after (Attaches before.hub seat chunk now answer)
Does (turn seat piece now answer) before after = Alone before after (Turns before.hub seat piece now answer)
Does (tell key word now answer) before after = Alone before after (Tells before.hub key word now answer)
Does (lose seat now) before after = Holds before seat × Alone before after (Loses before.hub seat now)
Does (close seat cause now) before after = Holds before seat × Alone before after (Closes before.hub seat cause now)
Does (tick now expired short) before after = IsSwept before.hub now expired short after.hub × (after.told ≡ before.told)
Does (start long short records) before after = StartsFrom long short records after × TellsOnly before.told after.told
Does (start_inside ask now long short records) before after =
    (admission_refusal before.hub.registry ask now ≡ None) × StartsFrom long short records after × TellsOnly (with_record_of before ask now) after.told

-- the calls lead from one server to the other
abbrev pub Runs : List Call → Server → Server → Type 0
Runs [] before after = before ≡ after
Runs (call ∷ calls) before after = (between : Server) × Does call before between × Runs calls between after

-- the server that a hub in memory is, where it stands for this hub, over what its keeper tells
abbrev pub server_of : {R : Type 0} {K : Ghosts R} → (R → Option (List Record)) → PlainHub R K → Hub → Server
server_of told plain h = record { hub = h; told = told (keeper_of plain) }

-- whichever hub it stood for, it stands for one to which the call leads
abbrev pub Steps : {R : Type 0} {K : Ghosts R} → (R → Option (List Record)) → Call → PlainHub R K → PlainHub R K → Type 0
Steps told call before after = (h : Hub) → Stands before h → (k : Hub) × Stands after k × Does call (server_of told before h) (server_of told after k)

-- it stands for a hub that has started from some records, which a start leads to from any server whose keeper was this one
abbrev pub Begins : {R : Type 0} {K : Ghosts R} → (R → Option (List Record)) → (long short : ℕ) → R → PlainHub R K → Type 0
Begins told long short keeper plain = (records : List Record) × (k : Hub) × Stands plain k × StartsFrom long short records (server_of told plain k)
    × ((h : Hub) → Does (start long short records) (record { hub = h; told = told keeper }) (server_of told plain k))
