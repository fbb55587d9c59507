-- The endpoint of a session: what it said, heard and read, and what it has still to write.
-- It has the whole list of what it said. An endpoint in memory keeps of it what its peer has not acknowledged.
use Rattle.std.specs.Prelude.{ℕ, suc, ◌+◌, ◌-◌, Bool, true, false, ◌&&◌, if◌then◌else◌, nat_lt, Option, None, List, [], ◌∷◌, length, map, drop}
use Rattle.ra_model.specs.declared.frame.Frame.{Frame}
use Rattle.ra_model.specs.declared.session.Phase.{Phase}
use Rattle.ra_model.specs.declared.session.Phase.TheVariants.{Away, Joining, Up, Ended}
use Rattle.ra_model.specs.declared.session.Entry.{Entry}
use Rattle.ra_model.specs.FrameKinds.{regular}
use Rattle.ra_model.specs.Timing.{new_timing}
use Rattle.ra_model.specs.declared.timing.Timing.{Timing}

-- a message that was said, the ack that was stored for it, and when it was last written
pub record SaidMessage : Type 0 where
  pub body : List ℕ
  pub ack : ℕ
  pub written : Option ℕ

pub record Endpoint : Type 0 where
  pub base : ℕ  -- the ids of both directions begin after it
  pub phase : Phase
  pub epoch : ℕ  -- the number of the present link, or of the last one; 0 before the first
  pub said : List SaidMessage
  pub received : ℕ  -- the last id handed up
  pub acknowledged : ℕ  -- the highest id that the peer acknowledged
  pub told : ℕ  -- the last ack that was stored or written
  pub unread : List ℕ  -- bytes that came, and were not applied
  pub unwritten : List ℕ  -- bytes of frames that are not on the link
  pub paused : Bool
  pub keeps_alive : Bool
  pub timing : Timing

abbrev pub new_endpoint : ℕ → ℕ → Bool → Endpoint
new_endpoint base now keeps_alive = record {
  base = base;
  phase = Away;
  epoch = 0;
  said = [];
  received = base;
  acknowledged = base;
  told = base;
  unread = [];
  unwritten = [];
  paused = false;
  keeps_alive = keeps_alive;
  timing = new_timing now;
}

-- Phases

abbrev pub is_up : Phase → Bool
is_up Away = false
is_up Joining = false
is_up Up = true
is_up Ended = false

abbrev pub is_joining : Phase → Bool
is_joining Away = false
is_joining Joining = true
is_joining Up = false
is_joining Ended = false

-- there is a link
abbrev pub is_linked : Phase → Bool
is_linked Away = false
is_linked Joining = true
is_linked Up = true
is_linked Ended = false

abbrev pub is_ended : Phase → Bool
is_ended Away = false
is_ended Joining = false
is_ended Up = false
is_ended Ended = true

-- Messages

-- the last id given
abbrev pub sent : Endpoint → ℕ
sent e = e.base + length e.said

-- how many messages the peer acknowledged
abbrev pub acknowledged_count : Endpoint → ℕ
acknowledged_count e = e.acknowledged - e.base

-- the messages with the ids that follow the last one
abbrev pub numbered : ℕ → List SaidMessage → List Entry
numbered last [] = []
numbered last (m ∷ ms) = record { id = suc last; ack = m.ack; body = m.body; written = m.written } ∷ numbered (suc last) ms

-- the messages that the peer has not acknowledged
unfoldable pub owed : Endpoint → List Entry
owed e = numbered e.acknowledged (drop (acknowledged_count e) e.said)

abbrev pub entry_frame : Entry → Frame
entry_frame entry = regular entry.id entry.ack entry.body

-- these messages as frames, to be written again
abbrev pub replay : Endpoint → List Frame
replay e = map entry_frame (owed e)

abbrev pub first_written : List Entry → Option ℕ
first_written [] = None
first_written (entry ∷ entries) = entry.written

-- when the oldest of these messages was last written
abbrev pub oldest : Endpoint → Option ℕ
oldest e = first_written (owed e)

-- a message waits for its acknowledgement on a link
abbrev pub waits : Endpoint → Bool
waits e = is_up e.phase && nat_lt e.acknowledged (sent e)

-- the peer has not been told of all that was received
abbrev pub owes_ack : Endpoint → Bool
owes_ack e = nat_lt e.told e.received

-- the bytes that may go out
abbrev pub shown : Endpoint → List ℕ
shown e = if e.paused then [] else e.unwritten
