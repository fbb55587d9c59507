-- What an endpoint in memory keeps, and the endpoints that it stands for. It has a queue in place of all that was said.
use Rattle.std.specs.Prelude.{◌≡◌, ℕ, ◌+◌, ◌≤◌, length, slice_get, All, Bool, true, if◌then◌else◌, nat_le, Some, List, [], ◌∷◌}
use Rattle.ra_model.specs.declared.timing.Timing.{Timing}
use Rattle.ra_model.specs.declared.frame.Frame.{Frame}
use Rattle.ra_model.specs.Frames.{body_limit}
use Rattle.ra_model.specs.FirstFrame.{first_frame}
use Rattle.ra_model.specs.FrameKinds.{FrameKind, frame_kind}
use Rattle.ra_model.specs.Endpoints.{Endpoint, SaidMessage, is_linked, sent, owed}
use Rattle.ra_model.specs.declared.session.Phase.{Phase}
use Rattle.ra_model.specs.declared.session.Entry.{Entry}

pub record EndpointState : Type 0 where
  pub phase : Phase
  pub epoch : ℕ
  pub sent : ℕ
  pub queue : List Entry
  pub received : ℕ
  pub acknowledged : ℕ
  pub told : ℕ
  pub unread : List ℕ
  pub unwritten : List ℕ
  pub paused : Bool
  pub keeps_alive : Bool
  pub timing : Timing

-- the endpoint with this base that said this, and is otherwise in this state
abbrev pub with_said : ℕ → List SaidMessage → EndpointState → Endpoint
with_said base said s = record {
  base = base;
  phase = s.phase;
  epoch = s.epoch;
  said = said;
  received = s.received;
  acknowledged = s.acknowledged;
  told = s.told;
  unread = s.unread;
  unwritten = s.unwritten;
  paused = s.paused;
  keeps_alive = s.keeps_alive;
  timing = s.timing;
}

-- all is equal, and the queue is what is owed
pub record StandsFor (s : EndpointState) (e : Endpoint) : Type 0 where
  pub same : e ≡ with_said e.base e.said s
  pub sent : s.sent ≡ sent e
  pub queue : s.queue ≡ owed e

-- the queue has the ids behind the acknowledged one, up to the last one, each of its bodies fits a frame, and no more was told than was received
pub record IsConsistent (s : EndpointState) : Type 0 where
  pub all : s.acknowledged + length s.queue ≡ s.sent
  pub id : (k : ℕ) (entry : Entry) → slice_get s.queue k ≡ Some entry → entry.id ≡ s.acknowledged + 1 + k
  pub fits : All (λ entry. length entry.body ≤ body_limit) s.queue
  pub told : s.told ≤ s.received

-- this is the next frame, of this kind, before the rest
pub record IsNext (kind : FrameKind) (frame : Frame) (rest : List ℕ) (s : EndpointState) : Type 0 where
  pub is : frame_kind frame.kind ≡ kind
  pub linked : is_linked s.phase ≡ true
  pub first : first_frame s.unread ≡ Some (frame, rest)

-- the numbers of an endpoint, from the least
pub record IsOrdered (e : Endpoint) : Type 0 where
  pub base : e.base ≤ e.acknowledged
  pub acknowledged : e.acknowledged ≤ sent e

-- the queue once its messages with ids up to this one are acknowledged
abbrev pub behind : ℕ → List Entry → List Entry
behind upto [] = []
behind upto (entry ∷ entries) = if nat_le entry.id upto then behind upto entries else entry ∷ entries

-- a message in the queue, once it is written again
abbrev pub entry_written : ℕ → Entry → Entry
entry_written now entry = record entry { written = Some now }
