-- A served link in memory, and the link that it stands for.
use Rattle.std.specs.Prelude.{◌≡◌, ℕ, ◌-◌, Option, Some, None, List, false, nat_lt, length, take, ⊤}
use Rattle.ra_base.specs.declared.key.Seat.{Seat}
use Rattle.ra_upgrade.specs.declared.request_head.HeadFault.{HeadFault}
use Rattle.ra_upgrade.specs.declared.request_head.Upgrade.{Upgrade}
use Rattle.ra_items.specs.Heads.{Head}
use Rattle.ra_opening.specs.declared.phase.Phase.{Phase as OpeningPhase}
use Rattle.ra_opening.specs.declared.phase.Phase.TheVariants as opening_phases
use Rattle.ra_opening.specs.Openings.{Grounds, opened}
use Rattle.ra_opening.specs.Stands.{OpeningState, Stands, HasNoHead, NeedsFraming, IsInShake, IsOpen}
use Rattle.ra_opening.specs.Comes.{HasHead}
use Rattle.ra_hub.specs.Hubs.{Hub}
use Rattle.ra_hub.specs.Jobs.{SeenJob}
use Rattle.ra_link_core.specs.LinkRuns.{Serving}
use Rattle.ra_link_core.specs.Makes.{Base, IsGoing, IsEnded, IsUnkept, IsShort, Outcome, goes, over, unkept, short}
use Rattle.ra_link_core.specs.declared.ends.CoreEnd.{CoreEnd}
use Rattle.ra_link_core.specs.declared.phase.Phase.{Phase}
use Rattle.ra_link_core.specs.declared.phase.Phase.TheVariants as phases

abbrev pub seat_in : Phase → Option Seat
seat_in (phases.Opening opening) = None
seat_in (phases.Seated seat) = Some seat
seat_in (phases.Ended seat) = Some seat
seat_in phases.Over = None

-- an opening in a link is not over
abbrev pub IsFit : Phase → Type 0
IsFit (phases.Opening opening) = IsOpen opening
IsFit (phases.Seated seat) = ⊤
IsFit (phases.Ended seat) = ⊤
IsFit phases.Over = ⊤

-- the text that counts, of all that was read: without the front of a framed stream that is unread
abbrev pub counted_in : OpeningPhase → (unread raw : List ℕ) → List ℕ
counted_in opening_phases.Heading unread raw = raw
counted_in (opening_phases.Held shake) unread raw = take (length raw - length unread) raw
counted_in (opening_phases.Shaking shake) unread raw = raw
counted_in opening_phases.Over unread raw = raw

abbrev pub base_of : Grounds → (before : List ℕ) → (next : ℕ → List ℕ) → Base
base_of grounds before next = record { before = before; next = next; draw = grounds.draw }

pub record IsOpening (opening : OpeningState) (grounds : Grounds) (head : Head Upgrade HeadFault) (text before : List ℕ) (next : ℕ → List ℕ)
    (stands : Hub → Type 0) (jobs : Option (List SeenJob)) (out : List ℕ) (s : Serving) : Type 0 where
  pub going : IsGoing None stands jobs (base_of grounds before next) out s
  pub raw : List ℕ
  pub opens : Stands grounds head raw before next opening out
  pub counts : text ≡ counted_in opening.phase opening.reader.unread raw
  pub written : s.out ≡ (opened grounds head text).out
  pub drawn : s.drawn ≡ (opened grounds head text).drawn

-- a link that goes on stands for this one, after the text that counts
abbrev pub CoreStands : Phase → Grounds → Head Upgrade HeadFault → (text before : List ℕ) → (next : ℕ → List ℕ) → (Hub → Type 0) → Option (List SeenJob) → (out : List ℕ) → Serving → Type 0
CoreStands (phases.Opening opening) grounds head text before next stands jobs out s = IsOpening opening grounds head text before next stands jobs out s
CoreStands (phases.Seated seat) grounds head text before next stands jobs out s = IsGoing (Some seat) stands jobs (base_of grounds before next) out s
CoreStands (phases.Ended seat) grounds head text before next stands jobs out s = ⊥
CoreStands phases.Over grounds head text before next stands jobs out s = ⊥

-- no link waits to be framed
abbrev pub NotHeld : Phase → Type 0
NotHeld (phases.Opening opening) = NeedsFraming opening.phase → ⊥
NotHeld (phases.Seated seat) = ⊤
NotHeld (phases.Ended seat) = ⊤
NotHeld phases.Over = ⊤

-- a link waits to be framed
abbrev pub IsHeld : Phase → Type 0
IsHeld (phases.Opening opening) = NeedsFraming opening.phase
IsHeld (phases.Seated seat) = ⊥
IsHeld (phases.Ended seat) = ⊥
IsHeld phases.Over = ⊥

-- it does, or memory ran out
abbrev pub HeldOrShort : Outcome → Phase → Type 0
HeldOrShort goes phase = IsHeld phase
HeldOrShort (over end) phase = ⊥
HeldOrShort unkept phase = ⊥
HeldOrShort short phase = ⊤

-- and this is what is unread
abbrev pub IsHeldWith : Phase → List ℕ → Type 0
IsHeldWith (phases.Opening opening) rest = NeedsFraming opening.phase × (rest ≡ opening.reader.unread)
IsHeldWith (phases.Seated seat) rest = ⊥
IsHeldWith (phases.Ended seat) rest = ⊥
IsHeldWith phases.Over rest = ⊥

-- the front of the framed stream, where a link waits to be framed
abbrev pub OnHeld : Phase → (List ℕ → Type 0) → Type 0
OnHeld (phases.Opening opening) P = NeedsFraming opening.phase → P opening.reader.unread
OnHeld (phases.Seated seat) P = ⊤
OnHeld (phases.Ended seat) P = ⊤
OnHeld phases.Over P = ⊤

-- the head was read and its link framed, where that had to be
abbrev pub IsPastHead : Phase → Type 0
IsPastHead (phases.Opening opening) = IsInShake opening.phase
IsPastHead (phases.Seated seat) = ⊤
IsPastHead (phases.Ended seat) = ⊤
IsPastHead phases.Over = ⊤

-- the head of a link with a seat has ended in its text
abbrev pub IsBehindHead : Phase → Head Upgrade HeadFault → List ℕ → Type 0
IsBehindHead (phases.Opening opening) head text = ⊤
IsBehindHead (phases.Seated seat) head text = nat_lt (length text) head.size ≡ false
IsBehindHead (phases.Ended seat) head text = ⊤
IsBehindHead phases.Over head text = ⊤

-- the opening has read the text that counts, and no more
abbrev pub OpeningFramed : OpeningState → OpeningState → Type 0
OpeningFramed old new = (grounds : Grounds) (head : Head Upgrade HeadFault) (raw before : List ℕ) (next : ℕ → List ℕ) (out : List ℕ)
    → Stands grounds head raw before next old out → Stands grounds head (take (length raw - length old.reader.unread) raw) before next new out

abbrev pub SetsFramedIn : OpeningState → Phase → Type 0
SetsFramedIn old (phases.Opening new) = OpeningFramed old new
SetsFramedIn old (phases.Seated seat) = ⊥
SetsFramedIn old (phases.Ended seat) = ⊥
SetsFramedIn old phases.Over = ⊥

abbrev pub SetsFramed : Phase → Phase → Type 0
SetsFramed (phases.Opening old) new = SetsFramedIn old new
SetsFramed (phases.Seated seat) new = ⊥
SetsFramed (phases.Ended seat) new = ⊥
SetsFramed phases.Over new = ⊥

-- what a piece makes of a link
abbrev pub CoreMakes : Outcome → Phase → Grounds → Head Upgrade HeadFault → (text before : List ℕ) → (next : ℕ → List ℕ) → (Hub → Type 0) → Option (List SeenJob) → (out : List ℕ) → (s u : Serving) → Type 0
CoreMakes goes phase grounds head text before next stands jobs out s u = CoreStands phase grounds head text before next stands jobs out u
CoreMakes (over end) phase grounds head text before next stands jobs out s u = IsEnded end (seat_in phase) stands jobs (base_of grounds before next) out u
CoreMakes unkept phase grounds head text before next stands jobs out s u = IsUnkept (seat_in phase) stands jobs (base_of grounds before next) out s u
CoreMakes short phase grounds head text before next stands jobs out s u = IsShort (seat_in phase) stands jobs (base_of grounds before next) out s u

-- where memory did not run out, some head answers each front of the text
abbrev pub KnowsHead : Outcome → List ℕ → Type 0
KnowsHead goes text = HasHead text
KnowsHead (over end) text = HasHead text
KnowsHead unkept text = HasHead text
KnowsHead short text = ⊤

-- a link that has read no head yet
abbrev pub OnNoHead : Phase → (List ℕ → Type 0) → Type 0
OnNoHead (phases.Opening opening) P = HasNoHead opening → P opening.reader.unread
OnNoHead (phases.Seated seat) P = ⊤
OnNoHead (phases.Ended seat) P = ⊤
OnNoHead phases.Over P = ⊤

-- how far a link is that has this seat, or has ended with it
abbrev pub phase_of : Option Seat → Option CoreEnd → Phase
phase_of None end = phases.Over
phase_of (Some seat) None = phases.Seated seat
phase_of (Some seat) (Some end) = phases.Ended seat

-- it has ended
abbrev pub IsDone : Phase → Type 0
IsDone (phases.Opening opening) = ⊥
IsDone (phases.Seated seat) = ⊥
IsDone (phases.Ended seat) = ⊤
IsDone phases.Over = ⊤

-- a link that has ended does no more
abbrev pub OnOver : Phase → Type 0 → Type 0
OnOver (phases.Opening opening) P = ⊤
OnOver (phases.Seated seat) P = ⊤
OnOver (phases.Ended seat) P = P
OnOver phases.Over P = P
