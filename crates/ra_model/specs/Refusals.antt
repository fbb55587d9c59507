-- Why a call or an event is refused, if it is. The first cause counts.
use Rattle.std.specs.Prelude.{ℕ, ◌==◌, Bool, ◌&&◌, not, if◌then◌else◌, nat_le, nat_lt, option_map, Option, Some, None, List, length}
use Rattle.ra_base.specs.declared.event.Side.{Side}
use Rattle.ra_base.specs.declared.event.Side.TheVariants.{A}
use Rattle.ra_base.specs.declared.event.Count.{Count}
use Rattle.ra_base.specs.declared.event.Event.{Event}
use Rattle.ra_base.specs.declared.event.Event.TheVariants.{Link as LinkMade, At, Begin, Finish, Say, Control, Pause, Resume, Leave, Write, Read, Take, Tick, Lose, Cut}
use Rattle.ra_base.specs.declared.event.Count.TheVariants.{All, Exact, Most}
use Rattle.ra_model.specs.declared.session.Phase.{Phase}
use Rattle.ra_model.specs.declared.fault.EndFault.{EndFault}
use Rattle.ra_model.specs.declared.fault.EndFault.TheVariants.{Ended, Stale, NoLink, NotJoining, TooLarge, IdsSpent, TooLong}
use Rattle.ra_model.specs.declared.fault.EventFault.{EventFault}
use Rattle.ra_model.specs.declared.fault.EventFault.TheVariants.{NoSuchLink, TooMany, End as AtEnd}
use Rattle.ra_model.specs.Frames.{body_limit, last_id}
use Rattle.ra_model.specs.FirstFrame.{is_too_long, stated}
use Rattle.ra_model.specs.Endpoints.{Endpoint, sent, shown, is_ended, is_linked, is_joining}
use Rattle.ra_model.specs.Links.{Link, readable, at_number}
use Rattle.ra_model.specs.Worlds.{World, peer}

-- the first of two faults
abbrev pub or_fault : {X : Type 0} → Option X → Option X → Option X
or_fault (Some fault) next = Some fault
or_fault None next = next

abbrev pub fault_if : {X : Type 0} → Bool → X → Option X
fault_if b fault = if b then Some fault else None

abbrev pub if_ended : Phase → Option EndFault
if_ended phase = fault_if (is_ended phase) Ended

abbrev pub if_unlinked : Phase → Option EndFault
if_unlinked phase = fault_if (not (is_linked phase)) NoLink

-- of a body with this many bytes
abbrev pub if_large : ℕ → Option EndFault
if_large len = fault_if (nat_lt body_limit len) (TooLarge len)

-- Calls of an endpoint, by the fields that decide

-- the present link is `current`
abbrev pub begin_fault : Phase → (current epoch : ℕ) → Option EndFault
begin_fault phase current epoch = or_fault (if_ended phase) (fault_if (nat_le epoch current) (Stale current))

abbrev pub finish_fault : Phase → Option EndFault
finish_fault phase = or_fault (if_ended phase) (fault_if (not (is_joining phase)) NotJoining)

-- of a body with this many bytes, where `last` is the last id given
abbrev pub say_fault : Phase → (last len : ℕ) → Option EndFault
say_fault phase last len = or_fault (if_ended phase) (or_fault (if_large len) (fault_if (nat_le last_id last) IdsSpent))

abbrev pub control_fault : Phase → ℕ → Option EndFault
control_fault phase len = or_fault (if_ended phase) (or_fault (if_unlinked phase) (if_large len))

-- of a pause and of a resume
abbrev pub ask_fault : Phase → Option EndFault
ask_fault phase = or_fault (if_ended phase) (if_unlinked phase)

abbrev pub feed_fault : Phase → (current epoch : ℕ) → Option EndFault
feed_fault phase current epoch =
    or_fault (if_ended phase) (or_fault (fault_if (not (epoch == current)) (Stale current)) (if_unlinked phase))

abbrev pub take_fault : Phase → List ℕ → Option EndFault
take_fault phase unread = fault_if (is_linked phase && is_too_long unread) (TooLong (stated unread))

-- The same of an endpoint

abbrev pub begin_refusal : ℕ → Endpoint → Option EndFault
begin_refusal epoch e = begin_fault e.phase e.epoch epoch

abbrev pub finish_refusal : Endpoint → Option EndFault
finish_refusal e = finish_fault e.phase

abbrev pub say_refusal : List ℕ → Endpoint → Option EndFault
say_refusal body e = say_fault e.phase (sent e) (length body)

abbrev pub control_refusal : List ℕ → Endpoint → Option EndFault
control_refusal body e = control_fault e.phase (length body)

abbrev pub ask_refusal : Endpoint → Option EndFault
ask_refusal e = ask_fault e.phase

abbrev pub feed_refusal : ℕ → Endpoint → Option EndFault
feed_refusal epoch e = feed_fault e.phase e.epoch epoch

abbrev pub take_refusal : Endpoint → Option EndFault
take_refusal e = take_fault e.phase e.unread

abbrev pub leave_refusal : Endpoint → Option EndFault
leave_refusal e = if_ended e.phase

-- Events of a world

abbrev pub at_end : Option EndFault → Option EventFault
at_end fault = option_map (λ f. AtEnd f) fault

-- more bytes are asked for than are there
abbrev pub if_many : Count → ℕ → Option EventFault
if_many All there = None
if_many (Exact n) there = fault_if (nat_lt there n) (TooMany n there)
if_many (Most n) there = None

abbrev pub read_refusal : Side → Count → ℕ → Option Link → Option EventFault
read_refusal side count link None = Some (NoSuchLink link)
read_refusal side count link (Some l) = if_many count (length (readable side l))

unfoldable pub refusal : World → Event → Option EventFault
refusal w LinkMade = None
refusal w (At now) = None
refusal w (Begin side link count) =
    or_fault (read_refusal side count link (at_number w.links link)) (at_end (begin_refusal link (peer side w).endpoint))
refusal w (Finish side) = at_end (finish_refusal (peer side w).endpoint)
refusal w (Say side body) = at_end (say_refusal body (peer side w).endpoint)
refusal w (Control side body) = at_end (control_refusal body (peer side w).endpoint)
refusal w (Pause side) = at_end (ask_refusal (peer side w).endpoint)
refusal w (Resume side) = at_end (ask_refusal (peer side w).endpoint)
refusal w (Leave side) = at_end (leave_refusal (peer side w).endpoint)
refusal w (Write side count) = if_many count (length (shown (peer side w).endpoint))
refusal w (Read side link count) =
    or_fault (read_refusal side count link (at_number w.links link)) (at_end (feed_refusal link (peer side w).endpoint))
refusal w (Take side) = at_end (take_refusal (peer side w).endpoint)
refusal w (Tick side) = None
refusal w (Lose side) = None
refusal w (Cut link) = read_refusal A All link (at_number w.links link)
