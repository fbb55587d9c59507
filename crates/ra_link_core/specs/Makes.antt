-- What a step of the code makes of a link that tells, and how far it came where memory ran out.
use Rattle.std.specs.Prelude.{◌≡◌, ℕ, ◌+◌, ◌≤◌, ◌<◌, Bool, true, false, Option, Some, None, option_map, List, ◌++◌, ◌⊎◌, length}
use Rattle.ra_base.specs.declared.handshake.Request.{Request}
use Rattle.ra_base.specs.declared.key.Cause.TheVariants.{BadIpc, Disconnected}
use Rattle.ra_base.specs.declared.key.Key.{Key}
use Rattle.ra_base.specs.declared.key.Seat.{Seat}
use Rattle.ra_session.specs.View.{happening_of}
use Rattle.ra_session.specs.declared.values.Happened.{Happened}
use Rattle.ra_keep.specs.Causes.{Rose}
use Rattle.ra_opening.specs.declared.ends.OpeningEnd.{OpeningEnd}
use Rattle.ra_opening.specs.declared.ends.OpeningEnd.TheVariants as opening_ends
use Rattle.ra_opening.specs.Verdicts.{refusal_bytes}
use Rattle.ra_session.specs.SessionRefusals.{ended, stale, no_link, too_long, bad_ipc, ids_spent, bad_message}
use Rattle.ra_session.specs.declared.values.SessionFault.{SessionFault}
use Rattle.ra_session.specs.declared.values.SessionFault.TheVariants as faults
use Rattle.ra_hub.specs.HubCalls.{Closes}
use Rattle.ra_hub.specs.Hubs.{Hub}
use Rattle.ra_hub.specs.HubSeats.{one_if, same_seat}
use Rattle.ra_hub.specs.Jobs.{SeenJob}
use Rattle.ra_hub.specs.declared.fault.HubFault.{HubFault}
use Rattle.ra_hub.specs.declared.fault.HubFault.TheVariants as hub_faults
use Rattle.ra_link_core.specs.HubEvents.{HubEvent, events_done, events_jobs, events_bytes, seats_by, jobs_of}
use Rattle.ra_link_core.specs.LinkRuns.{Serving, End, head_refused, request_refused, refused_by, turned_again, asked}
use Rattle.ra_link_core.specs.declared.ends.CoreEnd.{CoreEnd}
use Rattle.ra_link_core.specs.declared.ends.CoreEnd.TheVariants as ends
use Rattle.ra_link_core.specs.declared.turns.Step.{Step}
use Rattle.ra_link_core.specs.declared.turns.TurnStep.{TurnStep}
use Rattle.ra_link_core.specs.declared.turns.TurnStep.TheVariants.{Again, Waits, Ends}

-- ---- standing

-- what a link goes by: all that it wrote before, the draws that come next, and the draws of the whole link
pub record Base : Type 0 where
  pub before : List ℕ
  pub next : ℕ → List ℕ
  pub draw : ℕ → List ℕ

-- the hub and the jobs are those of the link, and so is what was written before and now
pub record Tells (stands : Hub → Type 0) (jobs : Option (List SeenJob)) (base : Base) (out : List ℕ) (s : Serving) : Type 0 where
  pub hub_stands : stands s.hub
  pub jobs_are : jobs ≡ Some s.jobs
  pub out_is : s.out ≡ base.before ++ out
  pub draws_are : (n : ℕ) → base.next n ≡ base.draw (s.drawn + n)

-- from the one to the other the hub, the jobs and the seat changed by further events, and no draw was taken back
pub record Happens (s t : Serving) : Type 0 where
  pub more : List HubEvent
  pub events : t.events ≡ s.events ++ more
  pub hub : t.hub ≡ events_done more s.hub
  pub jobs : t.jobs ≡ s.jobs ++ events_jobs more s.hub
  pub drawn : s.drawn ≤ t.drawn
  pub seat : t.seat ≡ seats_by more s.hub s.seat

-- and further bytes were written, at least those of the further events
pub record Grows (s t : Serving) : Type 0 where
  pub bytes : List ℕ
  pub out : t.out ≡ s.out ++ bytes
  pub happens : Happens s t
  pub enough : length (events_bytes happens.more s.hub) ≤ length bytes

-- the further bytes are those of the further events
pub record Writes (s t : Serving) : Type 0 where
  pub happens : Happens s t
  pub out : t.out ≡ s.out ++ events_bytes happens.more s.hub

pub record IsGoing (seat : Option Seat) (stands : Hub → Type 0) (jobs : Option (List SeenJob)) (base : Base) (out : List ℕ) (u : Serving) : Type 0 where
  pub tells : Tells stands jobs base out u
  pub seat_is : u.seat ≡ seat
  pub end_is : u.end ≡ None

-- the link has ended so
pub record IsEnded (end : End) (seat : Option Seat) (stands : Hub → Type 0) (jobs : Option (List SeenJob)) (base : Base) (out : List ℕ) (u : Serving) : Type 0 where
  pub tells : Tells stands jobs base out u
  pub seat_is : u.seat ≡ seat
  pub end_is : u.end ≡ Some end

-- all was done up to an admission, which was not made
pub record IsUnkept (seat : Option Seat) (stands : Hub → Type 0) (jobs : Option (List SeenJob)) (base : Base) (out : List ℕ) (s u : Serving) : Type 0 where
  pub part : Serving
  pub tells : Tells stands jobs base out part
  pub seat_is : part.seat ≡ None
  pub none : seat ≡ None
  pub came : Happens s part
  pub comes : Grows part u
  pub request : Request
  pub place : ℕ
  pub chunk : List ℕ
  pub now : ℕ
  pub goes_on : u ≡ asked request place chunk now part

-- a part of what comes from the one to the other was done
pub record IsShort (seat : Option Seat) (stands : Hub → Type 0) (jobs : Option (List SeenJob)) (base : Base) (out : List ℕ) (s u : Serving) : Type 0 where
  pub part : Serving
  pub tells : Tells stands jobs base out part
  pub seat_is : part.seat ≡ seat
  pub came : Happens s part
  pub comes : Grows part u

-- ---- what a step comes to

pub data Outcome : Type 0 where
  goes : Outcome
  over : End → Outcome
  unkept : Outcome
  short : Outcome

abbrev pub outcome_of : Option CoreEnd → Outcome
outcome_of None = goes
outcome_of (Some (ends.BadHead fault)) = over (head_refused fault)
outcome_of (Some (ends.Refused reason)) = over (request_refused reason)
outcome_of (Some (ends.TooLong n)) = over (refused_by (too_long n))
outcome_of (Some (ends.BadIpc fault message)) = over (refused_by (bad_ipc (bad_message fault) message))
outcome_of (Some (ends.Stale current)) = over (refused_by (stale current))
outcome_of (Some ends.NoLink) = over (refused_by no_link)
outcome_of (Some (ends.Ended cause)) = over (refused_by (ended cause))
outcome_of (Some ends.IdsSpent) = over (refused_by ids_spent)
outcome_of (Some ends.KeepFault) = unkept
outcome_of (Some ends.NoMemory) = short

-- from the one link to the other
abbrev pub Makes : Outcome → Option Seat → (Hub → Type 0) → Option (List SeenJob) → Base → List ℕ → Serving → Serving → Type 0
Makes goes seat stands jobs base out s u = IsGoing seat stands jobs base out u
Makes (over end) seat stands jobs base out s u = IsEnded end seat stands jobs base out u
Makes unkept seat stands jobs base out s u = IsUnkept seat stands jobs base out s u
Makes short seat stands jobs base out s u = IsShort seat stands jobs base out s u

-- one more turn is due, of up to n
pub record IsDue (seat : Seat) (stands : Hub → Type 0) (jobs : Option (List SeenJob)) (base : Base) (out : List ℕ) (n now : ℕ) (s u : Serving) : Type 0 where
  pub part : Serving
  pub going : IsGoing (Some seat) stands jobs base out part
  pub came : Happens s part
  pub goes_on : turned_again n seat now (record { after = part; again = true }) ≡ u

abbrev pub Follows : TurnStep → (Hub → Type 0) → Option (List SeenJob) → Base → List ℕ → ℕ → ℕ → Serving → Serving → Type 0
Follows (Again seat) stands jobs base out n now s u = IsDue seat stands jobs base out n now s u
Follows (Waits seat) stands jobs base out n now s u = IsGoing (Some seat) stands jobs base out u
Follows (Ends seat end) stands jobs base out n now s u = Makes (outcome_of (Some end)) seat stands jobs base out s u

-- a link whose session goes on
abbrev pub going_on : Seat → Bool → TurnStep
going_on seat true = Again seat
going_on seat false = Waits seat

-- where a link stands that makes no more turns
abbrev pub step_of : TurnStep → Step
step_of (Again seat) = record { seat = Some seat; end = None }
step_of (Waits seat) = record { seat = Some seat; end = None }
step_of (Ends seat end) = record { seat = seat; end = Some end }

abbrev pub opening_end : OpeningEnd → CoreEnd
opening_end (opening_ends.BadHead fault) = ends.BadHead fault
opening_end (opening_ends.Refused reason) = ends.Refused reason
opening_end (opening_ends.TooLong n) = ends.TooLong n
opening_end opening_ends.Left = ends.Ended Disconnected
opening_end opening_ends.NoMemory = ends.NoMemory

-- ---- faults of the hub

-- What no turn and no attachment answers counts as want of memory.
abbrev pub session_end : SessionFault → CoreEnd
session_end (faults.Ended cause) = ends.Ended cause
session_end (faults.Stale current) = ends.Stale current
session_end faults.NoLink = ends.NoLink
session_end (faults.TooLong n) = ends.TooLong n
session_end (faults.BadIpc fault message) = ends.BadIpc fault message
session_end (faults.TooLarge len) = ends.NoMemory
session_end faults.IdsSpent = ends.IdsSpent
session_end (faults.NoSuchCall id) = ends.NoMemory
session_end faults.WrongKind = ends.NoMemory
session_end faults.NoMemory = ends.NoMemory

abbrev pub hub_end : HubFault → CoreEnd
hub_end (hub_faults.Refused reason) = ends.NoMemory
hub_end hub_faults.NoSession = ends.NoMemory
hub_end (hub_faults.Session fault) = session_end fault
hub_end hub_faults.KeepFault = ends.NoMemory
hub_end hub_faults.NoMemory = ends.NoMemory

-- a session that heard a bad message is closed
abbrev pub RefusesTurn : CoreEnd → Seat → ℕ → (Hub → Type 0) → (Hub → Type 0) → TurnStep → Type 0
RefusesTurn (ends.BadIpc fault message) seat now old new result =
    (result ≡ Ends None (ends.BadIpc fault message)) × ((h : Hub) → old h → Closes h seat BadIpc now new)
RefusesTurn (ends.BadHead fault) seat now old new result = (result ≡ Ends (Some seat) (ends.BadHead fault)) × ((h : Hub) → old h → new h)
RefusesTurn (ends.Refused reason) seat now old new result = (result ≡ Ends (Some seat) (ends.Refused reason)) × ((h : Hub) → old h → new h)
RefusesTurn (ends.TooLong n) seat now old new result = (result ≡ Ends (Some seat) (ends.TooLong n)) × ((h : Hub) → old h → new h)
RefusesTurn (ends.Stale current) seat now old new result = (result ≡ Ends (Some seat) (ends.Stale current)) × ((h : Hub) → old h → new h)
RefusesTurn ends.NoLink seat now old new result = (result ≡ Ends (Some seat) ends.NoLink) × ((h : Hub) → old h → new h)
RefusesTurn (ends.Ended cause) seat now old new result = (result ≡ Ends (Some seat) (ends.Ended cause)) × ((h : Hub) → old h → new h)
RefusesTurn ends.IdsSpent seat now old new result = (result ≡ Ends (Some seat) ends.IdsSpent) × ((h : Hub) → old h → new h)
RefusesTurn ends.KeepFault seat now old new result = (result ≡ Ends (Some seat) ends.KeepFault) × ((h : Hub) → old h → new h)
RefusesTurn ends.NoMemory seat now old new result = (result ≡ Ends (Some seat) ends.NoMemory) × ((h : Hub) → old h → new h)

-- the work of what happened becomes a job, where the jobs are told
abbrev pub with_work : Key → Option Happened → Option (List SeenJob) → Option (List SeenJob)
with_work key happened jobs = option_map (λ list. list ++ jobs_of key (option_map happening_of happened)) jobs

-- a link that goes on has a seat
abbrev pub IsSeatedIn : Option Seat → Option CoreEnd → Type 0
IsSeatedIn (Some seat) end = Unit {0}
IsSeatedIn None (Some end) = Unit {0}
IsSeatedIn None None = ⊥

abbrev pub IsSeated : Step → Type 0
IsSeated step = IsSeatedIn step.seat step.end

-- a link without a seat that has ended
abbrev pub over_by : CoreEnd → Step
over_by end = record { seat = None; end = Some end }

-- A request that is refused was answered so, or memory ran out. What no request is answered counts as want of memory.
abbrev pub RefusesRequest : HubFault → Step → (old new : List ℕ) → Type 0
RefusesRequest (hub_faults.Refused reason) step old new =
    ((step ≡ over_by (ends.Refused reason)) × (new ≡ old ++ refusal_bytes reason)) ⊎ ((step ≡ over_by ends.NoMemory) × (new ≡ old))
RefusesRequest hub_faults.NoSession step old new = (step ≡ over_by ends.NoMemory) × (new ≡ old)
RefusesRequest (hub_faults.Session fault) step old new = (step ≡ over_by ends.NoMemory) × (new ≡ old)
RefusesRequest hub_faults.KeepFault step old new = (step ≡ over_by ends.KeepFault) × (new ≡ old)
RefusesRequest hub_faults.NoMemory step old new = (step ≡ over_by ends.NoMemory) × (new ≡ old)

-- ---- records that were not kept

-- the end is that a record was not kept
abbrev pub OnUnkept : Option CoreEnd → Type 0 → Type 0
OnUnkept None P = Unit {0}
OnUnkept (Some (ends.BadHead fault)) P = Unit {0}
OnUnkept (Some (ends.Refused reason)) P = Unit {0}
OnUnkept (Some (ends.TooLong n)) P = Unit {0}
OnUnkept (Some (ends.BadIpc fault message)) P = Unit {0}
OnUnkept (Some (ends.Stale current)) P = Unit {0}
OnUnkept (Some ends.NoLink) P = Unit {0}
OnUnkept (Some (ends.Ended cause)) P = Unit {0}
OnUnkept (Some ends.IdsSpent) P = Unit {0}
OnUnkept (Some ends.KeepFault) P = P
OnUnkept (Some ends.NoMemory) P = Unit {0}

abbrev pub NotUnkept : Option CoreEnd → Type 0
NotUnkept end = OnUnkept end ⊥

-- the count of the keeper's faults never falls, and KeepFault comes only where it rose
pub record HasEndCause (before now : ℕ) (end : Option CoreEnd) : Type 0 where
  pub later : before ≤ now
  pub failed : OnUnkept end (Rose before now)

-- ---- seats

-- how many seats equal to another this is
abbrev pub owned : Option Seat → Seat → ℕ
owned None other = 0
owned (Some seat) other = one_if (same_seat other seat)

-- the seats that others have stay
abbrev pub Balance : (mine : Option Seat) → (seats : Seat → ℕ) → (mine_after : Option Seat) → (seats_after : Seat → ℕ) → Type 0
Balance mine seats mine_after seats_after = (other : Seat) → seats_after other + owned mine other ≡ seats other + owned mine_after other

-- the seat is one of the hub
abbrev pub Holds : (Seat → ℕ) → Option Seat → Type 0
Holds seats None = Unit {0}
Holds seats (Some seat) = 0 < seats seat

abbrev pub seat_after : TurnStep → Option Seat
seat_after (Again seat) = Some seat
seat_after (Waits seat) = Some seat
seat_after (Ends seat end) = seat
