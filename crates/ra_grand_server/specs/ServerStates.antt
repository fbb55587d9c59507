-- What the server's side of a world keeps in memory, and what it stands for.
use Rattle.std.specs.Prelude.{◌≡◌, ◌≢◌, ℕ, ◌+◌, ◌≤◌, Bool, true, false, Option, Some, None, List, [], ◌∷◌, map, length, ⊤}
use Rattle.ra_base.specs.declared.key.Seat.{Seat}
use Rattle.ra_model.specs.Links.{at_number}
use Rattle.ra_hub.specs.declared.jobs.JobList.{JobList}
use Rattle.ra_hub.specs.MemHubs.{MemHub}
use Rattle.ra_hub.specs.JobLists.{jobs_in}
use Rattle.ra_hub.specs.Jobs.{seen}
use Rattle.ra_hub.specs.Keeping.{Stands, seats_of}
use Rattle.ra_opening.specs.Openings.{opened}
use Rattle.ra_opening.specs.Stands.{OpeningState, NeedsFraming}
use Rattle.ra_opening.specs.Stands as openings
use Rattle.ra_link_core.specs.Cores.{seat_in}
use Rattle.ra_link_core.specs.Makes.{owned}
use Rattle.ra_link_core.specs.declared.phase.Phase.{Phase}
use Rattle.ra_link_core.specs.declared.phase.Phase.TheVariants as phases
use Rattle.ra_grand_runs.specs.Draws.{draws_after, own_then}
use Rattle.ra_grand_runs.specs.GrandClients.{ServerEnd, ends_of}
use Rattle.ra_grand_runs.specs.Grands.{Grand, Place}
use Rattle.ra_grand_runs.specs.SetUps.{grounds}

-- whose link it is, and which of that client's links; how far the server's end is, and whether it has ended
pub record ServedState : Type 0 where
  pub client : ℕ
  pub link : ℕ
  pub core : Phase
  pub is_over : Bool

pub record ServerState : Type 0 where
  pub hub : MemHub
  pub drawn : ℕ
  pub jobs : JobList
  pub links : List ServedState

abbrev pub place_of : ServedState → Place
place_of l = record { client = l.client; link = l.link }

-- ---- seats

-- how many links have a seat of this key and epoch
abbrev pub seats_held : List ServedState → Seat → ℕ
seats_held [] seat = 0
seats_held (l ∷ ls) seat = owned (seat_in l.core) seat + seats_held ls seat

-- each of them is one that the hub gave
abbrev pub HoldsSeats : MemHub → List ServedState → Type 0
HoldsSeats hub links = (seat : Seat) → seats_held links seat ≤ seats_of hub seat

-- ---- the server's ends of links

-- the end at this place, of the ends of each client
abbrev pub end_of : ℕ → Option (List ServerEnd) → Option ServerEnd
end_of n None = None
end_of n (Some ends) = at_number ends n

abbrev pub end_at : Place → List (List ServerEnd) → Option ServerEnd
end_at place ends = end_of place.link (at_number ends place.client)

-- an opening goes by the draws that the end made, whatever draws come next
pub record OpensAs (opening : OpeningState) (end : ServerEnd) : Type 0 where
  pub seat : end.seat ≡ None
  pub free : NeedsFraming opening.phase → ⊥
  pub opens : (next : ℕ → List ℕ) → openings.Stands (grounds (own_then end.drawn next)) end.head end.seen end.out next opening []
  pub draws : (next : ℕ → List ℕ) → (opened (grounds (own_then end.drawn next)) end.head end.seen).drawn ≡ length end.drawn

-- an end that is not over is as far as the link in memory
abbrev pub GoesAs : Phase → ServerEnd → Type 0
GoesAs (phases.Opening opening) end = OpensAs opening end
GoesAs (phases.Seated seat) end = end.seat ≡ Some seat
GoesAs (phases.Ended seat) end = ⊥
GoesAs phases.Over end = ⊥

abbrev pub Unless : Bool → Type 0 → Type 0
Unless true P = ⊤
Unless false P = P

pub record IsEndOf (l : ServedState) (end : ServerEnd) : Type 0 where
  pub over : end.is_over ≡ l.is_over
  pub goes : Unless l.is_over (GoesAs l.core end)

abbrev pub EndStands : ServedState → Option ServerEnd → Type 0
EndStands l None = ⊥
EndStands l (Some end) = IsEndOf l end

abbrev pub EndsStand : List ServedState → List (List ServerEnd) → Type 0
EndsStand [] ends = Unit {0}
EndsStand (l ∷ ls) ends = EndStands l (end_at (place_of l) ends) × EndsStand ls ends

-- no other link has this place
abbrev pub IsNoneOf : Place → List Place → Type 0
IsNoneOf place [] = ⊤
IsNoneOf place (other ∷ places) = (place ≢ other) × IsNoneOf place places

abbrev pub AllDiffer : List Place → Type 0
AllDiffer [] = ⊤
AllDiffer (place ∷ places) = IsNoneOf place places × AllDiffer places

-- ---- the whole side

pub record StandsForServer (s : ServerState) (w : Grand) : Type 0 where
  pub hub : Stands s.hub w.hub
  pub draws : draws_after s.drawn ≡ draws_after w.drawn
  pub jobs : map seen (jobs_in s.jobs) ≡ w.jobs
  pub places : map place_of s.links ≡ w.places
  pub apart : AllDiffer w.places
  pub ends : EndsStand s.links (map ends_of w.clients)
