-- What a piece makes of a link in memory, and of what all links of the server share.
use Rattle.std.specs.Prelude.{◌≡◌, ℕ, ◌+◌, ◌-◌, Bool, true, false, Some, List, ◌++◌, length, map, slice_get, slice_set}
use Rattle.ra_hub.specs.declared.jobs.JobList.{JobList}
use Rattle.ra_hub.specs.MemHubs.{MemHub}
use Rattle.ra_hub.specs.Hubs.{Hub}
use Rattle.ra_hub.specs.JobLists.{jobs_in}
use Rattle.ra_hub.specs.Jobs.{seen}
use Rattle.ra_hub.specs.Keeping.{Stands}
use Rattle.ra_link_core.specs.LinkRuns.{Serving, hub_left}
use Rattle.ra_link_core.specs.Makes.{Happens, Outcome, goes, over, unkept, short}
use Rattle.ra_link_core.specs.Cores.{seat_in}
use Rattle.ra_link_core.specs.declared.phase.Phase.{Phase}
use Rattle.ra_link_core.specs.declared.phase.Phase.TheVariants as phases
use Rattle.ra_opening.specs.Stands.{new_opening}
use Rattle.ra_grand_runs.specs.Draws.{draws_after}
use Rattle.ra_grand_runs.specs.Fits.{MarkFits}
use Rattle.ra_grand_runs.specs.GrandClients.{GrandLink}
use Rattle.ra_grand_runs.specs.GrandEffects.{moved_by}
use Rattle.ra_grand_runs.specs.GrandViews.{moved_to}
use Rattle.ra_grand_runs.specs.Grands.{Grand}
use Rattle.ra_grand_runs.specs.Marks.{Mark}
use Rattle.ra_grand_runs.specs.ServedLinks.{draw_at, serving_at, served, end_after, came_at, Continues}
use Rattle.ra_grand_server.specs.ServerStates.{ServerState, ServedState, IsEndOf, GoesAs, Unless}

-- ---- a piece

-- the hub, the draws and the jobs of a world
pub record Shares (hub : MemHub) (drawn : ℕ) (jobs : JobList) (w : Grand) : Type 0 where
  pub hub_stands : Stands hub w.hub
  pub draws : draws_after drawn ≡ draws_after w.drawn
  pub jobs_are : map seen (jobs_in jobs) ≡ w.jobs

-- the hub, the draws and the jobs are those of this served link, and this was written for it
pub record Serves (hub : MemHub) (drawn : ℕ) (jobs : JobList) (out : List ℕ) (l : GrandLink) (w : Grand) (v : Serving) : Type 0 where
  pub hub_stands : Stands hub v.hub
  pub draws : draws_after drawn ≡ draws_after (w.drawn + (v.drawn - length l.server.drawn))
  pub jobs_are : map seen (jobs_in jobs) ≡ v.jobs
  pub written : v.out ≡ l.server.out ++ out

abbrev pub is_end : Outcome → Bool
is_end goes = false
is_end (over end) = true
is_end unkept = true
is_end short = true

-- the piece was taken so far, and the link is over where it says so
pub record TookPiece (mark : Mark) (outcome : Outcome) (bytes : List ℕ) (core : Phase) (hub : MemHub) (drawn : ℕ) (jobs : JobList) (out : List ℕ) (l : GrandLink) (w : Grand) : Type 0 where
  pub serves : Serves hub drawn jobs out l w (came_at mark bytes l w).link
  pub seat : (came_at mark bytes l w).link.seat ≡ seat_in core
  pub over : (came_at mark bytes l w).is_over ≡ is_end outcome
  pub moved : moved_by mark bytes (served bytes l w) ≡ moved_to bytes outcome
  pub goes : Unless (is_end outcome) (GoesAs core (end_after bytes (draw_at l w) false (came_at mark bytes l w).link l.server))
  pub whole : Happens (serving_at l w) (served bytes l w)
  pub fits : MarkFits mark (serving_at l w) (served bytes l w)

-- what a piece makes of a link in memory
abbrev pub Takes : ServedState → Outcome → List ℕ → ℕ → Phase → MemHub → ℕ → JobList → MemHub → ℕ → JobList → List ℕ → Type 0
Takes link outcome bytes now core hub drawn jobs hub_after drawn_after jobs_after out =
    (w : Grand) (l : GrandLink) → w.now ≡ now → Shares hub drawn jobs w → IsEndOf link l.server → Continues bytes l
    → (mark : Mark) × TookPiece mark outcome bytes core hub_after drawn_after jobs_after out l w

-- the link at this place took a piece
abbrev pub PieceAt : ℕ → Outcome → List ℕ → ℕ → List ℕ → ServerState → ServerState → Type 0
PieceAt n outcome bytes now out old new =
    (link : ServedState) → slice_get old.links n ≡ Some link
    → (core : Phase) × (new.links ≡ slice_set old.links n (record link { core = core }))
    × Takes link outcome bytes now core old.hub old.drawn old.jobs new.hub new.drawn new.jobs out

-- ---- a link that is left

-- it has no seat, and is over
abbrev pub left_state : ServedState → ServedState
left_state link = record link { core = phases.Opening new_opening; is_over = true }

-- the link at this place is left
pub record LeftAt (link : ServedState) (n now : ℕ) (old new : ServerState) : Type 0 where
  pub links : new.links ≡ slice_set old.links n (left_state link)
  pub drawn : new.drawn ≡ old.drawn
  pub jobs : new.jobs ≡ old.jobs
  pub hub : (h : Hub) → Stands old.hub h → Stands new.hub (hub_left (seat_in link.core) now h)

abbrev pub LeavesAt : ℕ → ℕ → ServerState → ServerState → Type 0
LeavesAt n now old new = (link : ServedState) → slice_get old.links n ≡ Some link → LeftAt link n now old new
