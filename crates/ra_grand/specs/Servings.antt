-- Bytes that come to the server's end of a link, in a world in memory.
use Rattle.std.specs.Prelude.{◌≡◌, ℕ, false, Option, Some, Result, Ok, Err, List, length, slice_get, slice_set}
use Rattle.ra_model.specs.Refusals.{or_fault}
use Rattle.ra_link_core.specs.Makes.{Outcome, short}
use Rattle.ra_link_core.specs.declared.phase.Phase.{Phase}
use Rattle.ra_grand_runs.specs.declared.fault.GrandFault.{GrandFault}
use Rattle.ra_grand.specs.declared.spot.Spot.{Spot}
use Rattle.ra_grand.specs.declared.world.GrandWorld.{GrandWorld}
use Rattle.ra_grand_clients.specs.Crowds.{ClientsStand}
use Rattle.ra_grand_runs.specs.Fits.{MarkFits}
use Rattle.ra_grand_runs.specs.GrandClients.{GrandLink}
use Rattle.ra_grand_runs.specs.GrandEffects.{Effect, moved_by}
use Rattle.ra_grand_runs.specs.GrandRefusals.{Refusal, of_link, if_over}
use Rattle.ra_grand_runs.specs.Grands.{Grand, Found, find_link, put_link}
use Rattle.ra_grand.specs.GrandStates.{StandsForGrand}
use Rattle.ra_grand_runs.specs.GrandViews.{IsCause}
use Rattle.ra_grand_runs.specs.Marks.{Mark}
use Rattle.ra_grand_runs.specs.ServedLinks.{Continues, serving_at, served, piece_came, IsNext}
use Rattle.ra_grand_server.specs.Pieces.{TookPiece}
use Rattle.ra_grand_clients.specs.ClientLinks.{exchanged}
use Rattle.ra_grand_server.specs.ServerStates.{ServedState, IsEndOf}
use Rattle.ra_grand.specs.Spots.{FoundAt}

-- ---- a link that waits for bytes

-- it was found, and its end at the server is not over; or that is the cause, whatever may be against the event beside it
abbrev pub WaitsAt : Result Spot GrandFault → ℕ → Grand → Type 0
WaitsAt (Ok spot) link w = (f : Found) × (find_link link w ≡ Some f) × FoundAt spot w f × (f.link.server.is_over ≡ false)
WaitsAt (Err fault) link w = (further : GrandLink → Option Refusal) → IsCause fault (of_link link (λ l. or_fault (if_over link l) (further l)) (find_link link w))

-- ---- bytes

-- where what it wrote found no memory on the link, it ran out there
abbrev pub outcome_after : {X E : Type 0} → Result X E → Outcome → Outcome
outcome_after (Ok x) outcome = outcome
outcome_after (Err e) outcome = short

-- The server's end took these bytes so far as the mark tells, and what it wrote was put on the link. It is not left yet.
pub record Received (mark : Mark) (outcome : Outcome) (bytes : List ℕ) (core : Phase) (new : GrandWorld) (w : Grand) (f : Found) : Type 0 where
  pub out : List ℕ
  pub took : TookPiece mark outcome bytes core new.server.hub new.server.drawn new.server.jobs out f.link w
  pub clients : (l : GrandLink) → l.link ≡ exchanged (length bytes) out f.link.link → ClientsStand new.clients (put_link f l w).clients

abbrev pub ReceivesAt : Spot → Outcome → List ℕ → GrandWorld → GrandWorld → Type 0
ReceivesAt spot outcome bytes old new =
    (link : ServedState) → slice_get old.server.links spot.served ≡ Some link
    → (core : Phase) × (new.server.links ≡ slice_set old.server.links spot.served (record link { core = core }))
    × ((w : Grand) (f : Found) → StandsForGrand old w → FoundAt spot w f → IsEndOf link f.link.server → Continues bytes f.link
    → (mark : Mark) × Received mark outcome bytes core new w f)

-- a piece came, and the effect is what it made
abbrev pub DeliversAt : Spot → Effect → List ℕ → GrandWorld → GrandWorld → Type 0
DeliversAt spot effect bytes old new =
    (w : Grand) (f : Found) → StandsForGrand old w → FoundAt spot w f → f.link.server.is_over ≡ false → IsNext bytes f.link
    → (mark : Mark) × (effect ≡ moved_by mark bytes (served bytes f.link w)) × StandsForGrand new (piece_came mark bytes f w)
    × MarkFits mark (serving_at f.link w) (served bytes f.link w)
