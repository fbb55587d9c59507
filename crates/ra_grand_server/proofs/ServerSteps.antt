-- A link of the server at its place: a piece comes to it, or it is left.
use Rattle.std.proofs.Common.{◌≡◌, ℕ, zero, suc, Option, Some, List, [], ◌∷◌, refl, ap, ◌∙◌, subst}
use Rattle.std.specs.Prelude.{slice_get, slice_set, slice_index_or}
use Rattle.ra_hub.specs.Hubs.{Hub}
use Rattle.ra_hub.specs.Keeping.{Stands}
use Rattle.ra_hub.specs.declared.jobs.JobList.{JobList}
use Rattle.ra_hub.specs.MemHubs.{MemHub}
use Rattle.ra_link_core.specs.Cores.{seat_in}
use Rattle.ra_link_core.specs.LinkRuns.{hub_left}
use Rattle.ra_link_core.specs.Makes.{Outcome}
use Rattle.ra_grand_server.specs.Pieces.{Takes, PieceAt, LeavesAt, left_state}
use Rattle.ra_grand_server.specs.ServerStates.{ServerState, ServedState}

index_is : (ls : List ServedState) (n : ℕ) (d l : ServedState) → slice_get ls n ≡ Some l → slice_index_or ls n d ≡ l
index_is [] n d l is = absurd cc
index_is (x ∷ ls) zero d l is = there_is is
  where
    there_is : {x y : ServedState} → ◌≡◌ {A = Option ServedState} (Some x) (Some y) → x ≡ y
    there_is e = cc
index_is (x ∷ ls) (suc n) d l is = index_is ls n d l is

pub over_at : (ls : List ServedState) (n : ℕ) (d : ServedState) → d ≡ slice_index_or ls n d → (link : ServedState) → slice_get ls n ≡ Some link → d.is_over ≡ link.is_over
over_at ls n d is link there = ap (λ (x : ServedState). x.is_over) (is ∙ index_is ls n d link there)

abbrev pub server_of : MemHub → ℕ → JobList → List ServedState → ServerState
server_of hub drawn jobs links = record { hub = hub; drawn = drawn; jobs = jobs; links = links }

pub leaves_at : (hub hub' : MemHub) (drawn : ℕ) (jobs : JobList) (ls : List ServedState) (n now : ℕ) (d l : ServedState) → l ≡ left_state (slice_index_or ls n d)
    → ((h : Hub) → Stands hub h → Stands hub' (hub_left (seat_in (slice_index_or ls n d).core) now h))
    → LeavesAt n now (server_of hub drawn jobs ls) (server_of hub' drawn jobs (slice_set ls n l))
leaves_at hub hub' drawn jobs ls n now d l left made = λ link is.
    let at = index_is ls n d link is in
    record {
      links = ap (λ (x : ServedState). slice_set ls n x) (left ∙ ap (λ (x : ServedState). left_state x) at);
      drawn = refl;
      jobs = refl;
      hub = subst (λ (x : ServedState). (h : Hub) → Stands hub h → Stands hub' (hub_left (seat_in x.core) now h)) at made;
    }

pub piece_at : (hub hub' : MemHub) (drawn drawn' : ℕ) (jobs jobs' : JobList) (ls : List ServedState) (n now : ℕ) (d l : ServedState) (outcome : Outcome) (bytes out : List ℕ)
    → l ≡ record (slice_index_or ls n d) { core = l.core }
    → Takes (slice_index_or ls n d) outcome bytes now l.core hub drawn jobs hub' drawn' jobs' out
    → PieceAt n outcome bytes now out (server_of hub drawn jobs ls) (server_of hub' drawn' jobs' (slice_set ls n l))
piece_at hub hub' drawn drawn' jobs jobs' ls n now d l outcome bytes out same takes = λ link is.
    let at = index_is ls n d link is in (
      l.core,
      ap (λ (x : ServedState). slice_set ls n x) (same ∙ ap (λ (x : ServedState). record x { core = l.core }) at),
      subst (λ (x : ServedState). Takes x outcome bytes now l.core hub drawn jobs hub' drawn' jobs' out) at takes,
    )
