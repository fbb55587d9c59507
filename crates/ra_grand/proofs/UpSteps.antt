-- An event of a link whose end at the server is not over.
use Rattle.std.proofs.Common.{◌≡◌, ℕ, ◌<◌, Bool, true, false, Option, Some, None, Result, Ok, Err, List, [], length, refl, ap, sym, ◌∙◌, subst}
use Rattle.std.specs.Prelude.{slice_get}
use Rattle.ra_base.specs.declared.event.Count.{Count}
use Rattle.ra_base.specs.declared.event.Side.TheVariants.{B}
use Rattle.ra_model.specs.Links.{amount}
use Rattle.ra_model.specs.Refusals.{or_fault, fault_if}
use Rattle.ra_grand_runs.specs.declared.effect.GrandEffect.{GrandEffect}
use Rattle.ra_grand_runs.specs.declared.fault.GrandFault.{GrandFault}
use Rattle.ra_grand_runs.specs.declared.fault.GrandFault.TheVariants as faults
use Rattle.ra_grand.specs.declared.spot.Spot.{Spot}
use Rattle.ra_grand.specs.declared.world.GrandWorld.{GrandWorld}
use Rattle.ra_grand_runs.specs.Fits.{MarkFits, MovesFit}
use Rattle.ra_grand_runs.specs.GrandClients.{GrandLink}
use Rattle.ra_grand_runs.specs.GrandEffects.{moved_by, moved_up}
use Rattle.ra_grand_runs.specs.GrandRefusals.{Refusal, link_over, of_link, if_over, if_unread}
use Rattle.ra_grand_runs.specs.GrandRuns.{bytes_up}
use Rattle.ra_grand.specs.GrandStates.{StandsForGrand}
use Rattle.ra_grand_runs.specs.GrandViews.{IsCause, Answers, effect_of}
use Rattle.ra_grand_runs.specs.Grands.{Grand, Found, find_link, on_link}
use Rattle.ra_grand_runs.specs.Marks.{Mark, whole}
use Rattle.ra_grand_runs.specs.ServedLinks.{serving_at, served, piece_came}
use Rattle.ra_grand.specs.Servings.{WaitsAt, DeliversAt}
use Rattle.ra_grand_server.specs.ServerStates.{ServedState}
use Rattle.ra_grand.specs.Spots.{FoundAt, IsSpot, Chooses}
use Rattle.ra_grand.proofs.GoneSteps.{over_alone}
use Rattle.ra_grand.proofs.ServingSteps.{link_of}
use Rattle.ra_grand_clients.proofs.LinkCounts.{get_less}

-- ---- refusals

abbrev Further : Type 0
Further = GrandLink → Option Refusal

-- the link is not over, so what else may be against the event decides
not_over : (link : ℕ) (further : Further) (f : Found) → f.link.server.is_over ≡ false → or_fault (if_over link f.link) (further f.link) ≡ further f.link
not_over link further f going = ap (λ (b : Bool). or_fault (fault_if b (link_over link)) (further f.link)) going

pub none_found : (link : ℕ) (w : Grand) → find_link link w ≡ None → WaitsAt (Err (faults.NoSuchLink link)) link w
none_found link w none further = ap (λ (o : Option Found). of_link link (λ l. or_fault (if_over link l) (further l)) o) none

pub over_found : (link : ℕ) (w : Grand) (f : Found) → find_link link w ≡ Some f → f.link.server.is_over ≡ true → WaitsAt (Err (faults.Over link)) link w
over_found link w f is over further =
    ap (λ (o : Option Found). of_link link (λ l. or_fault (if_over link l) (further l)) o) is
    ∙ ap (λ (b : Bool). or_fault (fault_if b (link_over link)) (further f.link)) over

-- ---- the link in memory

over_at : (s : GrandWorld) (spot : Spot) (w : Grand) (f : Found) (b : Bool) → StandsForGrand s w → FoundAt spot w f → spot.served < length s.server.links
    → ((link : ServedState) → slice_get s.server.links spot.served ≡ Some link → b ≡ link.is_over) → f.link.server.is_over ≡ b
over_at s spot w f b stands found less tells =
    let link = get_less s.server.links spot.served less in
    (link_of s.server spot w f link.0 stands.server found link.1).end.over ∙ sym (tells link.0 link.1)

pub waits_over : (link : ℕ) (s : GrandWorld) (spot : Spot) (b : Bool) (w : Grand) → spot.served < length s.server.links
    → ((link : ServedState) → slice_get s.server.links spot.served ≡ Some link → b ≡ link.is_over) → b ≡ true
    → StandsForGrand s w → IsSpot (Some spot) w (find_link link w) → WaitsAt (Err (faults.Over link)) link w
waits_over link s spot b w less tells over stands found =
    over_found link w found.0 found.1 (over_at s spot w found.0 b stands found.2 less tells ∙ over)

pub waits_on : (link : ℕ) (s : GrandWorld) (spot : Spot) (b : Bool) (w : Grand) → spot.served < length s.server.links
    → ((link : ServedState) → slice_get s.server.links spot.served ≡ Some link → b ≡ link.is_over) → b ≡ false
    → StandsForGrand s w → IsSpot (Some spot) w (find_link link w) → WaitsAt (Ok spot) link w
waits_on link s spot b w less tells on stands found =
    (found.0, found.1, found.2, over_at s spot w found.0 b stands found.2 less tells ∙ on)

-- ---- bytes that come up

abbrev Up : ℕ → Count → Result GrandEffect GrandFault → GrandWorld → Grand → Option Found → Type 0
Up link count result new w found =
    (mark : Mark) × Answers result (of_link link (λ l. or_fault (if_over link l) (if_unread B count l)) found)
    (moved_up mark (λ f. bytes_up count f.link) found w) (StandsForGrand new (on_link (λ f. piece_came mark (bytes_up count f.link) f) found w) × MovesFit mark (λ f. bytes_up count f.link) found w)
    (StandsForGrand new w)

pub up_refused : (link : ℕ) (count : Count) (fault : GrandFault) (s : GrandWorld) (w : Grand) → StandsForGrand s w → WaitsAt (Err fault) link w → Up link count (Err fault) s w (find_link link w)
up_refused link count fault s w stands waits = (whole, (waits (if_unread B count), stands))

pub up_short : (link : ℕ) (count : Count) (s : GrandWorld) (w : Grand) → StandsForGrand s w → Up link count (Err faults.NoMemory) s w (find_link link w)
up_short link count s w stands = (whole, (tt {0}, stands))

pub up_unread : (link : ℕ) (count : Count) (fault : GrandFault) (s : GrandWorld) (spot : Spot) (w : Grand) → StandsForGrand s w → WaitsAt (Ok spot) link w
    → ((f : Found) → FoundAt spot w f → Chooses (Err fault) B count f.link) → Up link count (Err fault) s w (find_link link w)
up_unread link count fault s spot w stands waits chosen =
    let f = waits.0 in
    let cause : of_link link (λ l. or_fault (if_over link l) (if_unread B count l)) (find_link link w) ≡ if_unread B count f.link =
    ap (λ (o : Option Found). of_link link (λ l. or_fault (if_over link l) (if_unread B count l)) o) waits.1 ∙ not_over link (if_unread B count) f waits.3 in
    (whole, (subst (λ (r : Option Refusal). IsCause fault r) (sym cause) (chosen f waits.2), stands))

pub up_done : (link : ℕ) (count : Count) (bytes : List ℕ) (answer : GrandEffect) (mid new : GrandWorld) (spot : Spot) (w : Grand) → StandsForGrand mid w → WaitsAt (Ok spot) link w
    → ((f : Found) → FoundAt spot w f → Chooses (Ok bytes) B count f.link) → DeliversAt spot (effect_of answer) bytes mid new → Up link count (Ok answer) new w (find_link link w)
up_done link count bytes answer mid new spot w stands waits chosen delivers =
    let f = waits.0 in
    let chose = chosen f waits.2 in
    let d = delivers w f stands waits.2 waits.3 (record { count = amount count _; is = chose.1 }) in
    subst (λ (o : Option Found). Up link count (Ok answer) new w o) (sym waits.1) (
      d.0,
      (
        not_over link (if_unread B count) f waits.3 ∙ chose.0,
        d.1 ∙ ap (λ (b : List ℕ). moved_by d.0 b (served b f.link w)) chose.1,
        (
          subst (λ (b : List ℕ). StandsForGrand new (piece_came d.0 b f w)) chose.1 d.2,
          subst (λ (b : List ℕ). MarkFits d.0 (serving_at f.link w) (served b f.link w)) chose.1 d.3,
        ),
      ),
    )

-- ---- nothing comes

abbrev Idle : ℕ → Result GrandEffect GrandFault → GrandWorld → Grand → Option Found → Type 0
Idle link result new w found =
    (mark : Mark) × Answers result (of_link link (if_over link) found) (moved_up mark (λ f. []) found w) (StandsForGrand new (on_link (piece_came mark []) found w) × MovesFit mark (λ f. []) found w)
    (StandsForGrand new w)

pub idle_refused : (link : ℕ) (fault : GrandFault) (s : GrandWorld) (w : Grand) → StandsForGrand s w → WaitsAt (Err fault) link w → Idle link (Err fault) s w (find_link link w)
idle_refused link fault s w stands waits = (whole, (subst (λ (r : Option Refusal). IsCause fault r) (over_alone link (find_link link w)) (waits (λ l. None)), stands))

pub idle_short : (link : ℕ) (s : GrandWorld) (w : Grand) → StandsForGrand s w → Idle link (Err faults.NoMemory) s w (find_link link w)
idle_short link s w stands = (whole, (tt {0}, stands))

pub idle_done : (link : ℕ) (answer : GrandEffect) (s new : GrandWorld) (spot : Spot) (w : Grand) → StandsForGrand s w → WaitsAt (Ok spot) link w
    → DeliversAt spot (effect_of answer) [] s new → Idle link (Ok answer) new w (find_link link w)
idle_done link answer s new spot w stands waits delivers =
    let f = waits.0 in
    let d = delivers w f stands waits.2 waits.3 (record { count = 0; is = refl }) in
    subst (λ (o : Option Found). Idle link (Ok answer) new w o) (sym waits.1)
    (d.0, (ap (λ (b : Bool). fault_if b (link_over link)) waits.3, d.1, (d.2, d.3)))
