-- A link that the server leaves.
use Rattle.std.proofs.Common.{◌≡◌, ℕ, zero, suc, ◌+◌, ◌-◌, ◌<◌, Bool, true, false, Option, Some, None, Result, Ok, Err, List, [], ◌∷◌, ◌++◌, length, map, refl, ap, sym, ◌∙◌, subst, append-nil, arith}
use Rattle.std.specs.Prelude.{slice_set, slice_index_or}
use Rattle.ra_base.specs.declared.event.Side.TheVariants.{B}
use Rattle.ra_base.specs.declared.key.Seat.{Seat}
use Rattle.ra_model.specs.Links.{Link, new_link, read_on}
use Rattle.ra_model.specs.Refusals.{or_fault, fault_if}
use Rattle.ra_hub.specs.Jobs.{seen}
use Rattle.ra_hub.specs.JobLists.{jobs_in}
use Rattle.ra_hub.specs.Keeping.{Stands}
use Rattle.ra_link_core.specs.LinkRuns.{hub_left}
use Rattle.ra_link_core.specs.Cores.{seat_in}
use Rattle.ra_link_core.specs.declared.phase.Phase.{Phase}
use Rattle.ra_link_core.specs.declared.phase.Phase.TheVariants as phases
use Rattle.ra_grand_runs.specs.declared.effect.GrandEffect.{GrandEffect}
use Rattle.ra_grand_runs.specs.declared.effect.GrandEffect.TheVariants as grand_effects
use Rattle.ra_grand_runs.specs.declared.fault.GrandFault.{GrandFault}
use Rattle.ra_grand.specs.declared.spot.Spot.{Spot}
use Rattle.ra_grand.specs.declared.world.GrandWorld.{GrandWorld}
use Rattle.ra_grand_clients.specs.ClientLinks.{LinkTurns, LinkTurnsAt}
use Rattle.ra_grand_clients.specs.ClientStates.{ClientState}
use Rattle.ra_grand_clients.specs.Crowds.{ClientsStand}
use Rattle.ra_grand_runs.specs.Draws.{draws_after}
use Rattle.ra_grand_runs.specs.GrandClients.{ServerEnd}
use Rattle.ra_grand_runs.specs.GrandEffects.{done}
use Rattle.ra_grand_runs.specs.GrandRefusals.{Refusal, link_over, of_link, if_over}
use Rattle.ra_grand.specs.GrandStates.{StandsForGrand}
use Rattle.ra_grand_runs.specs.GrandViews.{IsCause, Answers}
use Rattle.ra_grand_runs.specs.Grands.{Grand, Found, find_link, on_link, put_link}
use Rattle.ra_grand_server.specs.Pieces.{LeavesAt, left_state}
use Rattle.ra_grand_runs.specs.ServedLinks.{serving_at, left, server_left}
use Rattle.ra_grand_server.specs.ServerStates.{GoesAs}
use Rattle.ra_grand.specs.Servings.{WaitsAt}
use Rattle.ra_grand.specs.Spots.{FoundAt}
use Rattle.ra_grand_runs.proofs.CrowdHolding.{holds_one}
use Rattle.ra_grand_clients.proofs.CrowdLemmas.{turns_at}
use Rattle.ra_grand_runs.proofs.LinkSteps.{follows}
use Rattle.ra_grand_clients.proofs.LinkTurnLemmas.{turned}
use Rattle.ra_grand.proofs.ReceiveSteps.{nothing_put, turned_to}
use Rattle.ra_grand_runs.proofs.ServedHolding.{after_bytes, link_there, left_keeps}
use Rattle.ra_grand.proofs.ServingSteps.{link_of, world_put, exchanged_so, unless_none}
use Rattle.ra_grand_clients.proofs.LinkCounts.{get_less}

-- ---- nothing changes on the link

set_back : {X : Type 0} → (xs : List X) (n : ℕ) (d : X) → slice_set xs n (slice_index_or xs n d) ≡ xs
set_back [] n d = refl
set_back (x ∷ xs) zero d = refl
set_back (x ∷ xs) (suc n) d = ap (λ ys. x ∷ ys) (set_back xs n d)

still : Link → Link
still l = l

still_one : (h : ClientState) (k : ℕ) → LinkTurns k still h h
unfolding still
still_one h k =
    subst (λ (ls : List Link). LinkTurns k still h (record h { links = ls })) (set_back h.links k new_link)
    (turned still (λ bytes l. refl) h k new_link)

still_at : (hs : List ClientState) (n k : ℕ) (d : ClientState) → LinkTurnsAt n k still hs hs
still_at hs n k d =
    subst (λ (xs : List ClientState). LinkTurnsAt n k still hs xs) (set_back hs n d)
    (turns_at k still hs n d (slice_index_or hs n d) (still_one (slice_index_or hs n d) k))

nothing_read : (l : Link) → read_on B 0 l ≡ l
nothing_read l = let e : l.to_b.read + 0 ≡ l.to_b.read = omega arith in ap (λ (n : ℕ). record l { to_b = record { written = l.to_b.written; read = n } }) e

-- ---- the seat in memory

seat_of : (core : Phase) (end : ServerEnd) → GoesAs core end → end.seat ≡ seat_in core
seat_of (phases.Opening opening) end goes = goes.seat
seat_of (phases.Seated seat) end goes = goes
seat_of (phases.Ended seat) end goes = absurd goes
seat_of phases.Over end goes = absurd goes

-- ---- the link is left

left_then : (s new : GrandWorld) (spot : Spot) (w : Grand) (f : Found) → spot.served < length s.server.links → spot.client < length s.clients → StandsForGrand s w → FoundAt spot w f → f.link.server.is_over ≡ false
    → new.moment ≡ s.moment → new.clients ≡ s.clients → LeavesAt spot.served s.moment s.server new.server → StandsForGrand new (server_left f w)
unfolding server_left still
left_then s new spot w f less has stands found going moment kept leaves =
    let link = get_less s.server.links spot.served less in
    let own = link_of s.server spot w f link.0 stands.server found link.1 in
    let gone = leaves link.0 link.1 in
    let v = left w.now (serving_at f.link w) in
    let none : v.out ≡ f.link.server.out ++ [] = sym (append-nil f.link.server.out) in
    let seat : f.link.server.seat ≡ seat_in link.0.core = seat_of link.0.core f.link.server (unless_none link.0.is_over (sym own.end.over ∙ going) own.end.goes) in
    let hub : Stands new.server.hub (hub_left f.link.server.seat w.now w.hub) =
    subst (λ (n : ℕ). Stands new.server.hub (hub_left f.link.server.seat n w.hub)) (sym stands.now)
    (subst (λ (x : Option Seat). Stands new.server.hub (hub_left x s.moment w.hub)) (sym seat) (gone.hub w.hub stands.server.hub)) in
    let drawn : w.drawn ≡ w.drawn + (length f.link.server.drawn - length f.link.server.drawn) = omega arith in
    let client = get_less s.clients spot.client has in
    let holds = holds_one w.clients spot.client f.client stands.holds found.client in
    let l = link_there f.client.key f.client.links spot.link f.link holds.links found.link in
    world_put s new spot link.0 (left_state link.0) [] true v w f stands found own moment gone.links
    (record {
      place = own.place;
      hub = hub;
      draws = ap (λ (n : ℕ). draws_after n) gone.drawn ∙ stands.server.draws ∙ ap (λ (n : ℕ). draws_after n) drawn;
      jobs = ap (λ j. map seen (jobs_in j)) gone.jobs ∙ stands.server.jobs;
      end = record { over = refl; goes = tt {0} };
    })
    (subst (λ (hs : List ClientState). ClientsStand hs (put_link f (after_bytes [] true v f.link w) w).clients) (sym kept)
    (turned_to still spot s s.clients w f (after_bytes [] true v f.link w) (still_at s.clients spot.client spot.link client.0) stands found
    (exchanged_so [] [] true v f.link w none ∙ nothing_put 0 f.link.link ∙ nothing_read f.link.link)))
    (left_keeps f.client.key l.0 f.link w l.1 (follows f.client.key l.0 [] f.link l.1 (record { count = 0; is = refl })))

-- ---- the event

over_by : (b : Bool) (link : ℕ) → or_fault (fault_if b (link_over link)) None ≡ fault_if b (link_over link)
over_by true link = refl
over_by false link = refl

pub over_alone : (link : ℕ) (o : Option Found) → of_link link (λ l. or_fault (if_over link l) None) o ≡ of_link link (if_over link) o
over_alone link None = refl
over_alone link (Some f) = over_by f.link.server.is_over link

abbrev Gone : ℕ → Result GrandEffect GrandFault → GrandWorld → Grand → Option Found → Type 0
Gone link result new w found = Answers result (of_link link (if_over link) found) done (StandsForGrand new (on_link server_left found w)) (StandsForGrand new w)

pub gone_refused : (link : ℕ) (fault : GrandFault) (s : GrandWorld) (w : Grand) → StandsForGrand s w → WaitsAt (Err fault) link w → Gone link (Err fault) s w (find_link link w)
gone_refused link fault s w stands waits = (subst (λ (r : Option Refusal). IsCause fault r) (over_alone link (find_link link w)) (waits (λ l. None)), stands)

pub gone_done : (link : ℕ) (s new : GrandWorld) (spot : Spot) (w : Grand) → spot.served < length s.server.links → spot.client < length s.clients → StandsForGrand s w → WaitsAt (Ok spot) link w
    → new.moment ≡ s.moment → new.clients ≡ s.clients → LeavesAt spot.served s.moment s.server new.server → Gone link (Ok grand_effects.Done) new w (find_link link w)
gone_done link s new spot w less has stands waits moment kept leaves =
    let f = waits.0 in
    subst (λ (o : Option Found). Gone link (Ok grand_effects.Done) new w o) (sym waits.1)
    (ap (λ (b : Bool). fault_if b (link_over link)) waits.3, refl, left_then s new spot w f less has stands waits.2 waits.3 moment kept leaves)
