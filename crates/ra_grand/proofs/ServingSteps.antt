-- Bytes that came to the server's end of a link, in a world in memory.
use Rattle.std.proofs.Common.{◌≡◌, ℕ, zero, suc, ◌+◌, ◌-◌, Bool, true, false, Option, Some, List, [], ◌∷◌, ◌++◌, if◌then◌else◌, length, drop, map, refl, ap, sym, ◌∙◌, subst}
use Rattle.std.specs.Prelude.{slice_get, slice_set}
use Rattle.std.proofs.lemmas.List.{drop_at}
use Rattle.ra_base.specs.declared.event.Side.TheVariants.{A, B}
use Rattle.ra_base.specs.declared.key.Seat.{Seat}
use Rattle.ra_model.specs.Links.{at_number, put_number, read_on, written_to}
use Rattle.ra_hub.specs.Jobs.{seen}
use Rattle.ra_hub.specs.JobLists.{jobs_in}
use Rattle.ra_hub.specs.Keeping.{Stands}
use Rattle.ra_link_core.specs.LinkRuns.{Serving, hub_left}
use Rattle.ra_link_core.specs.Makes.{Outcome}
use Rattle.ra_link_core.specs.declared.phase.Phase.{Phase}
use Rattle.ra_grand.specs.declared.spot.Spot.{Spot}
use Rattle.ra_grand.specs.declared.world.GrandWorld.{GrandWorld}
use Rattle.ra_grand_clients.specs.ClientStates.{ClientState}
use Rattle.ra_grand_clients.specs.Crowds.{ClientsStand}
use Rattle.ra_grand_runs.specs.Draws.{draws_after}
use Rattle.ra_grand_runs.specs.GrandClients.{GrandLink, ServerEnd, Client, ends_of}
use Rattle.ra_grand_runs.specs.Grands.{Grand, Place, Found, with_link, put_link}
use Rattle.ra_grand.specs.GrandStates.{StandsForGrand}
use Rattle.ra_grand_runs.specs.Marks.{Mark}
use Rattle.ra_grand_runs.specs.ServedLinks.{Continues, came_at, draw_at, left, settled, end_after, put_served, piece_came, IsNext}
use Rattle.ra_grand_server.specs.Pieces.{LeavesAt, left_state, is_end}
use Rattle.ra_grand_clients.specs.ClientLinks.{exchanged}
use Rattle.ra_grand_runs.specs.Reached.{ClientsHold}
use Rattle.ra_grand_server.specs.ServerStates.{ServerState, ServedState, StandsForServer, IsEndOf, EndStands, EndsStand, Unless, AllDiffer, place_of, end_of, end_at}
use Rattle.ra_grand.specs.Servings.{Received}
use Rattle.ra_grand.specs.Spots.{FoundAt}
use Rattle.ra_grand_runs.proofs.CrowdHolding.{holds_one, holds_set}
use Rattle.ra_grand_runs.proofs.LinkSteps.{continues, follows}
use Rattle.ra_grand_runs.proofs.NumberLemmas.{get_same, get_map}
use Rattle.ra_grand_server.proofs.PlaceLemmas.{ends_put, places_put, end_there, end_put, end_kept}
use Rattle.ra_grand_runs.proofs.ServedHolding.{KeepsLink, after_bytes, client_keeps, link_there, piece_keeps}

there_is : {X : Type 0} → {x y : X} → ◌≡◌ {A = Option X} (Some x) (Some y) → x ≡ y
there_is e = cc

-- ---- a link that was found

client_at : (spot : Spot) (w : Grand) (f : Found) → FoundAt spot w f → at_number w.clients f.place.client ≡ Some f.client
client_at spot w f found = ap (λ (n : ℕ). at_number w.clients n) found.client_number ∙ found.client

link_at : (spot : Spot) (w : Grand) (f : Found) → FoundAt spot w f → at_number f.client.links f.place.link ≡ Some f.link
link_at spot w f found = ap (λ (n : ℕ). at_number f.client.links n) found.link_number ∙ found.link

-- the link in memory
pub record IsLinkOf (spot : Spot) (ls : List ServedState) (f : Found) (link : ServedState) : Type 0 where
  pub there : slice_get ls spot.served ≡ Some link
  pub place : place_of link ≡ f.place
  pub end : IsEndOf link f.link.server

pub link_of : (s : ServerState) (spot : Spot) (w : Grand) (f : Found) (link : ServedState) → StandsForServer s w → FoundAt spot w f → slice_get s.links spot.served ≡ Some link
    → IsLinkOf spot s.links f link
link_of s spot w f link stands found is =
    let seen_at : slice_get w.places spot.served ≡ Some (place_of link) = ap (λ (ps : List Place). slice_get ps spot.served) (sym stands.places) ∙ get_map place_of s.links spot.served link is in
    let place : place_of link ≡ f.place = there_is (sym seen_at ∙ found.place) in
    let ends = map ends_of w.clients in
    let server : GrandLink → ServerEnd = λ x. x.server in
    let here : end_at (place_of link) ends ≡ Some f.link.server =
    ap (λ (p : Place). end_at p ends) place
    ∙ ap (λ (n : ℕ). end_of f.place.link (at_number ends n)) found.client_number
    ∙ ap (λ (o : Option (List ServerEnd)). end_of f.place.link o) (get_map ends_of w.clients spot.client f.client found.client)
    ∙ ap (λ (n : ℕ). at_number (ends_of f.client) n) found.link_number
    ∙ get_map server f.client.links spot.link f.link found.link in
    record {
      there = is;
      place = place;
      end = subst (λ (o : Option ServerEnd). EndStands link o) here (end_there s.links spot.served link ends is stands.ends);
    }

-- ---- the whole world with that link changed

pub put_is : (spot : Spot) (w : Grand) (f : Found) (l : GrandLink) → FoundAt spot w f → (put_link f l w).clients ≡ slice_set w.clients spot.client (with_link (suc spot.link) l f.client)
put_is spot w f l found =
    ap (λ (n : ℕ). put_number w.clients n (with_link f.place.link l f.client)) found.client_number
    ∙ ap (λ (n : ℕ). slice_set w.clients spot.client (with_link n l f.client)) found.link_number

-- the server's side stands for this
pub record ServerIs (s : ServerState) (link : ServedState) (bytes : List ℕ) (is_over : Bool) (v : Serving) (w : Grand) (f : Found) : Type 0 where
  pub place : place_of link ≡ f.place
  pub hub : Stands s.hub v.hub
  pub draws : draws_after s.drawn ≡ draws_after (w.drawn + (v.drawn - length f.link.server.drawn))
  pub jobs : map seen (jobs_in s.jobs) ≡ v.jobs
  pub end : IsEndOf link (end_after bytes (draw_at f.link w) is_over v f.link.server)

server_put : (old new : ServerState) (spot : Spot) (link after : ServedState) (bytes : List ℕ) (is_over : Bool) (v : Serving) (w : Grand) (f : Found)
    → StandsForServer old w → FoundAt spot w f → IsLinkOf spot old.links f link → new.links ≡ slice_set old.links spot.served after → ServerIs new after bytes is_over v w f
    → StandsForServer new (put_served bytes is_over v f w)
server_put old new spot link after bytes is_over v w f stands found is links server =
    let l = after_bytes bytes is_over v f.link w in
    let ends = map ends_of w.clients in
    let ends' = map ends_of (put_link f l w).clients in
    let at = client_at spot w f found in
    let there : end_at (place_of link) ends' ≡ Some l.server =
    ap (λ (p : Place). end_at p ends') is.place ∙ end_put w.clients f.client f.link l f.place.client f.place.link at (link_at spot w f found) in
    record {
      hub = server.hub;
      draws = server.draws;
      jobs = server.jobs;
      places = ap (λ (ls : List ServedState). map place_of ls) links ∙ places_put old.links spot.served link after is.there (server.place ∙ sym is.place) ∙ stands.places;
      apart = stands.apart;
      ends = subst (λ (ls : List ServedState). EndsStand ls ends') (sym links)
          (ends_put old.links spot.served link after ends ends' is.there (server.place ∙ sym is.place)
          (subst (λ (ps : List Place). AllDiffer ps) (sym stands.places) stands.apart)
          (λ p ne. end_kept w.clients f.client l f.place.client f.place.link p at (λ e. ne (e ∙ sym is.place)))
          (subst (λ (o : Option ServerEnd). EndStands after o) (sym there) server.end) stands.ends);
    }

pub world_put : (s new : GrandWorld) (spot : Spot) (link after : ServedState) (bytes : List ℕ) (is_over : Bool) (v : Serving) (w : Grand) (f : Found)
    → StandsForGrand s w → FoundAt spot w f → IsLinkOf spot s.server.links f link → new.moment ≡ s.moment → new.server.links ≡ slice_set s.server.links spot.served after
    → ServerIs new.server after bytes is_over v w f → ClientsStand new.clients (put_link f (after_bytes bytes is_over v f.link w) w).clients
    → KeepsLink f.client.key f.link (after_bytes bytes is_over v f.link w) → StandsForGrand new (put_served bytes is_over v f w)
world_put s new spot link after bytes is_over v w f stands found is moment links server clients keeps =
    let l = after_bytes bytes is_over v f.link w in
    let own = client_keeps f.client spot.link f.link l (holds_one w.clients spot.client f.client stands.holds found.client) found.link keeps in
    record {
      now = stands.now ∙ sym moment;
      server = server_put s.server new.server spot link after bytes is_over v w f stands.server found is links server;
      clients = clients;
      holds = subst (λ (cs : List Client). ClientsHold cs) (sym (put_is spot w f l found)) (holds_set w.clients spot.client (with_link (suc spot.link) l f.client) stands.holds own);
    }

-- ---- what was taken

goes_on : (b : Bool) (now : ℕ) (v : Serving) → b ≡ false → (if b then left now v else v) ≡ v
goes_on true now v is = absurd (apart is)
  where
    apart : true ≡ false → ⊥
    apart e = cc
goes_on false now v is = refl

ends_so : (b : Bool) (now : ℕ) (v : Serving) → b ≡ true → (if b then left now v else v) ≡ left now v
ends_so true now v is = refl
ends_so false now v is = absurd (apart is)
  where
    apart : false ≡ true → ⊥
    apart e = cc

unless_any : {P : Type 0} → (b : Bool) → P → Unless b P
unless_any true p = tt {0}
unless_any false p = p

pub unless_none : {P : Type 0} → (b : Bool) → b ≡ false → Unless b P → P
unless_none true is p = absurd (apart is)
  where
    apart : true ≡ false → ⊥
    apart e = cc
unless_none false is p = p

twice_set : {X : Type 0} → (xs : List X) (n : ℕ) (x y : X) → slice_set (slice_set xs n x) n y ≡ slice_set xs n y
twice_set [] n x y = refl
twice_set (z ∷ zs) zero x y = refl
twice_set (z ∷ zs) (suc n) x y = ap (λ ys. z ∷ ys) (twice_set zs n x y)

-- the bytes on the link
pub exchanged_so : (bytes out : List ℕ) (is_over : Bool) (v : Serving) (l : GrandLink) (w : Grand) → v.out ≡ l.server.out ++ out → (after_bytes bytes is_over v l w).link ≡ exchanged (length bytes) out l.link
exchanged_so bytes out is_over v l w is =
    ap (λ (t : List ℕ). written_to A t (read_on B (length bytes) l.link))
    (ap (λ (t : List ℕ). drop (length l.server.out) t) is ∙ drop_at l.server.out out (length l.server.out) refl)

settled_out : (b : Bool) (now : ℕ) (v : Serving) → (if b then left now v else v).out ≡ v.out
settled_out true now v = refl
settled_out false now v = refl

-- the client and its link hold what they held
keeps_of : (s : GrandWorld) (spot : Spot) (w : Grand) (f : Found) (mark : Mark) (bytes out : List ℕ) → StandsForGrand s w → FoundAt spot w f → f.link.server.is_over ≡ false → IsNext bytes f.link
    → (came_at mark bytes f.link w).link.out ≡ f.link.server.out ++ out
    → KeepsLink f.client.key f.link (after_bytes bytes (came_at mark bytes f.link w).is_over (settled w.now (came_at mark bytes f.link w)) f.link w)
keeps_of s spot w f mark bytes out stands found going next is =
    let own = holds_one w.clients spot.client f.client stands.holds found.client in
    let l = link_there f.client.key f.client.links spot.link f.link own.links found.link in
    piece_keeps mark f.client.key l.0 bytes out f.link w l.1 (follows f.client.key l.0 bytes f.link l.1 next) going is

pub continues_at : (s : GrandWorld) (spot : Spot) (w : Grand) (f : Found) (bytes : List ℕ) → StandsForGrand s w → FoundAt spot w f → f.link.server.is_over ≡ false → IsNext bytes f.link
    → Continues bytes f.link
continues_at s spot w f bytes stands found going next =
    let own = holds_one w.clients spot.client f.client stands.holds found.client in
    let l = link_there f.client.key f.client.links spot.link f.link own.links found.link in
    continues f.client.key l.0 bytes f.link own.token l.1 next going

-- a link that goes on
pub goes_then : (s new : GrandWorld) (spot : Spot) (link : ServedState) (core : Phase) (o : Outcome) (mark : Mark) (bytes : List ℕ) (w : Grand) (f : Found) → is_end o ≡ false
    → StandsForGrand s w → FoundAt spot w f → slice_get s.server.links spot.served ≡ Some link → f.link.server.is_over ≡ false → IsNext bytes f.link → new.moment ≡ s.moment
    → new.server.links ≡ slice_set s.server.links spot.served (record link { core = core }) → Received mark o bytes core new w f → StandsForGrand new (piece_came mark bytes f w)
unfolding piece_came
goes_then s new spot link core o mark bytes w f ends stands found is going next moment links received =
    let own = link_of s.server spot w f link stands.server found is in
    let c = came_at mark bytes f.link w in
    let took = received.took in
    let over : c.is_over ≡ false = took.over ∙ ends in
    let v = settled w.now c in
    let e : v ≡ c.link = goes_on c.is_over w.now c.link over in
    let out : c.link.out ≡ f.link.server.out ++ received.out = took.serves.written in
    let same : end_after bytes (draw_at f.link w) c.is_over v f.link.server ≡ end_after bytes (draw_at f.link w) false c.link f.link.server =
    ap (λ (b : Bool). end_after bytes (draw_at f.link w) b v f.link.server) over ∙ ap (λ (x : Serving). end_after bytes (draw_at f.link w) false x f.link.server) e in
    let goes = unless_none (is_end o) ends took.goes in
    world_put s new spot link (record link { core = core }) bytes c.is_over v w f stands found own moment links
    (record {
      place = own.place;
      hub = subst (λ (x : Serving). Stands new.server.hub x.hub) (sym e) took.serves.hub_stands;
      draws = took.serves.draws ∙ ap (λ (x : Serving). draws_after (w.drawn + (x.drawn - length f.link.server.drawn))) (sym e);
      jobs = took.serves.jobs_are ∙ ap (λ (x : Serving). x.jobs) (sym e);
      end = subst (λ (x : ServerEnd). IsEndOf (record link { core = core }) x) (sym same)
          (record { over = sym going ∙ own.end.over; goes = unless_any link.is_over goes });
    })
    (received.clients (after_bytes bytes c.is_over v f.link w) (exchanged_so bytes received.out c.is_over v f.link w (settled_out c.is_over w.now c.link ∙ out)))
    (keeps_of s spot w f mark bytes received.out stands found going next out)

-- a link that is left then
pub ends_then : (s mid new : GrandWorld) (spot : Spot) (link : ServedState) (core : Phase) (o : Outcome) (mark : Mark) (bytes : List ℕ) (w : Grand) (f : Found) → is_end o ≡ true
    → StandsForGrand s w → FoundAt spot w f → slice_get s.server.links spot.served ≡ Some link → f.link.server.is_over ≡ false → IsNext bytes f.link → new.moment ≡ s.moment
    → mid.server.links ≡ slice_set s.server.links spot.served (record link { core = core }) → Received mark o bytes core mid w f
    → LeavesAt spot.served s.moment mid.server new.server → new.clients ≡ mid.clients → StandsForGrand new (piece_came mark bytes f w)
unfolding piece_came
ends_then s mid new spot link core o mark bytes w f ends stands found is going next moment links received leaves kept =
    let own = link_of s.server spot w f link stands.server found is in
    let c = came_at mark bytes f.link w in
    let took = received.took in
    let over : c.is_over ≡ true = took.over ∙ ends in
    let v = settled w.now c in
    let e : v ≡ left w.now c.link = ends_so c.is_over w.now c.link over in
    let out : c.link.out ≡ f.link.server.out ++ received.out = took.serves.written in
    let mine : ServedState = record link { core = core } in
    let there : slice_get mid.server.links spot.served ≡ Some mine = ap (λ (ls : List ServedState). slice_get ls spot.served) links ∙ get_same s.server.links spot.served mine link is in
    let gone = leaves mine there in
    let set : new.server.links ≡ slice_set s.server.links spot.served (left_state mine) =
    gone.links ∙ ap (λ (ls : List ServedState). slice_set ls spot.served (left_state mine)) links ∙ twice_set s.server.links spot.served mine (left_state mine) in
    let hub : Stands new.server.hub (hub_left c.link.seat w.now c.link.hub) =
    subst (λ (n : ℕ). Stands new.server.hub (hub_left c.link.seat n c.link.hub)) (sym stands.now)
    (subst (λ (seat : Option Seat). Stands new.server.hub (hub_left seat s.moment c.link.hub)) (sym took.seat) (gone.hub c.link.hub took.serves.hub_stands)) in
    world_put s new spot link (left_state mine) bytes c.is_over v w f stands found own moment set
    (record {
      place = own.place;
      hub = subst (λ (x : Serving). Stands new.server.hub x.hub) (sym e) hub;
      draws = ap (λ (n : ℕ). draws_after n) gone.drawn ∙ took.serves.draws ∙ ap (λ (x : Serving). draws_after (w.drawn + (x.drawn - length f.link.server.drawn))) (sym e);
      jobs = ap (λ j. map seen (jobs_in j)) gone.jobs ∙ took.serves.jobs_are ∙ ap (λ (x : Serving). x.jobs) (sym e);
      end = record { over = over; goes = tt {0} };
    })
    (subst (λ (hs : List ClientState). ClientsStand hs (put_link f (after_bytes bytes c.is_over v f.link w) w).clients) (sym kept)
    (received.clients (after_bytes bytes c.is_over v f.link w) (exchanged_so bytes received.out c.is_over v f.link w (settled_out c.is_over w.now c.link ∙ out))))
    (keeps_of s spot w f mark bytes received.out stands found going next out)
