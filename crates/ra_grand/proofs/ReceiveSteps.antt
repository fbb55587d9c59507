-- Bytes are taken by the server's end of a link, and what it wrote is put on the link, or finds no memory there.
use Rattle.std.proofs.Common.{◌≡◌, ℕ, ◌+◌, ◌-◌, ◌<◌, Bool, true, false, Result, Ok, Err, OnOk, OnErr, List, [], ◌++◌, if◌then◌else◌, length, take, drop, refl, ap, sym, ◌∙◌, subst, append-nil, arith}
use Rattle.std.proofs.lemmas.List.{take_all, drop_all, length-append}
use Rattle.ra_base.specs.declared.event.Side.TheVariants.{B}
use Rattle.ra_model.specs.Links.{Link, read_on}
use Rattle.ra_hub.specs.Hubs.{Hub}
use Rattle.ra_hub.specs.Keeping.{Stands}
use Rattle.ra_hub.specs.declared.jobs.JobList.{JobList}
use Rattle.ra_hub.specs.MemHubs.{MemHub}
use Rattle.ra_link_core.specs.HubEvents.{HubEvent, events_done, events_jobs, events_bytes, seats_by}
use Rattle.ra_link_core.specs.LinkRuns.{Serving}
use Rattle.ra_link_core.specs.Makes.{Happens, Outcome, short}
use Rattle.ra_link_core.specs.declared.phase.Phase.{Phase}
use Rattle.ra_grand.specs.declared.spot.Spot.{Spot}
use Rattle.ra_grand.specs.declared.world.GrandWorld.{GrandWorld}
use Rattle.ra_grand_clients.specs.ClientLinks.{LinkTurnsAt, exchanged}
use Rattle.ra_grand_clients.specs.ClientStates.{ClientState}
use Rattle.ra_grand_clients.specs.Crowds.{ClientsStand}
use Rattle.ra_grand_runs.specs.Draws.{draws_after}
use Rattle.ra_grand_runs.specs.Fits.{IsPart, MarkFits, bytes_behind}
use Rattle.ra_grand_runs.specs.GrandClients.{GrandLink, Client}
use Rattle.ra_grand_runs.specs.GrandEffects.{broke, moved_by}
use Rattle.ra_grand.specs.GrandStates.{StandsForGrand}
use Rattle.ra_grand_runs.specs.GrandViews.{moved_to}
use Rattle.ra_grand_runs.specs.Grands.{Grand, Found, put_link}
use Rattle.ra_grand_runs.specs.Marks.{Mark, whole, short as short_mark, unticked}
use Rattle.ra_grand_server.specs.Pieces.{Shares, TookPiece, PieceAt, LeavesAt, is_end}
use Rattle.ra_grand_runs.specs.ServedLinks.{came, came_by, serving_at, served}
use Rattle.ra_grand_server.specs.ServerStates.{ServerState}
use Rattle.ra_grand.specs.Servings.{ReceivesAt, DeliversAt, outcome_after}
use Rattle.ra_grand.specs.Spots.{FoundAt}
use Rattle.ra_grand.proofs.ServingSteps.{put_is, link_of, continues_at, goes_then, ends_then}
use Rattle.ra_grand_clients.proofs.LinkCounts.{get_less}

-- ---- nothing is put on the link

abbrev cut_mark : Mark → Serving → Serving → Mark
cut_mark whole s u = short_mark (u.drawn - s.drawn) (length u.events) 0
cut_mark (short_mark draws calls bytes) s u = short_mark draws calls 0
cut_mark (unticked keys) s u = short_mark (u.drawn - s.drawn) (length u.events) 0

record CutAlike (v cut : Serving) : Type 0 where
  pub seat : cut.seat ≡ v.seat
  pub drawn : cut.drawn ≡ v.drawn
  pub hub : cut.hub ≡ v.hub
  pub jobs : cut.jobs ≡ v.jobs

whole_cut : (s u : Serving) → s.events ≡ [] → Happens s u → CutAlike u (came (u.drawn - s.drawn) (take (length u.events) u.events) 0 s u)
whole_cut s u none happens =
    let front : take (length u.events) u.events ≡ happens.more =
    take_all (length u.events) u.events (omega arith) ∙ happens.events ∙ ap (λ (es : List HubEvent). es ++ happens.more) none in
    record {
      seat = ap (λ (es : List HubEvent). seats_by es s.hub s.seat) front ∙ sym happens.seat;
      drawn = omega (arith, happens.drawn);
      hub = ap (λ (es : List HubEvent). events_done es s.hub) front ∙ sym happens.hub;
      jobs = ap (λ (es : List HubEvent). s.jobs ++ events_jobs es s.hub) front ∙ sym happens.jobs;
    }

cut_alike : (mark : Mark) (s u : Serving) → s.events ≡ [] → Happens s u → CutAlike (came_by mark s u).link (came_by (cut_mark mark s u) s u).link
cut_alike whole s u none happens = whole_cut s u none happens
cut_alike (short_mark draws calls bytes) s u none happens = record { seat = refl; drawn = refl; hub = refl; jobs = refl }
cut_alike (unticked keys) s u none happens = whole_cut s u none happens

cut_out : (mark : Mark) (s u : Serving) → (came_by (cut_mark mark s u) s u).link.out ≡ s.out ++ []
cut_out whole s u = refl
cut_out (short_mark draws calls bytes) s u = refl
cut_out (unticked keys) s u = refl

cut_over : (mark : Mark) (s u : Serving) → (came_by (cut_mark mark s u) s u).is_over ≡ true
cut_over whole s u = refl
cut_over (short_mark draws calls bytes) s u = refl
cut_over (unticked keys) s u = refl

cut_moved : (mark : Mark) (bytes : List ℕ) (s u : Serving) → moved_by (cut_mark mark s u) bytes u ≡ broke bytes
cut_moved whole bytes s u = refl
cut_moved (short_mark draws calls put) bytes s u = refl
cut_moved (unticked keys) bytes s u = refl

-- all calls were made, so nothing is left for them
whole_fits : (s u : Serving) (out : List ℕ) → Happens s u → u.out ≡ s.out ++ out → IsPart (u.drawn - s.drawn) (length u.events) 0 s u
whole_fits s u out happens is =
    let none : drop (length u.events) u.events ≡ [] = drop_all (length u.events) u.events (omega arith) in
    let behind : bytes_behind (length u.events) s u ≡ [] =
    ap (λ (es : List HubEvent). events_bytes es (events_done (take (length u.events) u.events) s.hub)) none in
    record {
      draws_made = omega (arith, happens.drawn);
      calls_made = omega arith;
      bytes_put = omega (arith, ap length behind, ap length is, length-append s.out out);
    }

cut_fits : (mark : Mark) (s u : Serving) (out : List ℕ) → Happens s u → (came_by mark s u).link.out ≡ s.out ++ out → MarkFits mark s u
    → MarkFits (cut_mark mark s u) s u
cut_fits whole s u out happens is fits = whole_fits s u out happens is
cut_fits (short_mark draws calls bytes) s u out happens is fits =
    record { draws_made = fits.draws_made; calls_made = fits.calls_made; bytes_put = omega (arith, fits.bytes_put) }
cut_fits (unticked keys) s u out happens is fits = whole_fits s u out happens is

took_cut : (mark : Mark) (o : Outcome) (bytes : List ℕ) (core : Phase) (hub : MemHub) (drawn : ℕ) (jobs : JobList) (out : List ℕ) (l : GrandLink) (w : Grand)
    → TookPiece mark o bytes core hub drawn jobs out l w → TookPiece (cut_mark mark (serving_at l w) (served bytes l w)) short bytes core hub drawn jobs [] l w
took_cut mark o bytes core hub drawn jobs out l w took =
    let s = serving_at l w in
    let u = served bytes l w in
    let cut = cut_alike mark s u refl took.whole in
    record {
      serves = record {
        hub_stands = subst (λ (h : Hub). Stands hub h) (sym cut.hub) took.serves.hub_stands;
        draws = took.serves.draws ∙ ap (λ (n : ℕ). draws_after (w.drawn + (n - length l.server.drawn))) (sym cut.drawn);
        jobs_are = took.serves.jobs_are ∙ sym cut.jobs;
        written = cut_out mark s u;
      };
      seat = cut.seat ∙ took.seat;
      over = cut_over mark s u;
      moved = cut_moved mark bytes s u;
      goes = tt {0};
      whole = took.whole;
      fits = cut_fits mark s u out took.whole took.serves.written took.fits;
    }

-- ---- the bytes are exchanged

none_more : (b : Bool) (text : List ℕ) → text ++ (if b then [] else []) ≡ text
none_more true text = append-nil text
none_more false text = append-nil text

pub nothing_put : (n : ℕ) (l : Link) → exchanged n [] l ≡ read_on B n l
nothing_put n l =
    ap (λ (t : List ℕ). record (read_on B n l) { to_a = record { written = t; read = l.to_a.read } }) (none_more l.is_cut l.to_a.written)

pub turned_to : (change : Link → Link) (spot : Spot) (s : GrandWorld) (clients : List ClientState) (w : Grand) (f : Found) (l : GrandLink) → LinkTurnsAt spot.client spot.link change s.clients clients
    → StandsForGrand s w → FoundAt spot w f → l.link ≡ change f.link.link → ClientsStand clients (put_link f l w).clients
turned_to change spot s clients w f l turns stands found is =
    subst (λ (cs : List Client). ClientsStand clients cs) (sym (put_is spot w f l found)) (turns w.clients f.client f.link l stands.clients found.client found.link is)

shares_of : (s : GrandWorld) (w : Grand) → StandsForGrand s w → Shares s.server.hub s.server.drawn s.server.jobs w
shares_of s w stands = record { hub_stands = stands.server.hub; draws = stands.server.draws; jobs_are = stands.server.jobs }

receives_put : (s : GrandWorld) (mid : ServerState) (clients : List ClientState) (spot : Spot) (o : Outcome) (bytes out : List ℕ) → PieceAt spot.served o bytes s.moment out s.server mid
    → LinkTurnsAt spot.client spot.link (exchanged (length bytes) out) s.clients clients → ReceivesAt spot o bytes s (record s { server = mid; clients = clients })
receives_put s mid clients spot o bytes out piece turns link is =
    let p = piece link is in (
      p.0,
      p.1,
      λ w f stands found end continues.
          let t = p.2 w f.link stands.now (shares_of s w stands) end continues in (
            t.0,
            record { out = out; took = t.1; clients = λ l put. turned_to (exchanged (length bytes) out) spot s clients w f l turns stands found put },
          ),
    )

receives_cut : (s : GrandWorld) (mid : ServerState) (clients : List ClientState) (spot : Spot) (o : Outcome) (bytes out : List ℕ) → PieceAt spot.served o bytes s.moment out s.server mid
    → LinkTurnsAt spot.client spot.link (read_on B (length bytes)) s.clients clients → ReceivesAt spot short bytes s (record s { server = mid; clients = clients })
receives_cut s mid clients spot o bytes out piece turns link is =
    let p = piece link is in (
      p.0,
      p.1,
      λ w f stands found end continues.
          let t = p.2 w f.link stands.now (shares_of s w stands) end continues in (
            cut_mark t.0 (serving_at f.link w) (served bytes f.link w),
            record {
              out = [];
              took = took_cut t.0 o bytes p.0 mid.hub mid.drawn mid.jobs out f.link w t.1;
              clients = λ l put. turned_to (read_on B (length bytes)) spot s clients w f l turns stands found (put ∙ nothing_put (length bytes) f.link.link);
            },
          ),
    )

pub receives_by : {X E : Type 0} → (put : Result X E) (s : GrandWorld) (mid : ServerState) (clients : List ClientState) (spot : Spot) (o answered : Outcome) (bytes out : List ℕ) → PieceAt spot.served o bytes s.moment out s.server mid
    → OnOk put (LinkTurnsAt spot.client spot.link (exchanged (length bytes) out) s.clients clients) → OnErr put (LinkTurnsAt spot.client spot.link (read_on B (length bytes)) s.clients clients)
    → answered ≡ outcome_after put o → ReceivesAt spot answered bytes s (record s { server = mid; clients = clients })
receives_by (Ok x) s mid clients spot o answered bytes out piece ok err is =
    subst (λ (r : Outcome). ReceivesAt spot r bytes s (record s { server = mid; clients = clients })) (sym is) (receives_put s mid clients spot o bytes out piece ok)
receives_by (Err e) s mid clients spot o answered bytes out piece ok err is =
    subst (λ (r : Outcome). ReceivesAt spot r bytes s (record s { server = mid; clients = clients })) (sym is) (receives_cut s mid clients spot o bytes out piece err)

-- ---- the piece is delivered

pub delivers_goes : (s new : GrandWorld) (spot : Spot) (o : Outcome) (bytes : List ℕ) → is_end o ≡ false → spot.served < length s.server.links → new.moment ≡ s.moment
    → ReceivesAt spot o bytes s new → DeliversAt spot (moved_to bytes o) bytes s new
delivers_goes s new spot o bytes goes less moment receives w f stands found going next =
    let link = get_less s.server.links spot.served less in
    let r = receives link.0 link.1 in
    let own = link_of s.server spot w f link.0 stands.server found link.1 in
    let t = r.2 w f stands found own.end (continues_at s spot w f bytes stands found going next) in
    (t.0, sym t.1.took.moved, goes_then s new spot link.0 r.0 o t.0 bytes w f goes stands found link.1 going next moment r.1 t.1, t.1.took.fits)

pub delivers_ends : (s mid new : GrandWorld) (spot : Spot) (o : Outcome) (bytes : List ℕ) → is_end o ≡ true → spot.served < length s.server.links → new.moment ≡ s.moment
    → ReceivesAt spot o bytes s mid → LeavesAt spot.served s.moment mid.server new.server → new.clients ≡ mid.clients → DeliversAt spot (moved_to bytes o) bytes s new
delivers_ends s mid new spot o bytes ends less moment receives leaves kept w f stands found going next =
    let link = get_less s.server.links spot.served less in
    let r = receives link.0 link.1 in
    let own = link_of s.server spot w f link.0 stands.server found link.1 in
    let t = r.2 w f stands found own.end (continues_at s spot w f bytes stands found going next) in
    (t.0, sym t.1.took.moved, ends_then s mid new spot link.0 r.0 o t.0 bytes w f ends stands found link.1 going next moment r.1 t.1 leaves kept, t.1.took.fits)
