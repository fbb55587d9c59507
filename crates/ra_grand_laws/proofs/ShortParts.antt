-- Bytes that come to the server's end of a link where memory runs out there: the part of the client is kept.
use Rattle.std.proofs.Common.{◌≡◌, ℕ, suc, ◌+◌, ◌≤◌, true, false, Option, Some, List, ◌++◌, length, take, drop, refl, ap, sym, ◌∙◌, subst, arith, append_assoc}
use Rattle.std.specs.Prelude.{slice_get}
use Rattle.std.proofs.lemmas.List.{length-append, take-append-le, take-append-drop, drop_at}
use Rattle.ra_base.specs.declared.event.Side.TheVariants.{B}
use Rattle.ra_base.specs.declared.key.Seat.{Seat}
use Rattle.ra_model.specs.Links.{Link, at_number, readable}
use Rattle.ra_hub.specs.Hubs.{Hub, row}
use Rattle.ra_link_core.specs.HubEvents.{HubEvent, events_bytes, events_done}
use Rattle.ra_link_core.specs.LinkRuns.{Serving, Welcome, hub_left}
use Rattle.ra_grand_runs.specs.Fits.{IsPart}
use Rattle.ra_grand_runs.specs.GrandClients.{GrandLink}
use Rattle.ra_grand_runs.specs.Grands.{Grand, Found, with_link}
use Rattle.ra_grand_runs.specs.Marks.{short}
use Rattle.ra_grand_runs.specs.Reached.{Begins}
use Rattle.ra_grand_runs.specs.ServedLinks.{draw_at, serving_at, served, came, left, piece_came}
use Rattle.ra_run_laws.proofs.Lists.{there_is}
use Rattle.ra_link_laws.specs.Parts.{HasWelcome, IsWelcome, WorldKeeps}
use Rattle.ra_link_laws.proofs.ServedFocus.{Ground, Focus}
use Rattle.ra_link_laws.proofs.ServedParts.{IsFound, part_at, ground_at, focus_at, changes_by}
use Rattle.ra_link_laws.proofs.ServedRuns.{link_after}
use Rattle.ra_link_laws.proofs.ServedTexts.{follows_read}
use Rattle.ra_link_laws.proofs.WorldSteps.{Changes}
use Rattle.ra_grand_laws.proofs.ShortAdmissions.{Stopped}
use Rattle.ra_grand_laws.proofs.ShortLinks.{Begun, Fronts, front_going}
use Rattle.ra_grand_laws.proofs.ShortOpenings.{served_stopped}
use Rattle.ra_grand_laws.proofs.ShortRuns.{IsSpoiled}

-- ---- what was put out

-- it is a front of what was written by then
front_text : (put : ℕ) (old rest behind at out : List ℕ) → at ≡ old ++ rest → out ≡ at ++ behind → length old + put + length behind ≤ length out
    → at ≡ (old ++ take put (drop (length old) out)) ++ drop put rest
front_text put old rest behind at out begins is fits =
    let all : out ≡ old ++ (rest ++ behind) = is ∙ ap (λ (t : List ℕ). t ++ behind) begins ∙ append_assoc old rest behind in
    let first : length out ≡ length old + length (rest ++ behind) = ap (λ (t : List ℕ). length t) all ∙ length-append old (rest ++ behind) in
    let second : length (rest ++ behind) ≡ length rest + length behind = length-append rest behind in
    let front : take put (drop (length old) out) ≡ take put rest =
    ap (λ (t : List ℕ). take put t) (ap (λ (t : List ℕ). drop (length old) t) all ∙ drop_at old (rest ++ behind) (length old) refl)
    ∙ take-append-le put rest behind (omega (arith, first, second, fits)) in
    begins ∙ ap (λ (t : List ℕ). old ++ t) (sym (take-append-drop put rest)) ∙ sym (append_assoc old (take put rest) (drop put rest))
    ∙ ap (λ (t : List ℕ). (old ++ t) ++ drop put rest) (sym front)

fronts_of : (g : Ground) (w : Grand) (bytes : List ℕ) (draws calls put : ℕ) (x : Stopped g w.hub (draw_at g.link w) bytes w.now (serving_at g.link w) (served bytes g.link w) calls)
    → IsPart draws calls put (serving_at g.link w) (served bytes g.link w)
    → Fronts g (left w.now x.at) (left w.now (came draws (take calls (served bytes g.link w).events) put (serving_at g.link w) (served bytes g.link w)))
fronts_of g w bytes draws calls put x part =
    let s : Serving = serving_at g.link w in
    let u : Serving = served bytes g.link w in
    let events : List HubEvent = take calls u.events in
    let begins : Begins x.at.out g.link.server.out = x.stop.going.front in
    let fits : length g.link.server.out + put + length (events_bytes (drop calls u.events) x.at.hub) ≤ length u.out =
    subst (λ (h : Hub). length g.link.server.out + put + length (events_bytes (drop calls u.events) h) ≤ length u.out) (sym x.hub) part.bytes_put in
    record {
      front = take put (drop (length g.link.server.out) u.out);
      cut = drop put begins.rest;
      hub = ap (λ (o : Option Seat). hub_left o w.now (events_done events s.hub)) (sym x.seat) ∙ ap (λ (h : Hub). hub_left x.at.seat w.now h) (sym x.hub);
      seat = refl;
      welcome = sym x.welcome;
      out = refl;
      was = front_text put g.link.server.out begins.rest (events_bytes (drop calls u.events) x.at.hub) x.at.out u.out begins.same x.behind fits;
    }

-- ---- the link before the bytes came

begun_at : (bytes : List ℕ) (k n m : ℕ) (f : Found) (w : Grand) (is : IsFound n m f w) → bytes ≡ take k (readable B f.link.link) → Begun (ground_at n m f w is) bytes
begun_at bytes k n m f w is bytes_are =
    let g : Ground = ground_at n m f w is in
    let part = part_at n m f w is in
    let x : Focus g (w.hub.session f.client.key) (row w.hub f.client.key) f.link = focus_at n m f w is in
    record {
      session = w.hub.session f.client.key;
      kept = row w.hub f.client.key;
      focus = x;
      follows = follows_read f.link.link bytes k x.here.up bytes_are;
      within = λ u y there here at.
          let has : IsWelcome f.client.key (part.draws m) part.session_links f.link u =
          subst (λ (o : Option Welcome). HasWelcome f.client.key (part.draws m) part.session_links f.link o) there (part.links m f.link is.link).welcome in
          let same : has.session_link ≡ y = there_is (sym has.is_at ∙ ap (λ (i : ℕ). at_number part.session_links i) here ∙ at) in
          let text : y.to_a.written ≡ u.pause ++ drop u.down f.link.link.to_a.written = ap (λ (l : Link). l.to_a.written) (sym same) ∙ has.carries.down in
          subst (λ (t : List ℕ). y.to_a.read ≤ length t) text (part.view.reads.inside part.number y at);
    }

-- ---- the part

-- the link that such a piece makes
abbrev pub short_link : ℕ → ℕ → ℕ → List ℕ → Found → Grand → GrandLink
short_link draws calls put bytes f w =
    let u = served bytes f.link w in
    link_after bytes true (left w.now (came draws (take calls u.events) put (serving_at f.link w) u)) f.link (draw_at f.link w)

pub short_changes : (draws calls put : ℕ) (bytes : List ℕ) (k n m : ℕ) (f : Found) (w : Grand) → WorldKeeps w → f.place.client ≡ suc n → f.place.link ≡ suc m
    → slice_get w.clients n ≡ Some f.client → slice_get f.client.links m ≡ Some f.link → f.link.server.is_over ≡ false → k ≤ length (readable B f.link.link)
    → bytes ≡ take k (readable B f.link.link) → IsPart draws calls put (serving_at f.link w) (served bytes f.link w) → (IsSpoiled (served bytes f.link w) → ⊥)
    → Changes n f.client (with_link (suc m) (short_link draws calls put bytes f w) f.client) w (piece_came (short draws calls put) bytes f w)
unfolding piece_came
short_changes draws calls put bytes k n m f w keeps client_number link_number client link over fits bytes_are part unspoiled =
    let is : IsFound n m f w = record { keeps = keeps; client_number = client_number; link_number = link_number; client = client; link = link; over = over } in
    let g : Ground = ground_at n m f w is in
    let u : Serving = served bytes f.link w in
    let v : Serving = left w.now (came draws (take calls u.events) put (serving_at f.link w) u) in
    let x : Stopped g w.hub (draw_at f.link w) bytes w.now (serving_at f.link w) u calls =
    served_stopped g w bytes k calls (part_at n m f w is).kind (focus_at n m f w is) over fits bytes_are unspoiled part.calls_made in
    changes_by bytes true v n m f w is
    (front_going g w.hub (draw_at f.link w) bytes (left w.now x.at) v (fronts_of g w bytes draws calls put x part) (begun_at bytes k n m f w is bytes_are) x.stop.going x.known x.stop.may)
