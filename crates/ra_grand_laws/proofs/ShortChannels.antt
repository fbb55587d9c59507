-- Where memory runs out at the server's end of a client's link while a piece comes, the channels of the client and of the session of its
-- key are kept as well.
use Rattle.std.proofs.Common.{◌≡◌, ℕ, suc, ◌+◌, ◌≤◌, false, Option, Some, None, List, [], ◌++◌, length, take, drop, refl, ap, sym, ◌∙◌, subst, arith}
use Rattle.std.specs.Prelude.{slice_get}
use Rattle.std.proofs.lemmas.List.{drop_all}
use Rattle.ra_base.specs.declared.event.Side.TheVariants.{B}
use Rattle.ra_base.specs.declared.handshake.Reason.{Reason}
use Rattle.ra_base.specs.declared.handshake.Request.{Request}
use Rattle.ra_base.specs.declared.key.Key.{Key}
use Rattle.ra_base.specs.declared.key.Seat.{Seat}
use Rattle.ra_model.specs.Links.{readable}
use Rattle.ra_values.specs.Tree.{Tree}
use Rattle.ra_ipc.specs.ChannelPairs.{Outcome}
use Rattle.ra_registry.specs.Admission.{admission_refusal, next_epoch}
use Rattle.ra_opening.specs.Openings.{opened, Stage}
use Rattle.ra_opening.specs.Openings.Stage.{Heading, Shaking, Asked, Over}
use Rattle.ra_opening.specs.Verdicts.{refusal_bytes}
use Rattle.ra_hub.specs.Hubs.{Hub, row}
use Rattle.ra_hub.specs.Jobs.{SeenJob}
use Rattle.ra_link_core.specs.HubEvents.{HubEvent, events_done, events_jobs, seats_by}
use Rattle.ra_link_core.specs.HubEvents.HubEvent.{Admit}
use Rattle.ra_link_core.specs.LinkRuns.{request_refused, Serving, Welcome, writes, does, ends_by, attached, asked_by, asked, opening_by, opening_came, with_piece, piece_by, piece_done, turns_for, hub_left, served as served_by}
use Rattle.ra_grand_runs.specs.Draws.{draws_after, own_then}
use Rattle.ra_grand_runs.specs.Grands.{Grand, Found}
use Rattle.ra_grand_runs.specs.Marks.{short}
use Rattle.ra_grand_runs.specs.ServedLinks.{draw_at, serving_at, served, piece_came}
use Rattle.ra_grand_runs.specs.SetUps.{grounds}
use Rattle.ra_run_laws.proofs.Lists.{there_is}
use Rattle.ra_handshake_laws.specs.Handshakes.{request_for, OpensAt}
use Rattle.ra_link_laws.specs.Parts.{EndStands, WorldKeeps}
use Rattle.ra_link_laws.proofs.ServedAdmissions.{IsNew, HasAsked, admitted_link, admits_going}
use Rattle.ra_link_laws.proofs.ServedFocus.{Ground, Focus}
use Rattle.ra_link_laws.proofs.ServedOpenings.{IsShaking, opened_now, first_draw, come, fronts, opens_now, new_now, asked_now}
use Rattle.ra_link_laws.proofs.ServedParts.{IsFound, part_at, ground_at, focus_at, own_seat, plain, seat_comes, shaking_at}
use Rattle.ra_link_laws.proofs.ServedRuns.{Going}
use Rattle.ra_link_laws.proofs.ServedTurns.{seat_at}
use Rattle.ra_grand_laws.specs.ChannelParts.{ChannelsOf}
use Rattle.ra_grand_laws.proofs.ChannelFronts.{HubHolds, fronts_taken, HoldsBetween, between_same, between_event, between_both, served_between, attached_between}
use Rattle.ra_grand_laws.proofs.ChannelSteps.{left_becomes}
use Rattle.ra_grand_laws.proofs.ServedChannels.{ClientEnd, KeepsChannels, more_jobs}
use Rattle.ra_grand_laws.proofs.ServedEnds.{refuses_good, admits_good, come_good}
use Rattle.ra_grand_laws.proofs.WorksFit.{JobsFit}

-- ---- the client asks for its session

begins_between : (g : Ground) (c : ClientEnd g) (h : Hub) (draw : ℕ → List ℕ) (bytes : List ℕ) (now epoch : ℕ) (t : Serving) → Going g h draw bytes false t → t.end ≡ None
    → t.seat ≡ Some (seat_at g.owner epoch) → ((u : Welcome) → t.welcome ≡ Some u → g.link.link.to_b.read + length bytes ≡ u.up) → KeepsChannels g c t
    → HoldsBetween g c t (attached (seat_at g.owner epoch) [] now t)
unfolding attached
begins_between g c h draw bytes now epoch t going goes seat all k = attached_between g c h draw bytes now epoch t (t.hub.session g.owner) refl going goes seat all k

asks_by : (g : Ground) (c : ClientEnd g) (h : Hub) (draw : ℕ → List ℕ) (first bytes : List ℕ) (place now : ℕ) (s : Serving) (r : Option Reason) → IsNew g h bytes s
    → HasAsked g first bytes place s → admission_refusal s.hub.registry (request_for g.owner (g.draws g.place).reconnection) now ≡ r → KeepsChannels g c s
    → HoldsBetween g c s
    (asked_by r (seat_at g.owner (next_epoch (row s.hub g.owner))) place [] now (does (Admit (request_for g.owner (g.draws g.place).reconnection) now) s))
unfolding admitted_link
asks_by g c h draw first bytes place now s (Some reason) new asks is k =
    let ask : Request = request_for g.owner (g.draws g.place).reconnection in
    between_event g c (Admit ask now) s (ends_by (request_refused reason) (writes (refusal_bytes reason) (does (Admit ask now) s))) refl refl refl k
    (refuses_good g c (g.draws g.place).reconnection now reason s is k)
asks_by g c h draw first bytes place now s None new asks is k =
    let t : Serving = admitted_link g place now s in
    let epoch : ℕ = next_epoch (row s.hub g.owner) in
    let read : place ≡ g.link.link.to_b.read + length bytes = asks.read in
    let admitted : KeepsChannels g c t = admits_good g c h bytes place now s new is k in
    between_both g c s t (attached (seat_at g.owner epoch) [] now t)
    (between_event g c (Admit (request_for g.owner (g.draws g.place).reconnection) now) s t refl refl refl k admitted)
    (begins_between g c h draw bytes now epoch t (admits_going g h draw first bytes place now s new asks is) new.goes_on refl
    (λ u there. sym read ∙ ap (λ (v : Welcome). v.up) (there_is there)) admitted)

asks_between : (g : Ground) (c : ClientEnd g) (h : Hub) (draw : ℕ → List ℕ) (first bytes : List ℕ) (place now : ℕ) (s : Serving) → IsNew g h bytes s → HasAsked g first bytes place s
    → KeepsChannels g c s → HoldsBetween g c s (asked (request_for g.owner (g.draws g.place).reconnection) place [] now s)
unfolding asked
asks_between g c h draw first bytes place now s new asks k =
    asks_by g c h draw first bytes place now s (admission_refusal s.hub.registry (request_for g.owner (g.draws g.place).reconnection) now) new asks refl k

asked_so : (g : Ground) (c : ClientEnd g) (h : Hub) (draw : ℕ → List ℕ) (first bytes text : List ℕ) (request : Request) (place now : ℕ) (t : Serving) → IsNew g h bytes t
    → HasAsked g first bytes place t → request ≡ request_for g.owner (g.draws g.place).reconnection → drop place text ≡ [] → KeepsChannels g c t
    → HoldsBetween g c t (asked request place (drop place text) now t)
asked_so g c h draw first bytes text request place now t new asks is none k =
    subst (λ (r : Request). HoldsBetween g c t (asked r place (drop place text) now t)) (sym is)
    (subst (λ (chunk : List ℕ). HoldsBetween g c t (asked (request_for g.owner (g.draws g.place).reconnection) place chunk now t)) (sym none)
    (asks_between g c h draw first bytes place now t new asks k))

-- ---- the handshake goes on

came_between : (g : Ground) (c : ClientEnd g) (h : Hub) (next : ℕ → List ℕ) (bytes : List ℕ) (now : ℕ) (s : Serving) (x : IsShaking g h bytes s) (stage : Stage)
    → OpensAt g.owner (g.draws g.place).reconnection (g.draws g.place).key (g.draws g.place).own (fronts g h bytes s x).theirs (first_draw g next) (g.link.server.seen ++ bytes)
    stage (opened_now g next bytes) → KeepsChannels g c s → HoldsBetween g c s (opening_by stage (g.link.server.seen ++ bytes) now (come g next bytes s))
came_between g c h next bytes now s x Heading at k = between_same g c s _ refl refl k
came_between g c h next bytes now s x (Shaking state) at k = between_same g c s _ refl refl k
came_between g c h next bytes now s x (Asked request place) at k =
    let text : List ℕ = g.link.server.seen ++ bytes in
    let size : place ≡ length text = at.2 in
    let t : Serving = come g next bytes s in
    between_both g c s t (asked request place (drop place text) now t) (between_same g c s t refl refl k)
    (asked_so g c h (own_then g.link.server.drawn next) (first_draw g next) bytes text request place now t (new_now g h next bytes s x)
    (asked_now g h next bytes s x place at.1 size at.3) at.0 (drop_all place text (omega (arith, size))) (come_good g c next bytes s k))
came_between g c h next bytes now s x (Over end) at k = between_same g c s _ refl refl k

shaking_between : (g : Ground) (c : ClientEnd g) (h : Hub) (next : ℕ → List ℕ) (bytes : List ℕ) (now : ℕ) (s : Serving) → IsShaking g h bytes s → KeepsChannels g c s
    → HoldsBetween g c s (opening_came (opened_now g next bytes) (g.link.server.seen ++ bytes) now s)
shaking_between g c h next bytes now s x k = came_between g c h next bytes now s x (opened_now g next bytes).stage (opens_now g h next bytes s x) k

-- ---- a piece

piece_between : (g : Ground) (c : ClientEnd g) (w : Grand) (bytes : List ℕ) (k : ℕ) (o : Option Seat) → Focus g (w.hub.session g.owner) (row w.hub g.owner) g.link → g.link.server.is_over ≡ false
    → k ≤ length (readable B g.link.link) → bytes ≡ take k (readable B g.link.link) → g.link.server.seat ≡ o → KeepsChannels g c (serving_at g.link w)
    → HoldsBetween g c (serving_at g.link w)
    (piece_by None o (grounds (draw_at g.link w)) (with_piece g.link.server.head g.link.server.seen bytes) g.link.server.head (record { bytes = bytes; now = w.now }) (serving_at g.link w))
piece_between g c w bytes k None x over fits is at held =
    let s : Serving = serving_at g.link w in
    let d = g.draws g.place in
    subst (λ (text : List ℕ). HoldsBetween g c s (opening_came (opened (grounds (draw_at g.link w)) g.link.server.head text) text w.now s))
    (sym (plain g.owner d.reconnection d.key g.link.server.seen bytes g.link.server.head x.here.head))
    (shaking_between g c w.hub (draws_after w.drawn) bytes w.now s (shaking_at g w bytes k c.known x over fits is at) held)
piece_between g c w bytes k (Some seat) x over fits is at held =
    let s : Serving = serving_at g.link w in
    let own : seat.key ≡ g.owner = own_seat g.owner x.session_links x.present g.link g.link.server.is_over (Some seat) over (subst (λ (o : Option Seat). EndStands g.owner x.session_links x.present g.link g.link.server.is_over o) at x.here.end) in
    let same : seat_at g.owner seat.epoch ≡ seat = ap (λ (key : Key). seat_at key seat.epoch) (sym own) in
    subst (λ (v : Seat). HoldsBetween g c s (served_by (turns_for bytes) v bytes w.now s)) same
    (served_between (turns_for bytes) g c w.hub (draw_at g.link w) [] bytes bytes w.now seat.epoch k s
    (seat_comes g w bytes k seat.epoch x over fits is (at ∙ ap (λ (v : Seat). Some v) (sym same))) held)

served_so : (g : Ground) (c : ClientEnd g) (w : Grand) (bytes : List ℕ) (k : ℕ) → Focus g (w.hub.session g.owner) (row w.hub g.owner) g.link → g.link.server.is_over ≡ false
    → k ≤ length (readable B g.link.link) → bytes ≡ take k (readable B g.link.link) → KeepsChannels g c (serving_at g.link w)
    → HoldsBetween g c (serving_at g.link w) (served bytes g.link w)
unfolding served piece_done
served_so g c w bytes k x over fits is held = piece_between g c w bytes k g.link.server.seat x over fits is refl held

-- ---- a front of the calls

-- the channels in a hub, and the jobs
abbrev StandsWith : (g : Ground) → ClientEnd g → Hub → List SeenJob → Type 0
StandsWith g c h jobs = HubHolds g c h × JobsFit jobs

front_stands : (g : Ground) (c : ClientEnd g) (calls : ℕ) (now : ℕ) (seat : List HubEvent → Option Seat) (s u : Serving) → s.events ≡ [] → JobsFit s.jobs → HoldsBetween g c s u
    → StandsWith g c (hub_left (seat (take calls u.events)) now (events_done (take calls u.events) s.hub)) (s.jobs ++ events_jobs (take calls u.events) s.hub)
front_stands g c calls now seat s u none jobs between =
    subst (λ (es : List HubEvent). StandsWith g c (hub_left (seat (take calls es)) now (events_done (take calls es) s.hub)) (s.jobs ++ events_jobs (take calls es) s.hub)) (sym all)
    (left_becomes (seat front) now (events_done front s.hub) g.owner c.session c.settled c.fired held.0, more_jobs s.jobs (events_jobs front s.hub) jobs held.1)
  where
    all : u.events ≡ between.more
    all = between.events ∙ ap (λ (es : List HubEvent). es ++ between.more) none

    front : List HubEvent
    front = take calls between.more

    held : StandsWith g c (events_done front s.hub) (events_jobs front s.hub)
    held = fronts_taken g c calls between.more s.hub between.fronts

-- ---- the world

pub short_channels : (draws calls put : ℕ) (bytes : List ℕ) (k n m : ℕ) (f : Found) (w : Grand) → WorldKeeps w → f.place.client ≡ suc n → f.place.link ≡ suc m
    → slice_get w.clients n ≡ Some f.client → slice_get f.client.links m ≡ Some f.link → f.link.server.is_over ≡ false → k ≤ length (readable B f.link.link)
    → bytes ≡ take k (readable B f.link.link) → (settled : List (ℕ × Outcome)) (fired : List (ℕ × Tree))
    → ChannelsOf f.client.key.kind (w.hub.session f.client.key) f.client.dialer.session settled fired → JobsFit w.jobs
    → ChannelsOf f.client.key.kind ((piece_came (short draws calls put) bytes f w).hub.session f.client.key) f.client.dialer.session settled fired
    × JobsFit (piece_came (short draws calls put) bytes f w).jobs
unfolding piece_came
short_channels draws calls put bytes k n m f w keeps client_number link_number client link over fits bytes_are settled fired held jobs =
    let is : IsFound n m f w = record { keeps = keeps; client_number = client_number; link_number = link_number; client = client; link = link; over = over } in
    let g : Ground = ground_at n m f w is in
    let c : ClientEnd g = record { session = f.client.dialer.session; near = refl; known = (part_at n m f w is).kind; settled = settled; fired = fired } in
    let x : Focus g (w.hub.session g.owner) (row w.hub g.owner) g.link = focus_at n m f w is in
    let s : Serving = serving_at g.link w in
    let before : KeepsChannels g c s = record {
      channels = held;
      jobs = jobs;
      end = tt;
      own = own_seat g.owner x.session_links x.present g.link g.link.server.is_over g.link.server.seat over x.here.end;
    } in
    front_stands g c calls w.now (λ (es : List HubEvent). seats_by es w.hub f.link.server.seat) s (served bytes g.link w) refl jobs (served_so g c w bytes k x over fits bytes_are before)
