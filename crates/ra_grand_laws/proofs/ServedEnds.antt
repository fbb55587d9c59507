-- A piece that comes to the server's end of a client's link keeps the channels of the client and of the session of its key. If the link
-- comes to an end then, that is a good one.
use Rattle.std.proofs.Common.{◌≡◌, ℕ, suc, ◌+◌, ◌≤◌, Bool, false, Option, Some, None, List, [], ◌++◌, length, take, drop, refl, ap, sym, ◌∙◌, subst, arith}
use Rattle.std.specs.Prelude.{slice_get}
use Rattle.std.specs.Option.{is_some}
use Rattle.std.proofs.lemmas.Bool.{cond_both}
use Rattle.std.proofs.lemmas.List.{drop_all}
use Rattle.ra_base.specs.declared.event.Side.TheVariants.{B}
use Rattle.ra_base.specs.declared.handshake.Reason.{Reason}
use Rattle.ra_base.specs.declared.handshake.Request.{Request}
use Rattle.ra_base.specs.declared.key.Key.{Key}
use Rattle.ra_base.specs.declared.key.Seat.{Seat}
use Rattle.ra_base.specs.declared.kind.Kind.{Kind}
use Rattle.ra_model.specs.Links.{readable}
use Rattle.ra_values.specs.Tree.{Tree}
use Rattle.ra_ipc.specs.ChannelPairs.{Outcome}
use Rattle.ra_registry.specs.Admission.{admission_refusal, next_epoch}
use Rattle.ra_opening.specs.declared.ends.OpeningEnd.{OpeningEnd}
use Rattle.ra_opening.specs.Openings.{opened, Stage}
use Rattle.ra_opening.specs.Openings.Stage.{Heading, Shaking, Asked, Over}
use Rattle.ra_opening.specs.Verdicts.{refusal_bytes}
use Rattle.ra_session.specs.SessionCalls.{lose_session}
use Rattle.ra_session.specs.Sessions.{Session}
use Rattle.ra_hub.specs.Hubs.{Hub, row, refused}
use Rattle.ra_channel_laws.proofs.Silence.{silent_lose}
use Rattle.ra_link_core.specs.HubEvents.{event_done, event_jobs, judged_by}
use Rattle.ra_link_core.specs.HubEvents.HubEvent.{Admit, Lose}
use Rattle.ra_link_core.specs.LinkRuns.{request_refused, Serving, Welcome, writes, does, ends_by, attached, asked_by, asked, opening_by, opening_came, with_piece, piece_by, piece_done, turns_for, hub_left, served as served_by}
use Rattle.ra_grand_runs.specs.Draws.{draws_after, own_then}
use Rattle.ra_grand_runs.specs.Grands.{Grand, Found}
use Rattle.ra_grand_runs.specs.Marks.{whole}
use Rattle.ra_grand_runs.specs.ServedLinks.{draw_at, serving_at, served, came_whole, left, settled as settled_link, piece_came}
use Rattle.ra_grand_runs.specs.SetUps.{grounds}
use Rattle.ra_run_laws.proofs.Lists.{there_is}
use Rattle.ra_handshake_laws.specs.Handshakes.{request_for, OpensAt}
use Rattle.ra_link_laws.specs.Parts.{EndStands, WorldKeeps}
use Rattle.ra_link_laws.proofs.HubMoves.{HubAdmits, IsOwn, lost_by, admitted_hub}
use Rattle.ra_link_laws.proofs.ServedAdmissions.{IsNew, HasAsked, admitted_link, admits_going}
use Rattle.ra_link_laws.proofs.ServedFocus.{Ground, Focus}
use Rattle.ra_link_laws.proofs.ServedOpenings.{IsShaking, opened_now, first_draw, come, fronts, opens_now, new_now, asked_now}
use Rattle.ra_link_laws.proofs.ServedParts.{IsFound, part_at, ground_at, focus_at, own_seat, plain, seat_comes, shaking_at}
use Rattle.ra_link_laws.proofs.ServedRuns.{Going}
use Rattle.ra_link_laws.proofs.ServedTurns.{seat_at}
use Rattle.ra_grand_laws.specs.ChannelParts.{ChannelsOf}
use Rattle.ra_grand_laws.specs.GoodEnds.{IsGoodIfAny}
use Rattle.ra_grand_laws.proofs.ServedChannels.{ClientEnd, KeepsChannels, more_jobs, served_good, attached_good}
use Rattle.ra_grand_laws.proofs.ServedHearing.{becomes_called, becomes_admitted}
use Rattle.ra_grand_laws.proofs.WorksFit.{JobsFit}

-- ---- the client asks for its session

refused_same : (owner : Key) (reconnection : Bool) (now : ℕ) (reason : Reason) (h : Hub) → admission_refusal h.registry (request_for owner reconnection) now ≡ Some reason
    → (event_done (Admit (request_for owner reconnection) now) h).session owner ≡ h.session owner
unfolding event_done refused
refused_same owner reconnection now reason h is = ap (λ (o : Option Reason). (judged_by o (request_for owner reconnection) now h).session owner) is

pub refuses_good : (g : Ground) (c : ClientEnd g) (reconnection : Bool) (now : ℕ) (reason : Reason) (s : Serving)
    → admission_refusal s.hub.registry (request_for g.owner reconnection) now ≡ Some reason → KeepsChannels g c s
    → KeepsChannels g c (ends_by (request_refused reason) (writes (refusal_bytes reason) (does (Admit (request_for g.owner reconnection) now) s)))
unfolding event_jobs
refuses_good g c reconnection now reason s is k = record {
  channels = subst (λ (o : Option Session). ChannelsOf g.owner.kind o c.session c.settled c.fired) (sym (refused_same g.owner reconnection now reason s.hub is)) k.channels;
  jobs = more_jobs s.jobs [] k.jobs tt;
  end = tt;
  own = k.own;
}

pub admits_good : (g : Ground) (c : ClientEnd g) (h : Hub) (bytes : List ℕ) (place now : ℕ) (s : Serving) → IsNew g h bytes s
    → admission_refusal s.hub.registry (request_for g.owner (g.draws g.place).reconnection) now ≡ None → KeepsChannels g c s → KeepsChannels g c (admitted_link g place now s)
unfolding admitted_link event_jobs
admits_good g c h bytes place now s new admits k =
    let t : Serving = admitted_link g place now s in
    let changes : HubAdmits g.owner s.hub t.hub = admitted_hub g.owner (g.draws g.place).reconnection now s.hub admits new.focus.both in
    record {
      channels = becomes_admitted g.owner.kind (s.hub.session g.owner) (t.hub.session g.owner) c.session c.settled c.fired changes.becomes k.channels;
      jobs = more_jobs s.jobs [] k.jobs tt;
      end = k.end;
      own = refl;
    }

begins_good : (g : Ground) (c : ClientEnd g) (h : Hub) (draw : ℕ → List ℕ) (bytes : List ℕ) (now epoch : ℕ) (t : Serving) → Going g h draw bytes false t → t.end ≡ None
    → t.seat ≡ Some (seat_at g.owner epoch) → ((u : Welcome) → t.welcome ≡ Some u → g.link.link.to_b.read + length bytes ≡ u.up) → KeepsChannels g c t
    → KeepsChannels g c (attached (seat_at g.owner epoch) [] now t)
unfolding attached
begins_good g c h draw bytes now epoch t going goes seat all k = attached_good g c h draw bytes now epoch t (t.hub.session g.owner) refl going goes seat all k

asks_by : (g : Ground) (c : ClientEnd g) (h : Hub) (draw : ℕ → List ℕ) (first bytes : List ℕ) (place now : ℕ) (s : Serving) (r : Option Reason) → IsNew g h bytes s
    → HasAsked g first bytes place s → admission_refusal s.hub.registry (request_for g.owner (g.draws g.place).reconnection) now ≡ r → KeepsChannels g c s
    → KeepsChannels g c
    (asked_by r (seat_at g.owner (next_epoch (row s.hub g.owner))) place [] now (does (Admit (request_for g.owner (g.draws g.place).reconnection) now) s))
unfolding admitted_link
asks_by g c h draw first bytes place now s (Some reason) new asks is k = refuses_good g c (g.draws g.place).reconnection now reason s is k
asks_by g c h draw first bytes place now s None new asks is k =
    let t : Serving = admitted_link g place now s in
    let read : place ≡ g.link.link.to_b.read + length bytes = asks.read in
    begins_good g c h draw bytes now (next_epoch (row s.hub g.owner)) t (admits_going g h draw first bytes place now s new asks is) new.goes_on refl
    (λ u there. sym read ∙ ap (λ (v : Welcome). v.up) (there_is there)) (admits_good g c h bytes place now s new is k)

asks_good : (g : Ground) (c : ClientEnd g) (h : Hub) (draw : ℕ → List ℕ) (first bytes : List ℕ) (place now : ℕ) (s : Serving) → IsNew g h bytes s → HasAsked g first bytes place s
    → KeepsChannels g c s → KeepsChannels g c (asked (request_for g.owner (g.draws g.place).reconnection) place [] now s)
unfolding asked
asks_good g c h draw first bytes place now s new asks k =
    asks_by g c h draw first bytes place now s (admission_refusal s.hub.registry (request_for g.owner (g.draws g.place).reconnection) now) new asks refl k

asked_so : (g : Ground) (c : ClientEnd g) (h : Hub) (draw : ℕ → List ℕ) (first bytes text : List ℕ) (request : Request) (place now : ℕ) (t : Serving) → IsNew g h bytes t
    → HasAsked g first bytes place t → request ≡ request_for g.owner (g.draws g.place).reconnection → drop place text ≡ [] → KeepsChannels g c t
    → KeepsChannels g c (asked request place (drop place text) now t)
asked_so g c h draw first bytes text request place now t new asks is none k =
    subst (λ (r : Request). KeepsChannels g c (asked r place (drop place text) now t)) (sym is)
    (subst (λ (chunk : List ℕ). KeepsChannels g c (asked (request_for g.owner (g.draws g.place).reconnection) place chunk now t)) (sym none)
    (asks_good g c h draw first bytes place now t new asks k))

-- ---- the handshake goes on

pub come_good : (g : Ground) (c : ClientEnd g) (next : ℕ → List ℕ) (bytes : List ℕ) (s : Serving) → KeepsChannels g c s → KeepsChannels g c (come g next bytes s)
come_good g c next bytes s k = record { channels = k.channels; jobs = k.jobs; end = k.end; own = k.own }

came_good : (g : Ground) (c : ClientEnd g) (h : Hub) (next : ℕ → List ℕ) (bytes : List ℕ) (now : ℕ) (s : Serving) (x : IsShaking g h bytes s) (stage : Stage)
    → OpensAt g.owner (g.draws g.place).reconnection (g.draws g.place).key (g.draws g.place).own (fronts g h bytes s x).theirs (first_draw g next) (g.link.server.seen ++ bytes)
    stage (opened_now g next bytes) → KeepsChannels g c s → KeepsChannels g c (opening_by stage (g.link.server.seen ++ bytes) now (come g next bytes s))
came_good g c h next bytes now s x Heading at k = come_good g c next bytes s k
came_good g c h next bytes now s x (Shaking state) at k = come_good g c next bytes s k
came_good g c h next bytes now s x (Asked request place) at k =
    let text : List ℕ = g.link.server.seen ++ bytes in
    let size : place ≡ length text = at.2 in
    asked_so g c h (own_then g.link.server.drawn next) (first_draw g next) bytes text request place now (come g next bytes s) (new_now g h next bytes s x)
    (asked_now g h next bytes s x place at.1 size at.3) at.0 (drop_all place text (omega (arith, size))) (come_good g c next bytes s k)
came_good g c h next bytes now s x (Over end) at k =
    let t : Serving = come g next bytes s in
    subst (λ (e : OpeningEnd). KeepsChannels g c (opening_by (Over e) (g.link.server.seen ++ bytes) now t)) (sym at.1)
    (record { channels = k.channels; jobs = k.jobs; end = tt; own = k.own })

shaking_good : (g : Ground) (c : ClientEnd g) (h : Hub) (next : ℕ → List ℕ) (bytes : List ℕ) (now : ℕ) (s : Serving) → IsShaking g h bytes s → KeepsChannels g c s
    → KeepsChannels g c (opening_came (opened_now g next bytes) (g.link.server.seen ++ bytes) now s)
shaking_good g c h next bytes now s x k = came_good g c h next bytes now s x (opened_now g next bytes).stage (opens_now g h next bytes s x) k

-- ---- a piece

piece_good : (g : Ground) (c : ClientEnd g) (w : Grand) (bytes : List ℕ) (k : ℕ) (o : Option Seat) → Focus g (w.hub.session g.owner) (row w.hub g.owner) g.link → g.link.server.is_over ≡ false
    → k ≤ length (readable B g.link.link) → bytes ≡ take k (readable B g.link.link) → g.link.server.seat ≡ o → KeepsChannels g c (serving_at g.link w)
    → KeepsChannels g c
    (piece_by None o (grounds (draw_at g.link w)) (with_piece g.link.server.head g.link.server.seen bytes) g.link.server.head (record { bytes = bytes; now = w.now }) (serving_at g.link w))
piece_good g c w bytes k None x over fits is at held =
    let s : Serving = serving_at g.link w in
    let d = g.draws g.place in
    subst (λ (text : List ℕ). KeepsChannels g c (opening_came (opened (grounds (draw_at g.link w)) g.link.server.head text) text w.now s))
    (sym (plain g.owner d.reconnection d.key g.link.server.seen bytes g.link.server.head x.here.head))
    (shaking_good g c w.hub (draws_after w.drawn) bytes w.now s (shaking_at g w bytes k c.known x over fits is at) held)
piece_good g c w bytes k (Some seat) x over fits is at held =
    let own : seat.key ≡ g.owner = own_seat g.owner x.session_links x.present g.link g.link.server.is_over (Some seat) over (subst (λ (o : Option Seat). EndStands g.owner x.session_links x.present g.link g.link.server.is_over o) at x.here.end) in
    let same : seat_at g.owner seat.epoch ≡ seat = ap (λ (key : Key). seat_at key seat.epoch) (sym own) in
    subst (λ (v : Seat). KeepsChannels g c (served_by (turns_for bytes) v bytes w.now (serving_at g.link w))) same
    (served_good (turns_for bytes) g c w.hub (draw_at g.link w) [] bytes bytes w.now seat.epoch k (serving_at g.link w)
    (seat_comes g w bytes k seat.epoch x over fits is (at ∙ ap (λ (v : Seat). Some v) (sym same))) held)

came_so : (g : Ground) (c : ClientEnd g) (w : Grand) (bytes : List ℕ) (k : ℕ) → Focus g (w.hub.session g.owner) (row w.hub g.owner) g.link → g.link.server.is_over ≡ false
    → k ≤ length (readable B g.link.link) → bytes ≡ take k (readable B g.link.link) → KeepsChannels g c (serving_at g.link w) → KeepsChannels g c (served bytes g.link w)
unfolding served piece_done
came_so g c w bytes k x over fits is held = piece_good g c w bytes k g.link.server.seat x over fits is refl held

-- ---- a link that is left

lost_channels : (kind : Kind) (g : Ground) (c : ClientEnd g) (epoch now : ℕ) (h : Hub) → ChannelsOf kind (h.session g.owner) c.session c.settled c.fired
    → ChannelsOf kind ((event_done (Lose (seat_at g.owner epoch) now) h).session g.owner) c.session c.settled c.fired
unfolding event_done
lost_channels kind g c epoch now h held =
    let moves = lost_by g.owner epoch now (h.session g.owner) h refl in
    subst (λ (o : Option Session). ChannelsOf kind o c.session c.settled c.fired) (sym moves.becomes)
    (becomes_called kind (h.session g.owner) (lose_session epoch) c.session c.settled c.fired (λ (s : Session). silent_lose epoch s) held)

left_channels : (kind : Kind) (g : Ground) (c : ClientEnd g) (o : Option Seat) (now : ℕ) (h : Hub) → IsOwn g.owner o → ChannelsOf kind (h.session g.owner) c.session c.settled c.fired
    → ChannelsOf kind ((hub_left o now h).session g.owner) c.session c.settled c.fired
left_channels kind g c None now h own held = held
left_channels kind g c (Some seat) now h own held =
    subst (λ (s : Seat). ChannelsOf kind ((event_done (Lose s now) h).session g.owner) c.session c.settled c.fired) (ap (λ (k : Key). seat_at k seat.epoch) (sym own))
    (lost_channels kind g c seat.epoch now h held)

left_good : (g : Ground) (c : ClientEnd g) (now : ℕ) (u : Serving) → KeepsChannels g c u → KeepsChannels g c (left now u)
left_good g c now u k = record { channels = left_channels g.owner.kind g c u.seat now u.hub k.own k.channels; jobs = k.jobs; end = k.end; own = tt }

settled_good : (g : Ground) (c : ClientEnd g) (now : ℕ) (u : Serving) → KeepsChannels g c u → KeepsChannels g c (settled_link now (came_whole u))
settled_good g c now u k = cond_both (is_some u.end) (left now u) u (λ (s : Serving). KeepsChannels g c s) (λ over. left_good g c now u k) (λ goes. k)

-- ---- the world

-- the client's session with what it has handed up, and the link that was found
record IsServed (n m : ℕ) (f : Found) (w : Grand) (bytes : List ℕ) (settled : List (ℕ × Outcome)) (fired : List (ℕ × Tree)) : Type 0 where
  is : IsFound n m f w
  after : KeepsChannels (ground_at n m f w is)
      (record { session = f.client.dialer.session; near = refl; known = (part_at n m f w is).kind; settled = settled; fired = fired }) (served bytes f.link w)

is_served : (bytes : List ℕ) (k n m : ℕ) (f : Found) (w : Grand) (settled : List (ℕ × Outcome)) (fired : List (ℕ × Tree)) → WorldKeeps w → f.place.client ≡ suc n → f.place.link ≡ suc m
    → slice_get w.clients n ≡ Some f.client → slice_get f.client.links m ≡ Some f.link → f.link.server.is_over ≡ false → k ≤ length (readable B f.link.link)
    → bytes ≡ take k (readable B f.link.link) → ChannelsOf f.client.key.kind (w.hub.session f.client.key) f.client.dialer.session settled fired → JobsFit w.jobs
    → IsServed n m f w bytes settled fired
is_served bytes k n m f w settled fired keeps client_number link_number client link over fits bytes_are held jobs =
    let is : IsFound n m f w = record { keeps = keeps; client_number = client_number; link_number = link_number; client = client; link = link; over = over } in
    let g : Ground = ground_at n m f w is in
    let c : ClientEnd g = record { session = f.client.dialer.session; near = refl; known = (part_at n m f w is).kind; settled = settled; fired = fired } in
    let x : Focus g (w.hub.session g.owner) (row w.hub g.owner) g.link = focus_at n m f w is in
    record {
      is = is;
      after = came_so g c w bytes k x over fits bytes_are (record {
        channels = held;
        jobs = jobs;
        end = tt;
        own = own_seat g.owner x.session_links x.present g.link g.link.server.is_over g.link.server.seat over x.here.end;
      });
    }

pub piece_channels : (bytes : List ℕ) (k n m : ℕ) (f : Found) (w : Grand) → WorldKeeps w → f.place.client ≡ suc n → f.place.link ≡ suc m → slice_get w.clients n ≡ Some f.client
    → slice_get f.client.links m ≡ Some f.link → f.link.server.is_over ≡ false → k ≤ length (readable B f.link.link) → bytes ≡ take k (readable B f.link.link)
    → (settled : List (ℕ × Outcome)) (fired : List (ℕ × Tree)) → ChannelsOf f.client.key.kind (w.hub.session f.client.key) f.client.dialer.session settled fired → JobsFit w.jobs
    → ChannelsOf f.client.key.kind ((piece_came whole bytes f w).hub.session f.client.key) f.client.dialer.session settled fired × JobsFit (piece_came whole bytes f w).jobs
unfolding piece_came
piece_channels bytes k n m f w keeps client_number link_number client link over fits bytes_are settled fired held jobs =
    let x : IsServed n m f w bytes settled fired = is_served bytes k n m f w settled fired keeps client_number link_number client link over fits bytes_are held jobs in
    let after = settled_good _ _ w.now (served bytes f.link w) x.after in
    (after.channels, after.jobs)

pub piece_ends : (bytes : List ℕ) (k n m : ℕ) (f : Found) (w : Grand) → WorldKeeps w → f.place.client ≡ suc n → f.place.link ≡ suc m → slice_get w.clients n ≡ Some f.client
    → slice_get f.client.links m ≡ Some f.link → f.link.server.is_over ≡ false → k ≤ length (readable B f.link.link) → bytes ≡ take k (readable B f.link.link)
    → (settled : List (ℕ × Outcome)) (fired : List (ℕ × Tree)) → ChannelsOf f.client.key.kind (w.hub.session f.client.key) f.client.dialer.session settled fired → JobsFit w.jobs
    → IsGoodIfAny (served bytes f.link w).end
piece_ends bytes k n m f w keeps client_number link_number client link over fits bytes_are settled fired held jobs =
    let x : IsServed n m f w bytes settled fired = is_served bytes k n m f w settled fired keeps client_number link_number client link over fits bytes_are held jobs in
    x.after.end
