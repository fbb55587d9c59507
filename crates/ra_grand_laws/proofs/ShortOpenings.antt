-- A piece that comes to a link, call by call: what its opening wrote, and then the calls that its client or its session makes it make.
use Rattle.std.proofs.Common.{◌≡◌, ◌≢◌, inl, ℕ, ◌≤◌, false, Option, Some, None, List, [], ◌++◌, length, take, refl, ap, sym, ◌∙◌, subst, arith, append-nil}
use Rattle.std.proofs.lemmas.List.{drop_all}
use Rattle.ra_base.specs.declared.event.Side.TheVariants.{B}
use Rattle.ra_base.specs.declared.handshake.Request.{Request}
use Rattle.ra_base.specs.declared.key.Key.{Key}
use Rattle.ra_base.specs.declared.key.Seat.{Seat}
use Rattle.ra_base.specs.declared.kind.Kind.TheVariants.{Tunnel}
use Rattle.ra_model.specs.Links.{Link, readable}
use Rattle.ra_shake.specs.Made.{made_text}
use Rattle.ra_opening.specs.Openings.{opened, Stage}
use Rattle.ra_opening.specs.Openings.Stage.{Heading, Shaking, Asked, Over}
use Rattle.ra_hub.specs.Hubs.{Hub, row}
use Rattle.ra_link_core.specs.LinkRuns.{Serving, with_piece, piece_by, piece_done, turns_for, asked, opening_end, opening_by, opening_came, served as served_by}
use Rattle.ra_link_core.specs.Makes.{Writes}
use Rattle.ra_link_core.proofs.GrowLemmas.{writes_same, writes_refl}
use Rattle.ra_grand_runs.specs.Draws.{draws_after, own_then}
use Rattle.ra_grand_runs.specs.GrandClients.{GrandLink}
use Rattle.ra_grand_runs.specs.Grands.{Grand}
use Rattle.ra_grand_runs.specs.ServedLinks.{draw_at, serving_at, served}
use Rattle.ra_grand_runs.specs.SetUps.{grounds}
use Rattle.ra_handshake_laws.specs.Handshakes.{request_for, OpensAt, Speaks}
use Rattle.ra_link_laws.specs.Parts.{EndStands}
use Rattle.ra_link_laws.proofs.ServedAdmissions.{IsNew, HasAsked}
use Rattle.ra_link_laws.proofs.ServedFocus.{Ground, Focus}
use Rattle.ra_link_laws.proofs.ServedOpenings.{IsShaking, fronts, opened_now, opens_now, come, new_now, speaks_answer, speaks_nothing, asked_now}
use Rattle.ra_link_laws.proofs.ServedParts.{own_seat, plain, start, shaking_at}
use Rattle.ra_link_laws.proofs.ServedRuns.{link_after, put_first}
use Rattle.ra_link_laws.proofs.ServedTexts.{IsPut}
use Rattle.ra_link_laws.proofs.ServedTurns.{seat_at, put_nothing}
use Rattle.ra_grand_laws.proofs.ShortAdmissions.{Stopped, stopped_by, stop_new, unknown, asked_stopped}
use Rattle.ra_grand_laws.proofs.ShortRuns.{IsSpoiled, Stops, stops_none}
use Rattle.ra_grand_laws.proofs.ShortTurns.{served_stops}

-- ---- a link whose handshake goes on

-- it makes no call
waits_stopped : (g : Ground) (h : Hub) (next : ℕ → List ℕ) (bytes : List ℕ) (now : ℕ) (s u : Serving) (calls : ℕ) → IsShaking g h bytes s → s.events ≡ []
    → Speaks g.owner.kind (g.draws g.place).key None (come g next bytes s).out → Writes (come g next bytes s) u → u.welcome ≡ s.welcome → length u.events ≡ length s.events
    → (IsSpoiled u → ⊥) → calls ≤ length u.events → Stopped g h (own_then g.link.server.drawn next) bytes now s u calls
waits_stopped g h next bytes now s u calls x none speaks writes welcome same unspoiled fits =
    let t : Serving = come g next bytes s in
    let new : IsNew g h bytes t = new_now g h next bytes s x in
    let draw : ℕ → List ℕ = own_then g.link.server.drawn next in
    stopped_by g h draw bytes now s t u calls (record { events = none; hub = refl; seat = refl; welcome = refl })
    (stops_none g h draw bytes now t u writes welcome same (stop_new g h draw bytes now t new speaks)) unspoiled (unknown g s.welcome new.welcome) fits

-- its client asks for its session
asks_stopped : (g : Ground) (h : Hub) (next : ℕ → List ℕ) (first bytes chunk : List ℕ) (request : Request) (place now : ℕ) (s : Serving) (calls : ℕ) → IsShaking g h bytes s → s.events ≡ []
    → HasAsked g first bytes place (come g next bytes s) → request ≡ request_for g.owner (g.draws g.place).reconnection → chunk ≡ []
    → (IsSpoiled (asked request place chunk now (come g next bytes s)) → ⊥) → calls ≤ length (asked request place chunk now (come g next bytes s)).events
    → Stopped g h (own_then g.link.server.drawn next) bytes now s (asked request place chunk now (come g next bytes s)) calls
asks_stopped g h next first bytes chunk request place now s calls x none asks is empty =
    let t : Serving = come g next bytes s in
    let draw : ℕ → List ℕ = own_then g.link.server.drawn next in
    subst (λ (r : Request). (IsSpoiled (asked r place chunk now t) → ⊥) → calls ≤ length (asked r place chunk now t).events → Stopped g h draw bytes now s (asked r place chunk now t) calls) (sym is)
    (subst (λ (c : List ℕ). (IsSpoiled (asked (request_for g.owner (g.draws g.place).reconnection) place c now t) → ⊥)
    → calls ≤ length (asked (request_for g.owner (g.draws g.place).reconnection) place c now t).events
    → Stopped g h draw bytes now s (asked (request_for g.owner (g.draws g.place).reconnection) place c now t) calls) (sym empty)
    (λ unspoiled fits. asked_stopped g h draw first bytes place now s t calls (new_now g h next bytes s x) asks (record { events = none; hub = refl; seat = refl; welcome = refl }) unspoiled fits))

stage_stopped : (g : Ground) (h : Hub) (next : ℕ → List ℕ) (bytes : List ℕ) (now : ℕ) (s : Serving) (calls : ℕ) (x : IsShaking g h bytes s) → s.events ≡ [] → (stage : Stage)
    → OpensAt g.owner (g.draws g.place).reconnection (g.draws g.place).key (g.draws g.place).own (fronts g h bytes s x).theirs (own_then g.link.server.drawn next 0) (g.link.server.seen ++ bytes)
    stage (opened_now g next bytes)
    → (IsSpoiled (opening_by stage (g.link.server.seen ++ bytes) now (come g next bytes s)) → ⊥)
    → calls ≤ length (opening_by stage (g.link.server.seen ++ bytes) now (come g next bytes s)).events
    → Stopped g h (own_then g.link.server.drawn next) bytes now s (opening_by stage (g.link.server.seen ++ bytes) now (come g next bytes s)) calls
stage_stopped g h next bytes now s calls x none Heading at unspoiled fits =
    let d = g.draws g.place in
    let t : Serving = come g next bytes s in
    waits_stopped g h next bytes now s t calls x none (speaks_nothing g.owner d.key (own_then g.link.server.drawn next 0) (made_text d.own) t.out at.0) (writes_refl t) refl refl unspoiled fits
stage_stopped g h next bytes now s calls x none (Shaking state) at unspoiled fits =
    let d = g.draws g.place in
    let t : Serving = come g next bytes s in
    waits_stopped g h next bytes now s t calls x none (speaks_answer g.owner d.key (own_then g.link.server.drawn next 0) (made_text d.own) t.out at.0) (writes_refl t) refl refl unspoiled fits
stage_stopped g h next bytes now s calls x none (Asked request place) at unspoiled fits =
    let text : List ℕ = g.link.server.seen ++ bytes in
    let size : place ≡ length text = at.2 in
    asks_stopped g h next (own_then g.link.server.drawn next 0) bytes _ request place now s calls x none (asked_now g h next bytes s x place at.1 size at.3) at.0
    (drop_all place text (omega (arith, size))) unspoiled fits
stage_stopped g h next bytes now s calls x none (Over end) at unspoiled fits =
    let d = g.draws g.place in
    let t : Serving = come g next bytes s in
    waits_stopped g h next bytes now s (record t { end = opening_end end }) calls x none
    (own_then g.link.server.drawn next 0, made_text d.own, at.0, [], append-nil t.out ∙ at.2) (writes_same t t.welcome (opening_end end)) refl refl unspoiled fits

shaking_stopped : (g : Ground) (h : Hub) (next : ℕ → List ℕ) (bytes : List ℕ) (now : ℕ) (s : Serving) (calls : ℕ) → IsShaking g h bytes s → s.events ≡ []
    → (IsSpoiled (opening_came (opened_now g next bytes) (g.link.server.seen ++ bytes) now s) → ⊥)
    → calls ≤ length (opening_came (opened_now g next bytes) (g.link.server.seen ++ bytes) now s).events
    → Stopped g h (own_then g.link.server.drawn next) bytes now s (opening_came (opened_now g next bytes) (g.link.server.seen ++ bytes) now s) calls
shaking_stopped g h next bytes now s calls x none unspoiled fits =
    stage_stopped g h next bytes now s calls x none (opened_now g next bytes).stage (opens_now g h next bytes s x) unspoiled fits

-- ---- one that has its seat

seat_stopped : (g : Ground) (w : Grand) (bytes : List ℕ) (k epoch calls : ℕ) (x : Focus g (w.hub.session g.owner) (row w.hub g.owner) g.link) → g.link.server.is_over ≡ false
    → k ≤ length (readable B g.link.link) → bytes ≡ take k (readable B g.link.link) → g.link.server.seat ≡ Some (seat_at g.owner epoch)
    → (IsSpoiled (served_by (turns_for bytes) (seat_at g.owner epoch) bytes w.now (serving_at g.link w)) → ⊥)
    → calls ≤ length (served_by (turns_for bytes) (seat_at g.owner epoch) bytes w.now (serving_at g.link w)).events
    → Stopped g w.hub (draw_at g.link w) bytes w.now (serving_at g.link w) (served_by (turns_for bytes) (seat_at g.owner epoch) bytes w.now (serving_at g.link w)) calls
seat_stopped g w bytes k epoch calls x over fits is at unspoiled within =
    let draw : ℕ → List ℕ = draw_at g.link w in
    let s : Serving = serving_at g.link w in
    let u : Serving = served_by (turns_for bytes) (seat_at g.owner epoch) bytes w.now s in
    let after : GrandLink = link_after [] false s g.link draw in
    let put : IsPut [] g.link after [] = put_first [] false s g.link draw [] (sym (append-nil g.link.server.out)) in
    let same : g.link.link ≡ after.link = (put_nothing g.link).link ∙ sym put.link in
    let stops : Stops g w.hub draw bytes w.now s u =
    served_stops (turns_for bytes) g w.hub draw [] bytes bytes w.now epoch k s (record {
      going = start g w draw epoch x over at;
      goes_on = refl;
      seat = at;
      fits = subst (λ (l : Link). k ≤ length (readable B l)) same fits;
      is = subst (λ (l : Link). bytes ≡ take k (readable B l)) same is;
      grows = refl;
    }) (inl refl) in
    stopped_by g w.hub draw bytes w.now s s u calls (record { events = refl; hub = refl; seat = refl; welcome = refl }) stops unspoiled (λ v there. inl there) within

-- ---- any

abbrev PieceStopped : Ground → Grand → List ℕ → ℕ → Serving → Type 0
PieceStopped g w bytes calls u = (IsSpoiled u → ⊥) → calls ≤ length u.events → Stopped g w.hub (draw_at g.link w) bytes w.now (serving_at g.link w) u calls

piece_stopped : (g : Ground) (w : Grand) (bytes : List ℕ) (k calls : ℕ) (o : Option Seat) → g.owner.kind ≢ Tunnel → Focus g (w.hub.session g.owner) (row w.hub g.owner) g.link
    → g.link.server.is_over ≡ false → k ≤ length (readable B g.link.link) → bytes ≡ take k (readable B g.link.link) → g.link.server.seat ≡ o
    → PieceStopped g w bytes calls
    (piece_by None o (grounds (draw_at g.link w)) (with_piece g.link.server.head g.link.server.seen bytes) g.link.server.head (record { bytes = bytes; now = w.now }) (serving_at g.link w))
piece_stopped g w bytes k calls None known x over fits is at =
    let draw : ℕ → List ℕ = draw_at g.link w in
    let s : Serving = serving_at g.link w in
    let d = g.draws g.place in
    subst (λ (text : List ℕ). PieceStopped g w bytes calls (opening_came (opened (grounds draw) g.link.server.head text) text w.now s))
    (sym (plain g.owner d.reconnection d.key g.link.server.seen bytes g.link.server.head x.here.head))
    (shaking_stopped g w.hub (draws_after w.drawn) bytes w.now s calls (shaking_at g w bytes k known x over fits is at) refl)
piece_stopped g w bytes k calls (Some seat) known x over fits is at =
    let own : seat.key ≡ g.owner =
    own_seat g.owner x.session_links x.present g.link g.link.server.is_over (Some seat) over (subst (λ (o : Option Seat). EndStands g.owner x.session_links x.present g.link g.link.server.is_over o) at x.here.end) in
    let same : seat_at g.owner seat.epoch ≡ seat = ap (λ (key : Key). seat_at key seat.epoch) (sym own) in
    subst (λ (v : Seat). PieceStopped g w bytes calls (served_by (turns_for bytes) v bytes w.now (serving_at g.link w))) same
    (seat_stopped g w bytes k seat.epoch calls x over fits is (at ∙ ap (λ (v : Seat). Some v) (sym same)))

pub served_stopped : (g : Ground) (w : Grand) (bytes : List ℕ) (k calls : ℕ) → g.owner.kind ≢ Tunnel → Focus g (w.hub.session g.owner) (row w.hub g.owner) g.link
    → g.link.server.is_over ≡ false → k ≤ length (readable B g.link.link) → bytes ≡ take k (readable B g.link.link) → (IsSpoiled (served bytes g.link w) → ⊥)
    → calls ≤ length (served bytes g.link w).events → Stopped g w.hub (draw_at g.link w) bytes w.now (serving_at g.link w) (served bytes g.link w) calls
unfolding served piece_done
served_stopped g w bytes k calls known x over fits is = piece_stopped g w bytes k calls g.link.server.seat known x over fits is refl
