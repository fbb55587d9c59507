-- Bytes that come to the server's end of a client's link, and a link that is left, keep the part of the client, and leave all others.
use Rattle.std.proofs.Common.{◌≡◌, ◌≢◌, ℕ, suc, ◌≤◌, Bool, true, false, Option, Some, None, List, [], ◌++◌, length, take, refl, ap, sym, ◌∙◌, subst, arith, append-nil}
use Rattle.std.specs.Prelude.{slice_get, slice_set}
use Rattle.ra_base.specs.declared.event.Side.TheVariants.{B}
use Rattle.ra_base.specs.declared.key.Key.{Key}
use Rattle.ra_base.specs.declared.key.Seat.{Seat}
use Rattle.ra_base.specs.declared.kind.Kind.TheVariants.{Tunnel}
use Rattle.ra_model.specs.Links.{Link, put_number, readable}
use Rattle.ra_upgrade.specs.declared.request_head.HeadFault.{HeadFault}
use Rattle.ra_upgrade.specs.declared.request_head.Upgrade.{Upgrade}
use Rattle.ra_items.specs.Heads.{Head}
use Rattle.ra_registry.specs.declared.row.Row.{Row}
use Rattle.ra_hub.specs.Hubs.{row}
use Rattle.ra_opening.specs.Openings.{opened}
use Rattle.ra_session.specs.Sessions.{Session}
use Rattle.ra_link_core.specs.LinkRuns.{Serving, with_piece, piece_by, piece_done, opening_came, turns_for, served as served_by}
use Rattle.ra_grand_runs.specs.Draws.{draws_after}
use Rattle.ra_grand_runs.specs.GrandClients.{GrandLink}
use Rattle.ra_grand_runs.specs.Grands.{Grand, Found, with_link}
use Rattle.ra_grand_runs.specs.Marks.{whole}
use Rattle.ra_grand_runs.specs.ServedLinks.{draw_at, serving_at, served, came_whole, left, settled, put_served, piece_came, server_left}
use Rattle.ra_grand_runs.specs.SetUps.{settings_for, request_head, grounds}
use Rattle.ra_link_laws.specs.Parts.{EndStands, IsSeated, PartHolds, WorldKeeps}
use Rattle.ra_link_laws.proofs.HubMoves.{IsOwn, others_itself}
use Rattle.ra_link_laws.proofs.SeatTurns.{Comes, served_stands}
use Rattle.ra_link_laws.proofs.ServedFocus.{Ground, Focus, ground_of, focus, unfocus}
use Rattle.ra_link_laws.proofs.ServedMoves.{focus_moved}
use Rattle.ra_link_laws.proofs.ServedOpenings.{IsShaking, shaking_stands}
use Rattle.ra_link_laws.proofs.ServedRuns.{link_after, put_first, Going, Stands, left_over}
use Rattle.ra_link_laws.proofs.ServedTexts.{IsPut, follows_read, follows_nothing, keeps_put, below_put, welcome_read, seat_stands}
use Rattle.ra_link_laws.proofs.ServedTurns.{seat_at, seated_at, put_nothing}
use Rattle.ra_link_laws.proofs.WorldSteps.{Changes}

-- ---- a link that was found

-- its place, and that its end is not over
pub record IsFound (n m : ℕ) (f : Found) (w : Grand) : Type 0 where
  pub keeps : WorldKeeps w
  pub client_number : f.place.client ≡ suc n
  pub link_number : f.place.link ≡ suc m
  pub client : slice_get w.clients n ≡ Some f.client
  pub link : slice_get f.client.links m ≡ Some f.link
  pub over : f.link.server.is_over ≡ false

abbrev pub part_at : (n m : ℕ) (f : Found) (w : Grand) → IsFound n m f w → PartHolds (w.hub.session f.client.key) (row w.hub f.client.key) f.client
part_at n m f w is = is.keeps.parts n f.client is.client

abbrev pub ground_at : (n m : ℕ) (f : Found) (w : Grand) → IsFound n m f w → Ground
ground_at n m f w is = ground_of (w.hub.session f.client.key) (row w.hub f.client.key) f.client (part_at n m f w is) m f.link

pub focus_at : (n m : ℕ) (f : Found) (w : Grand) (is : IsFound n m f w) → Focus (ground_at n m f w is) (w.hub.session f.client.key) (row w.hub f.client.key) f.link
focus_at n m f w is = focus (w.hub.session f.client.key) (row w.hub f.client.key) f.client (part_at n m f w is) m f.link is.link

-- the world, once the link was served so
pub changes_by : (bytes : List ℕ) (over : Bool) (u : Serving) (n m : ℕ) (f : Found) (w : Grand) (is : IsFound n m f w) → Going (ground_at n m f w is) w.hub (draw_at f.link w) bytes over u
    → Changes n f.client (with_link (suc m) (link_after bytes over u f.link (draw_at f.link w)) f.client) w (put_served bytes over u f w)
changes_by bytes over u n m f w is going =
    let new : GrandLink = link_after bytes over u f.link (draw_at f.link w) in
    record {
      there = is.client;
      clients = ap (λ (k : ℕ). put_number w.clients k (with_link f.place.link new f.client)) is.client_number
          ∙ ap (λ (k : ℕ). slice_set w.clients n (with_link k new f.client)) is.link_number;
      key = refl;
      others = going.others;
      part = unfocus (w.hub.session f.client.key) (u.hub.session f.client.key) (row w.hub f.client.key) (row u.hub f.client.key) f.client (part_at n m f w is) m f.link new is.link going.focus;
    }

-- ---- it is left

pub own_seat : (owner : Key) (session_links : List Link) (present : ℕ) (l : GrandLink) (over : Bool) (o : Option Seat) → over ≡ false → EndStands owner session_links present l over o → IsOwn owner o
own_seat owner session_links present l over None is stands = tt
own_seat owner session_links present l over (Some seat) is stands =
    let seated : IsSeated owner session_links present l seat = subst (λ (b : Bool). EndStands owner session_links present l b (Some seat)) is stands in
    seated.key

pub left_changes : (n m : ℕ) (f : Found) (w : Grand) → WorldKeeps w → f.place.client ≡ suc n → f.place.link ≡ suc m → slice_get w.clients n ≡ Some f.client
    → slice_get f.client.links m ≡ Some f.link → f.link.server.is_over ≡ false
    → Changes n f.client (with_link (suc m) (link_after [] true (left w.now (serving_at f.link w)) f.link (draw_at f.link w)) f.client) w (server_left f w)
unfolding server_left
left_changes n m f w keeps client_number link_number client link over =
    let is : IsFound n m f w = record { keeps = keeps; client_number = client_number; link_number = link_number; client = client; link = link; over = over } in
    let g : Ground = ground_at n m f w is in
    let x : Focus g (w.hub.session f.client.key) (row w.hub f.client.key) f.link = focus_at n m f w is in
    let s : Serving = serving_at f.link w in
    changes_by [] true (left w.now s) n m f w is
    (left_over g w.hub (draw_at f.link w) w.now s f.link [] [] x (others_itself f.client.key w.hub) (record { rest = []; same = sym (append-nil f.link.server.out) })
    (own_seat f.client.key x.session_links x.present f.link f.link.server.is_over f.link.server.seat over x.here.end) refl
    (put_first [] true (left w.now s) f.link (draw_at f.link w) [] (sym (append-nil f.link.server.out))) (follows_nothing f.link.link.to_b x.here.up))

-- ---- bytes come

-- the head asks for no frames of another kind
pub plain : (owner : Key) (reconnection : Bool) (key seen bytes : List ℕ) (head : Head Upgrade HeadFault) → head ≡ request_head (settings_for owner) reconnection key
    → with_piece head seen bytes ≡ seen ++ bytes
unfolding with_piece
plain owner reconnection key seen bytes head is = subst (λ (h : Head Upgrade HeadFault). with_piece h seen bytes ≡ seen ++ bytes) (sym is) refl

-- the link before anything was read
pub start : (g : Ground) (w : Grand) (draw : ℕ → List ℕ) (epoch : ℕ) (x : Focus g (w.hub.session g.owner) (row w.hub g.owner) g.link) → g.link.server.is_over ≡ false
    → g.link.server.seat ≡ Some (seat_at g.owner epoch) → Going g w.hub draw [] false (serving_at g.link w)
start g w draw epoch x over at =
    let s : Option Session = w.hub.session g.owner in
    let o : Option Row = row w.hub g.owner in
    let d = g.draws g.place in
    let after : GrandLink = link_after [] false (serving_at g.link w) g.link draw in
    let put : IsPut [] g.link after [] = put_first [] false (serving_at g.link w) g.link draw [] (sym (append-nil g.link.server.out)) in
    let seated : IsSeated g.owner x.session_links x.present g.link (seat_at g.owner epoch) = seated_at g s o g.link x epoch over at in
    let now_seated : IsSeated g.owner x.session_links x.present after (seat_at g.owner epoch) = record {
      welcome = seated.welcome;
      is_there = seated.is_there;
      key = refl;
      number = seated.number;
      said = seated.said;
      read = λ is y there. let was = seated.read is y there in omega (arith, was);
    } in
    record {
      focus = focus_moved g s o g.link after x
          (keeps_put g.owner d x.session_links x.session_links x.present x.present g.link after [] [] x.here (follows_nothing g.link.link.to_b x.here.up) put x.here.speaks
          (welcome_read g.owner d x.session_links g.link after [] put refl x.here.welcome)
          (seat_stands g.owner x.session_links x.present after false g.link.server.seat (seat_at g.owner epoch) refl at now_seated))
          (below_put g.owner d x.session_links x.present g.link g.link after [] [] x.here put (λ u is. is) x.stays) refl;
      others = others_itself g.owner w.hub;
      front = record { rest = []; same = sym (append-nil g.link.server.out) };
    }

pub seat_comes : (g : Ground) (w : Grand) (bytes : List ℕ) (k epoch : ℕ) (x : Focus g (w.hub.session g.owner) (row w.hub g.owner) g.link) → g.link.server.is_over ≡ false
    → k ≤ length (readable B g.link.link) → bytes ≡ take k (readable B g.link.link) → g.link.server.seat ≡ Some (seat_at g.owner epoch)
    → Comes g w.hub (draw_at g.link w) [] bytes bytes epoch k (serving_at g.link w)
seat_comes g w bytes k epoch x over fits is at =
    let draw : ℕ → List ℕ = draw_at g.link w in
    let s : Serving = serving_at g.link w in
    let after : GrandLink = link_after [] false s g.link draw in
    let put : IsPut [] g.link after [] = put_first [] false s g.link draw [] (sym (append-nil g.link.server.out)) in
    let same : g.link.link ≡ after.link = (put_nothing g.link).link ∙ sym put.link in
    record {
      going = start g w draw epoch x over at;
      goes_on = refl;
      seat = at;
      fits = subst (λ (l : Link). k ≤ length (readable B l)) same fits;
      is = subst (λ (l : Link). bytes ≡ take k (readable B l)) same is;
      grows = refl;
    }

seat_so : (g : Ground) (w : Grand) (bytes : List ℕ) (k epoch : ℕ) (x : Focus g (w.hub.session g.owner) (row w.hub g.owner) g.link) → g.link.server.is_over ≡ false
    → k ≤ length (readable B g.link.link) → bytes ≡ take k (readable B g.link.link) → g.link.server.seat ≡ Some (seat_at g.owner epoch)
    → Stands g w.hub (draw_at g.link w) bytes w.now (served_by (turns_for bytes) (seat_at g.owner epoch) bytes w.now (serving_at g.link w))
seat_so g w bytes k epoch x over fits is at =
    served_stands (turns_for bytes) g w.hub (draw_at g.link w) [] bytes bytes w.now epoch k (serving_at g.link w) (seat_comes g w bytes k epoch x over fits is at)

-- bytes come while the handshake goes on
pub shaking_at : (g : Ground) (w : Grand) (bytes : List ℕ) (k : ℕ) → g.owner.kind ≢ Tunnel → Focus g (w.hub.session g.owner) (row w.hub g.owner) g.link → g.link.server.is_over ≡ false
    → k ≤ length (readable B g.link.link) → bytes ≡ take k (readable B g.link.link) → g.link.server.seat ≡ None → IsShaking g w.hub bytes (serving_at g.link w)
shaking_at g w bytes k known x over fits is at = record {
  kind = known;
  focus = x;
  others = others_itself g.owner w.hub;
  over = over;
  none = at;
  seat = at;
  welcome = refl;
  goes_on = refl;
  follows = follows_read g.link.link bytes k x.here.up is;
}

piece_stands : (g : Ground) (w : Grand) (bytes : List ℕ) (k : ℕ) (o : Option Seat) → g.owner.kind ≢ Tunnel → Focus g (w.hub.session g.owner) (row w.hub g.owner) g.link → g.link.server.is_over ≡ false
    → k ≤ length (readable B g.link.link) → bytes ≡ take k (readable B g.link.link) → g.link.server.seat ≡ o
    → Stands g w.hub (draw_at g.link w) bytes w.now
    (piece_by None o (grounds (draw_at g.link w)) (with_piece g.link.server.head g.link.server.seen bytes) g.link.server.head (record { bytes = bytes; now = w.now }) (serving_at g.link w))
piece_stands g w bytes k None known x over fits is at =
    let draw : ℕ → List ℕ = draw_at g.link w in
    let s : Serving = serving_at g.link w in
    let d = g.draws g.place in
    subst (λ (text : List ℕ). Stands g w.hub draw bytes w.now (opening_came (opened (grounds draw) g.link.server.head text) text w.now s))
    (sym (plain g.owner d.reconnection d.key g.link.server.seen bytes g.link.server.head x.here.head))
    (shaking_stands g w.hub (draws_after w.drawn) bytes w.now s (shaking_at g w bytes k known x over fits is at))
piece_stands g w bytes k (Some seat) known x over fits is at =
    let own : seat.key ≡ g.owner = own_seat g.owner x.session_links x.present g.link g.link.server.is_over (Some seat) over (subst (λ (o : Option Seat). EndStands g.owner x.session_links x.present g.link g.link.server.is_over o) at x.here.end) in
    let same : seat_at g.owner seat.epoch ≡ seat = ap (λ (key : Key). seat_at key seat.epoch) (sym own) in
    subst (λ (v : Seat). Stands g w.hub (draw_at g.link w) bytes w.now (served_by (turns_for bytes) v bytes w.now (serving_at g.link w))) same
    (seat_so g w bytes k seat.epoch x over fits is (at ∙ ap (λ (v : Seat). Some v) (sym same)))

served_so : (g : Ground) (w : Grand) (bytes : List ℕ) (k : ℕ) → g.owner.kind ≢ Tunnel → Focus g (w.hub.session g.owner) (row w.hub g.owner) g.link → g.link.server.is_over ≡ false
    → k ≤ length (readable B g.link.link) → bytes ≡ take k (readable B g.link.link) → Stands g w.hub (draw_at g.link w) bytes w.now (served bytes g.link w)
unfolding served piece_done
served_so g w bytes k known x over fits is = piece_stands g w bytes k g.link.server.seat known x over fits is refl

-- the link that a piece makes
abbrev pub piece_link : List ℕ → Found → Grand → GrandLink
piece_link bytes f w =
    let c = came_whole (served bytes f.link w) in link_after bytes c.is_over (settled w.now c) f.link (draw_at f.link w)

pub piece_changes : (bytes : List ℕ) (k n m : ℕ) (f : Found) (w : Grand) → WorldKeeps w → f.place.client ≡ suc n → f.place.link ≡ suc m → slice_get w.clients n ≡ Some f.client
    → slice_get f.client.links m ≡ Some f.link → f.link.server.is_over ≡ false → k ≤ length (readable B f.link.link) → bytes ≡ take k (readable B f.link.link)
    → Changes n f.client (with_link (suc m) (piece_link bytes f w) f.client) w (piece_came whole bytes f w)
unfolding piece_came
piece_changes bytes k n m f w keeps client_number link_number client link over fits bytes_are =
    let is : IsFound n m f w = record { keeps = keeps; client_number = client_number; link_number = link_number; client = client; link = link; over = over } in
    let c = came_whole (served bytes f.link w) in
    changes_by bytes c.is_over (settled w.now c) n m f w is
    (served_so (ground_at n m f w is) w bytes k (part_at n m f w is).kind (focus_at n m f w is) over fits bytes_are)
