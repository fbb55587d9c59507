-- What a piece makes of a link: of one of the key in both worlds, and of one of another key.
use Rattle.std.proofs.Common.{◌≡◌, ◌≢◌, ℕ, ◌<◌, ◌≤◌, Bool, true, false, Option, Some, None, is_some, Result, Ok, Err, List, [], ◌++◌, take, drop, refl, ap, sym, ◌∙◌, subst, arith, append_assoc}
use Rattle.ra_base.specs.declared.event.Side.TheVariants.{B}
use Rattle.ra_base.specs.declared.handshake.Request.{Request}
use Rattle.ra_base.specs.declared.key.Key.{Key}
use Rattle.ra_base.specs.declared.key.Seat.{Seat}
use Rattle.ra_base.specs.declared.kind.Kind.TheVariants.{Tunnel}
use Rattle.ra_model.specs.Links.{Link, readable}
use Rattle.ra_registry.specs.Rows.{same_key}
use Rattle.ra_upgrade.specs.declared.request_head.HeadFault.{HeadFault}
use Rattle.ra_upgrade.specs.declared.request_head.Upgrade.{Upgrade}
use Rattle.ra_items.specs.Heads.{Head}
use Rattle.ra_opening.specs.Openings.{Opened, opened, Stage}
use Rattle.ra_opening.specs.Openings.Stage.{Heading, Shaking, Asked, Over}
use Rattle.ra_hub.specs.Hubs.{Hub, row}
use Rattle.ra_hub.specs.Jobs.{SeenJob}
use Rattle.ra_link_core.specs.LinkRuns.{Serving, Welcome, served as served_by, asked, opening_by, opening_came, with_piece, turns_for, piece_by, piece_done}
use Rattle.ra_link_core.proofs.GrowLemmas.{grows_asked}
use Rattle.ra_grand_runs.specs.Draws.{draws_after, own_then}
use Rattle.ra_grand_runs.specs.GrandClients.{GrandLink, Client}
use Rattle.ra_grand_runs.specs.Grands.{Grand}
use Rattle.ra_grand_runs.specs.Reached.{read_of}
use Rattle.ra_grand_runs.specs.ServedLinks.{draw_at, serving_at, served}
use Rattle.ra_grand_runs.specs.SetUps.{settings_for, request_head, grounds}
use Rattle.ra_handshake_laws.specs.Handshakes.{client_text, request_for, OpensAt}
use Rattle.ra_handshake_laws.proofs.OpenedFronts.{opens}
use Rattle.ra_link_laws.specs.Parts.{Drawn, HasWelcome, IsOpening, EndStands, LinkKeeps, PartHolds}
use Rattle.ra_isolation_laws.specs.Isolation.{drawn_by, jobs_for}
use Rattle.ra_isolation_laws.proofs.IsolatedClaims.{Claims, claims_on, any_at}
use Rattle.ra_isolation_laws.proofs.IsolatedHubs.{Agree, IsOf}
use Rattle.ra_isolation_laws.proofs.IsolatedOpenings.{draws_same, opened_same, front_up}
use Rattle.ra_isolation_laws.proofs.IsolatedPieces.{ServeAlike, serve_served, serve_asked, serve_at_end}
use Rattle.ra_isolation_laws.proofs.OthersPieces.{Beside, beside_served, beside_asked}
use Rattle.std.specs.Prelude.{slice_get}

-- ---- the opening of a link of the key

-- it takes back no draw
drawn_kept : (stage : Stage) (text : List ℕ) (now : ℕ) (s : Serving) → s.drawn ≤ (opening_by stage text now s).drawn
drawn_kept Heading text now s = omega arith
drawn_kept (Shaking shake) text now s = omega arith
drawn_kept (Asked request place) text now s = (grows_asked request place (drop place text) now s).happens.drawn
drawn_kept (Over end) text now s = omega arith

serve_by_stage : (owner : Key) (reconnection : Bool) (key own theirs draw text : List ℕ) (stage : Stage) (o : Opened) (now : ℕ) (s t : Serving)
    → OpensAt owner reconnection key own theirs draw text stage o → (reconnection ≡ true → is_some (row s.hub owner) ≡ true)
    → ServeAlike owner s t → ServeAlike owner (opening_by stage text now s) (opening_by stage text now t)
serve_by_stage owner reconnection key own theirs draw text Heading o now s t at there both = both
serve_by_stage owner reconnection key own theirs draw text (Shaking shake) o now s t at there both = both
serve_by_stage owner reconnection key own theirs draw text (Asked request place) o now s t at there both =
    subst (λ (q : Request). ServeAlike owner (asked q place (drop place text) now s) (asked q place (drop place text) now t)) (sym at.0)
    (serve_asked (request_for owner reconnection) place (drop place text) now s t there both)
serve_by_stage owner reconnection key own theirs draw text (Over end) o now s t at there both = serve_at_end owner _ s t both

-- the draws that were made are the same
abbrev SameDraws : Serving → (one other : ℕ → List ℕ) → Type 0
SameDraws u one other = 0 < u.drawn → one 0 ≡ other 0

serve_opening : (owner : Key) (reconnection : Bool) (key own theirs text rest : List ℕ) (one other : ℕ → List ℕ) (now : ℕ) (s t : Serving) → owner.kind ≢ Tunnel
    → text ++ rest ≡ client_text owner reconnection key own theirs → (reconnection ≡ true → is_some (row s.hub owner) ≡ true) → ServeAlike owner s t
    → SameDraws (opening_came (opened (grounds one) (request_head (settings_for owner) reconnection key) text) text now s) one other
    → ServeAlike owner (opening_came (opened (grounds one) (request_head (settings_for owner) reconnection key) text) text now s)
    (opening_came (opened (grounds other) (request_head (settings_for owner) reconnection key) text) text now t)
serve_opening owner reconnection key own theirs text rest one other now s t known same there both draws =
    let o : Opened = opened (grounds one) (request_head (settings_for owner) reconnection key) text in
    let less : o.drawn ≤ (opening_came o text now s).drawn = drawn_kept o.stage text now (record s { out = o.out; drawn = o.drawn }) in
    let so : o ≡ opened (grounds other) (request_head (settings_for owner) reconnection key) text =
    opened_same owner reconnection key own theirs text rest one other known same (λ some. draws (omega (arith, less, some))) in
    subst (λ (p : Opened). ServeAlike owner (opening_came o text now s) (opening_came p text now t)) so
    (serve_by_stage owner reconnection key own theirs (one 0) text o.stage o now (record s { out = o.out; drawn = o.drawn }) (record t { out = o.out; drawn = o.drawn })
    (opens owner reconnection key own theirs one text rest known same) there (record {
      seat = both.seat;
      welcome = both.welcome;
      out = refl;
      drawn = refl;
      events = both.events;
      end = both.end;
      hub = both.hub;
      jobs = both.jobs;
      own = both.own;
    }))

-- ---- the text of a link

-- a front of what its client writes, where it has no welcome
pub record IsFront (owner : Key) (d : Drawn) (text : List ℕ) : Type 0 where
  pub theirs : List ℕ
  pub rest : List ℕ
  pub same : text ++ rest ≡ client_text owner d.reconnection d.key d.own theirs

front_of : (owner : Key) (d : Drawn) (session_links : List Link) (present : ℕ) (l : GrandLink) (k : ℕ) → LinkKeeps owner d session_links present l → IsOpening l.server
    → IsFront owner d (l.server.seen ++ take k (readable B l.link))
front_of owner d session_links present l k keeps opening =
    let front = front_up k l.link in
    let written = subst (λ (w : Option Welcome). HasWelcome owner d session_links l w) opening.welcome keeps.welcome in
    record {
      theirs = written.0;
      rest = front.0 ++ written.1;
      same =
          ap (λ (x : List ℕ). (x ++ take k (readable B l.link)) ++ (front.0 ++ written.1)) keeps.seen
          ∙ sym (append_assoc (read_of l.link.to_b ++ take k (readable B l.link)) front.0 written.1)
          ∙ ap (λ (x : List ℕ). x ++ written.1) front.1
          ∙ written.2;
    }

-- ---- a piece on a link of the key

serve_by_seat : (owner : Key) (d : Drawn) (session_links : List Link) (present k : ℕ) (l : GrandLink) (seat : Option Seat) (one other : ℕ → List ℕ) (now : ℕ) (s t : Serving)
    → owner.kind ≢ Tunnel → LinkKeeps owner d session_links present l → EndStands owner session_links present l false seat → (d.reconnection ≡ true → is_some (row s.hub owner) ≡ true) → ServeAlike owner s t
    → (h : Head Upgrade HeadFault) → h ≡ request_head (settings_for owner) d.reconnection d.key
    → SameDraws (piece_by None seat (grounds one) (with_piece h l.server.seen (take k (readable B l.link))) h (record { bytes = take k (readable B l.link); now = now }) s) one other
    → ServeAlike owner (piece_by None seat (grounds one) (with_piece h l.server.seen (take k (readable B l.link))) h (record { bytes = take k (readable B l.link); now = now }) s)
    (piece_by None seat (grounds other) (with_piece h l.server.seen (take k (readable B l.link))) h (record { bytes = take k (readable B l.link); now = now }) t)
unfolding with_piece
serve_by_seat owner d session_links present k l (Some seat) one other now s t known keeps stands there both h head draws =
    let bytes : List ℕ = take k (readable B l.link) in
    subst (λ (q : Key). ServeAlike q (served_by (turns_for bytes) seat bytes now s) (served_by (turns_for bytes) seat bytes now t)) stands.key
    (serve_served (turns_for bytes) seat bytes now s t (subst (λ (q : Key). ServeAlike q s t) (sym stands.key) both))
serve_by_seat owner d session_links present k l None one other now s t known keeps stands there both h head draws =
    let bytes : List ℕ = take k (readable B l.link) in
    let front = front_of owner d session_links present l k keeps stands in
    subst
    (λ (g : Head Upgrade HeadFault).
    SameDraws (opening_came (opened (grounds one) g (with_piece g l.server.seen bytes)) (with_piece g l.server.seen bytes) now s) one other
    → ServeAlike owner (opening_came (opened (grounds one) g (with_piece g l.server.seen bytes)) (with_piece g l.server.seen bytes) now s)
    (opening_came (opened (grounds other) g (with_piece g l.server.seen bytes)) (with_piece g l.server.seen bytes) now t))
    (sym head)
    (serve_opening owner d.reconnection d.key d.own front.theirs (l.server.seen ++ bytes) front.rest one other now s t known front.same there both)
    draws

-- the request on a link claims what its head says
claims_so : (owner : Key) (d : Drawn) (l : GrandLink) → l.server.head ≡ request_head (settings_for owner) d.reconnection d.key → claims_on l ≡ d.reconnection
claims_so owner d l head = ap (λ (h : Head Upgrade HeadFault). claims_head h) head
  where
    claims_says : Result Upgrade HeadFault → Bool
    claims_says (Ok upgrade) = upgrade.reconnection
    claims_says (Err fault) = false

    claims_head : Head Upgrade HeadFault → Bool
    claims_head h = claims_says h.says

-- what is made of a link by a piece where the client is alone, by these draws
abbrev pub served_alone : List (List ℕ) → List ℕ → GrandLink → Grand → Serving
served_alone draws bytes l a =
    piece_done (grounds (own_then (l.server.drawn ++ draws) (λ n. []))) l.server.head l.server.seen (record { bytes = bytes; now = a.now }) (serving_at l a)

pub serve_piece : (key : Key) (k m : ℕ) (c : Client) (l : GrandLink) (w a : Grand) → PartHolds (w.hub.session c.key) (row w.hub c.key) c → slice_get c.links m ≡ Some l
    → l.server.is_over ≡ false → c.key ≡ key → Claims (row w.hub key) c → w.now ≡ a.now → Agree key w.hub a.hub → jobs_for key w.jobs ≡ a.jobs
    → ServeAlike key (served (take k (readable B l.link)) l w)
    (served_alone (drawn_by l (served (take k (readable B l.link)) l w) w.drawn) (take k (readable B l.link)) l a)
unfolding served piece_done
serve_piece key k m c l w a part at over same claims now agree jobs =
    let bytes : List ℕ = take k (readable B l.link) in
    let d : Drawn = part.draws m in
    let keeps : LinkKeeps c.key d part.session_links part.present l = part.links m l at in
    let u : Serving = served bytes l w in
    let own : List (List ℕ) = l.server.drawn in
    let other : ℕ → List ℕ = own_then (own ++ drawn_by l u w.drawn) (λ n. []) in
    let stands : EndStands c.key part.session_links part.present l false l.server.seat =
    subst (λ (b : Bool). EndStands c.key part.session_links part.present l b l.server.seat) over keeps.end in
    subst (λ (q : Key). ServeAlike q u (served_alone (drawn_by l u w.drawn) bytes l a)) same
    (subst
    (λ (t : ℕ). ServeAlike c.key u
    (piece_by None l.server.seat (grounds other) (with_piece l.server.head l.server.seen bytes) l.server.head (record { bytes = bytes; now = t }) (serving_at l a)))
    now
    (serve_by_seat c.key d part.session_links part.present k l l.server.seat (draw_at l w) other w.now (serving_at l w) (serving_at l a) part.kind keeps stands
    (λ some. ap (λ (q : Key). is_some (row w.hub q)) same ∙ claims.links (any_at c.links m l at (claims_so c.key d l keeps.head ∙ some)))
    (record {
      seat = refl;
      welcome = refl;
      out = refl;
      drawn = refl;
      events = refl;
      end = refl;
      hub = subst (λ (q : Key). Agree q w.hub a.hub) (sym same) agree;
      jobs = ap (λ (q : Key). jobs_for q w.jobs) same ∙ jobs;
      own = own_seat l.server.seat stands;
    })
    l.server.head keeps.head (λ some. sym (draws_same own u.drawn 0 (draws_after w.drawn) (λ n. []) some))))
  where
    own_seat : (seat : Option Seat) → EndStands c.key part.session_links part.present l false seat → IsOf c.key seat
    own_seat None stands = tt
    own_seat (Some seat) stands = stands.key

-- ---- a piece on a link of another key

beside_by_stage : (key owner : Key) (reconnection : Bool) (drawn own theirs draw text : List ℕ) (stage : Stage) (o : Opened) (now : ℕ) (h : Hub) (jobs : List SeenJob) (s : Serving)
    → same_key owner key ≡ false → OpensAt owner reconnection drawn own theirs draw text stage o → Beside key owner now h jobs s → Beside key owner now h jobs (opening_by stage text now s)
beside_by_stage key owner reconnection drawn own theirs draw text Heading o now h jobs s apart at beside = beside
beside_by_stage key owner reconnection drawn own theirs draw text (Shaking shake) o now h jobs s apart at beside = beside
beside_by_stage key owner reconnection drawn own theirs draw text (Asked request place) o now h jobs s apart at beside =
    subst (λ (q : Request). Beside key owner now h jobs (asked q place (drop place text) now s)) (sym at.0)
    (beside_asked key (request_for owner reconnection) place (drop place text) now h jobs s apart beside)
beside_by_stage key owner reconnection drawn own theirs draw text (Over end) o now h jobs s apart at beside =
    record { session = beside.session; row_is = beside.row_is; times = beside.times; jobs_are = beside.jobs_are; seat = beside.seat }

beside_by_seat : (key owner : Key) (d : Drawn) (session_links : List Link) (present k : ℕ) (l : GrandLink) (seat : Option Seat) (one : ℕ → List ℕ) (now : ℕ) (h : Hub) (jobs : List SeenJob) (s : Serving)
    → same_key owner key ≡ false → owner.kind ≢ Tunnel → LinkKeeps owner d session_links present l → EndStands owner session_links present l false seat → Beside key owner now h jobs s
    → (g : Head Upgrade HeadFault) → g ≡ request_head (settings_for owner) d.reconnection d.key
    → Beside key owner now h jobs (piece_by None seat (grounds one) (with_piece g l.server.seen (take k (readable B l.link))) g (record { bytes = take k (readable B l.link); now = now }) s)
unfolding with_piece
beside_by_seat key owner d session_links present k l (Some seat) one now h jobs s apart known keeps stands beside g head =
    let bytes : List ℕ = take k (readable B l.link) in
    subst (λ (q : Key). Beside key q now h jobs (served_by (turns_for bytes) seat bytes now s)) stands.key
    (beside_served (turns_for bytes) key seat bytes now h jobs s (ap (λ (q : Key). same_key q key) stands.key ∙ apart)
    (subst (λ (q : Key). Beside key q now h jobs s) (sym stands.key) beside))
beside_by_seat key owner d session_links present k l None one now h jobs s apart known keeps stands beside g head =
    let bytes : List ℕ = take k (readable B l.link) in
    let front = front_of owner d session_links present l k keeps stands in
    let o : Opened = opened (grounds one) (request_head (settings_for owner) d.reconnection d.key) (l.server.seen ++ bytes) in
    subst
    (λ (x : Head Upgrade HeadFault). Beside key owner now h jobs (opening_came (opened (grounds one) x (with_piece x l.server.seen bytes)) (with_piece x l.server.seen bytes) now s))
    (sym head)
    (beside_by_stage key owner d.reconnection d.key d.own front.theirs (one 0) (l.server.seen ++ bytes) o.stage o now h jobs (record s { out = o.out; drawn = o.drawn }) apart
    (opens owner d.reconnection d.key d.own front.theirs one (l.server.seen ++ bytes) front.rest known front.same)
    (record { session = beside.session; row_is = beside.row_is; times = beside.times; jobs_are = beside.jobs_are; seat = beside.seat }))

pub beside_piece : (key : Key) (k m : ℕ) (c : Client) (l : GrandLink) (w : Grand) → PartHolds (w.hub.session c.key) (row w.hub c.key) c → slice_get c.links m ≡ Some l
    → l.server.is_over ≡ false → same_key c.key key ≡ false → Beside key c.key w.now w.hub w.jobs (served (take k (readable B l.link)) l w)
unfolding served piece_done
beside_piece key k m c l w part at over apart =
    let keeps : LinkKeeps c.key (part.draws m) part.session_links part.present l = part.links m l at in
    let stands : EndStands c.key part.session_links part.present l false l.server.seat =
    subst (λ (b : Bool). EndStands c.key part.session_links part.present l b l.server.seat) over keeps.end in
    beside_by_seat key c.key (part.draws m) part.session_links part.present k l l.server.seat (draw_at l w) w.now w.hub w.jobs (serving_at l w) apart part.kind keeps stands
    (record { session = refl; row_is = refl; times = refl; jobs_are = refl; seat = own_seat l.server.seat stands }) l.server.head keeps.head
  where
    own_seat : (seat : Option Seat) → EndStands c.key part.session_links part.present l false seat → IsOf c.key seat
    own_seat None stands = tt
    own_seat (Some seat) stands = stands.key
