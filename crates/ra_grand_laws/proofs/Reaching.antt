-- What holds in each world that a run reaches.
use Rattle.std.proofs.Common.{◌≡◌, ℕ, zero, suc, Bool, false, Option, Some, None, List, [], length, ap, sym, ◌∙◌, subst}
use Rattle.std.specs.Prelude.{slice_get}
use Rattle.ra_base.specs.declared.key.Seat.{Seat}
use Rattle.ra_model.specs.Links.{at_number}
use Rattle.ra_model.specs.Pairs.{messages}
use Rattle.ra_registry.specs.declared.row.Row.{Row}
use Rattle.ra_session.specs.Sessions.{Session}
use Rattle.ra_hub.specs.Hubs.{row}
use Rattle.ra_link_core.specs.LinkRuns.{Welcome}
use Rattle.ra_dial.specs.declared.stage.Stage.{Stage}
use Rattle.ra_dial.specs.declared.stage.Stage.TheVariants as stages
use Rattle.ra_grand_runs.specs.GrandClients.{GrandLink, Client}
use Rattle.ra_grand_runs.specs.GrandRuns.{run}
use Rattle.ra_grand_runs.specs.Grands.{Grand, new_grand}
use Rattle.ra_grand_runs.specs.Marks.{Entry}
use Rattle.ra_run_laws.specs.Runs.{IsRun}
use Rattle.ra_run_laws.proofs.Lists.{none_there, there_is}
use Rattle.ra_link_laws.specs.Parts.{EndStands, IsSeated, IsAttached, StageKeeps, PartHolds, WorldKeeps}
use Rattle.ra_grand_laws.specs.Ends.{BothHear, LinkHonest, HoldsLink, text_up, text_down, read_up, read_down}
use Rattle.ra_grand_laws.proofs.EndsOfParts.{both_hear, silent, link_honest, client_holds, server_holds}
use Rattle.ra_grand_laws.proofs.FittingRuns.{fits_run}

pub reached : (entries : List Entry) → IsRun entries → WorldKeeps (run entries new_grand)
reached entries is = (fits_run entries is.fits is.keys is.requests).0

-- the part of a client by its number
part_at : (w : Grand) (n : ℕ) (c : Client) (o : Option Session) → WorldKeeps w → at_number w.clients n ≡ Some c → w.hub.session c.key ≡ o → PartHolds o (row w.hub c.key) c
part_at w zero c o keeps is session = none_there is
part_at w (suc n) c o keeps is session = subst (λ (x : Option Session). PartHolds x (row w.hub c.key) c) session (keeps.parts n c is)

pub hear : (w : Grand) (n : ℕ) (c : Client) (s : Session) → WorldKeeps w → at_number w.clients n ≡ Some c → w.hub.session c.key ≡ Some s → BothHear c.dialer.session.peer s.peer
hear w n c s keeps is session = both_hear s (row w.hub c.key) c (part_at w n c (Some s) keeps is session)

pub nothing : (w : Grand) (n : ℕ) (c : Client) → WorldKeeps w → at_number w.clients n ≡ Some c → w.hub.session c.key ≡ None → c.dialer.session.peer.heard ≡ []
nothing w n c keeps is session = silent (row w.hub c.key) c (part_at w n c None keeps is session)

honest_at : (w : Grand) (c : Client) (s : Session) (part : PartHolds (Some s) (row w.hub c.key) c) (m : ℕ) (l : GrandLink) (v : Welcome)
    → at_number c.links m ≡ Some l → l.server.welcome ≡ Some v → LinkHonest c.dialer.session.peer s.peer v l
honest_at w c s part zero l v is welcome = none_there is
honest_at w c s part (suc m) l v is welcome = link_honest s (row w.hub c.key) c part m l v is welcome

pub honest : (w : Grand) (n m : ℕ) (c : Client) (s : Session) (l : GrandLink) (v : Welcome) → WorldKeeps w → at_number w.clients n ≡ Some c → w.hub.session c.key ≡ Some s
    → at_number c.links m ≡ Some l → l.server.welcome ≡ Some v → LinkHonest c.dialer.session.peer s.peer v l
honest w n m c s l v keeps is session there welcome = honest_at w c s (part_at w n c (Some s) keeps is session) m l v there welcome

-- ---- present links

-- an attached client's last link has a welcome
attached_on : (s : Session) (c : Client) (o : Option Row) (part : PartHolds (Some s) o c) (l : GrandLink) → StageKeeps c part.draws part.session_links part.number part.attached stages.Attached
    → at_number c.links (length c.links) ≡ Some l → (n : ℕ) × (slice_get c.links n ≡ Some l) × IsAttached c part.session_links part.number l
attached_on s c o part l on last =
    let h = on.1 in
    let n : ℕ = h.0 in
    let same : h.1 ≡ l = there_is (sym h.3 ∙ ap (λ (k : ℕ). at_number c.links k) (sym h.2) ∙ last) in
    (n, h.3 ∙ ap (λ (x : GrandLink). Some x) same, subst (λ (x : GrandLink). IsAttached c part.session_links part.number x) same h.4)

pub attached : (w : Grand) (n : ℕ) (c : Client) (s : Session) (l : GrandLink) → WorldKeeps w → at_number w.clients n ≡ Some c → w.hub.session c.key ≡ Some s
    → c.dialer.stage ≡ stages.Attached → at_number c.links (length c.links) ≡ Some l → c.dialer.session.cause ≡ None
    → (v : Welcome) × (l.server.welcome ≡ Some v)
    × HoldsLink (messages c.dialer.session.peer.endpoint) c.dialer.session.peer (text_up v l) (read_down v l) l.link.is_cut
attached w n c s l keeps is session stage last running =
    let part = part_at w n c (Some s) keeps is session in
    let on = attached_on s c (row w.hub c.key) part l (subst (λ (t : Stage). StageKeeps c part.draws part.session_links part.number part.attached t) stage part.stage) last in
    (on.2.welcome, on.2.is_there, client_holds s (row w.hub c.key) c part on.0 l on.2.welcome on.1 on.2.is_there on.2 running)

seated_at : (s : Session) (c : Client) (o : Option Row) (part : PartHolds (Some s) o c) (m : ℕ) (l : GrandLink) (seat : Seat) → slice_get c.links m ≡ Some l
    → l.server.is_over ≡ false → l.server.seat ≡ Some seat → IsSeated c.key part.session_links part.present l seat
seated_at s c o part m l seat there over is =
    subst (λ (b : Bool). EndStands c.key part.session_links part.present l b (Some seat)) over
    (subst (λ (x : Option Seat). EndStands c.key part.session_links part.present l l.server.is_over x) is (part.links m l there).end)

seated_on : (w : Grand) (c : Client) (s : Session) (part : PartHolds (Some s) (row w.hub c.key) c) (m : ℕ) (l : GrandLink) (seat : Seat)
    → at_number c.links m ≡ Some l → l.server.is_over ≡ false → l.server.seat ≡ Some seat → seat.epoch ≡ s.peer.endpoint.epoch
    → (v : Welcome) × (l.server.welcome ≡ Some v) × (seat.key ≡ c.key)
    × HoldsLink (messages s.peer.endpoint) s.peer (text_down v l) (read_up v l) l.link.is_cut
seated_on w c s part zero l seat there over is present = none_there there
seated_on w c s part (suc m) l seat there over is present =
    let seated = seated_at s c (row w.hub c.key) part m l seat there over is in
    (seated.welcome, seated.is_there, seated.key, server_holds s (row w.hub c.key) c part m l seated.welcome seat there seated.is_there seated present)

pub seated : (w : Grand) (n m : ℕ) (c : Client) (s : Session) (l : GrandLink) (seat : Seat) → WorldKeeps w → at_number w.clients n ≡ Some c → w.hub.session c.key ≡ Some s
    → at_number c.links m ≡ Some l → l.server.is_over ≡ false → l.server.seat ≡ Some seat → seat.epoch ≡ s.peer.endpoint.epoch
    → (v : Welcome) × (l.server.welcome ≡ Some v) × (seat.key ≡ c.key)
    × HoldsLink (messages s.peer.endpoint) s.peer (text_down v l) (read_up v l) l.link.is_cut
seated w n m c s l seat keeps is session there over seat_is present =
    seated_on w c s (part_at w n c (Some s) keeps is session) m l seat there over seat_is present
