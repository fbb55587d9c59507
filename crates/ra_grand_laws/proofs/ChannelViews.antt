-- An attached client and the session of its key are the two ends of a view, once the client has looked for bytes.
use Rattle.std.proofs.Common.{◌≡◌, ℕ, false, Option, Some, None, List, ap, sym, ◌∙◌, subst, arith}
use Rattle.ra_base.specs.declared.event.Side.TheVariants.{A}
use Rattle.ra_model.specs.Links.{Link, at_number, put_number, read_on}
use Rattle.ra_model.specs.Views.{View}
use Rattle.ra_model.specs.Worlds.{Peer}
use Rattle.ra_registry.specs.declared.row.Row.{Row}
use Rattle.ra_session.specs.Sessions.{Session}
use Rattle.ra_link_core.specs.LinkRuns.{Welcome}
use Rattle.ra_views.proofs.LinkTurns.{link_fed}
use Rattle.ra_views.proofs.OtherLinks.{view_anew}
use Rattle.ra_dial.specs.declared.stage.Stage.{Stage}
use Rattle.ra_dial.specs.declared.stage.Stage.TheVariants as stages
use Rattle.ra_grand_runs.specs.GrandClients.{Client}
use Rattle.ra_link_laws.specs.Parts.{IsWelcome, HasWelcome, IsServer, StageKeeps, PartHolds}
use Rattle.ra_grand_laws.specs.ChannelParts.{IsOrBegins}
use Rattle.ra_grand_laws.proofs.ChannelTurns.{HearsFrom}

-- the view with the session of the server, or with one that begins
pub view_from : (session : Option Session) (p peer : Peer) (number present : ℕ) (session_links : List Link) (s : Session) → IsServer session peer present → IsOrBegins session s
    → View 0 A number present p peer session_links → View 0 A number present p s.peer session_links
view_from None p peer number present session_links s server begins view =
    subst (λ (x : Session). View 0 A number present p x.peer session_links) (sym begins.1)
    (view_anew 0 A number present p peer session_links view 0 server.0 begins.0 false server.1)
view_from (Some t) p peer number present session_links s server begins view =
    subst (λ (x : Session). View 0 A number present p x.peer session_links) (sym begins) (subst (λ (q : Peer). View 0 A number present p q session_links) server.0 view)

pub hears_from : (session : Option Session) (o : Option Row) (c : Client) → PartHolds session o c → c.dialer.stage ≡ stages.Attached → HearsFrom session c.dialer.session
hears_from session o c part is s now begins feeds =
    let stage : StageKeeps c part.draws part.session_links part.number part.attached stages.Attached =
    subst (λ (x : Stage). StageKeeps c part.draws part.session_links part.number part.attached x) is part.stage in
    let last = stage.1 in
    let on = last.4 in
    let has : IsWelcome c.key (part.draws last.0) part.session_links last.1 on.welcome =
    subst (λ (x : Option Welcome). HasWelcome c.key (part.draws last.0) part.session_links last.1 x) on.is_there (part.links last.0 last.1 last.3).welcome in
    let at : at_number part.session_links part.number ≡ Some has.session_link = ap (λ (e : ℕ). at_number part.session_links e) (sym on.is_number) ∙ has.is_at in (
      part.number,
      part.present,
      put_number part.session_links part.number (read_on A 0 has.session_link),
      link_fed 0 A part.number part.present c.dialer.session s.peer part.session_links
          (view_from session c.dialer.session.peer part.peer part.number part.present part.session_links s part.server begins part.view)
          0 c.dialer.session.peer.endpoint.epoch now has.session_link at (omega arith) feeds,
    )
