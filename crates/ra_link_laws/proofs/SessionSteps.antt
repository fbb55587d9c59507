-- Calls of a session that keep the part of its client: no link of it begins or ends there, and nothing is put on one.
use Rattle.std.proofs.Common.{◌≡◌, ℕ, Bool, true, false, cond, Option, Some, None, option_map, List, refl, sym, ◌∙◌, subst}
use Rattle.ra_base.specs.declared.event.Side.TheVariants.{A, B}
use Rattle.ra_model.specs.Endpoints.{is_linked}
use Rattle.ra_model.specs.Links.{Link, at_number}
use Rattle.ra_model.specs.Pairs.{messages, IsLater}
use Rattle.ra_model.specs.Views.{View}
use Rattle.ra_model.specs.Worlds.{Peer}
use Rattle.ra_model.proofs.Honesty.{at_number_more, joining_grown}
use Rattle.ra_model.proofs.Later.{later_refl}
use Rattle.ra_model.proofs.Sound.{turned}
use Rattle.ra_registry.specs.declared.row.Row.{Row}
use Rattle.ra_session.specs.OnLinks.{IsRunning}
use Rattle.ra_session.specs.Sessions.{Session}
use Rattle.ra_views.specs.SessionViews.{KeepsSessionViews, SessionOnlyGrows}
use Rattle.ra_grand_runs.specs.GrandClients.{Client}
use Rattle.ra_link_laws.specs.Parts.{WritesWhole, PartHolds}

-- a call keeps every view, the number of the session's link, and that it runs
pub record IsKept (call : Session → Session) : Type 0 where
  pub views : KeepsSessionViews call
  pub number : (s : Session) → (call s).peer.endpoint.epoch ≡ s.peer.endpoint.epoch
  pub runs : (s : Session) → IsRunning s → IsRunning (call s)
  pub grows : SessionOnlyGrows call
  pub linked : (s : Session) → is_linked (call s).peer.endpoint.phase ≡ true → is_linked s.peer.endpoint.phase ≡ true

pub kept_itself : IsKept (λ (s : Session). s)
kept_itself = record {
  views = λ start side i j s o links v. v;
  number = λ s. refl;
  runs = λ s runs. runs;
  grows = λ s. later_refl s.peer;
  linked = λ s linked. linked;
}

pub kept_if : (b : Bool) (f g : Session → Session) → IsKept f → IsKept g → IsKept (λ (s : Session). cond b (f s) (g s))
kept_if true f g so other = so
kept_if false f g so other = other

-- a choice that looks at the session itself
pub kept_by : (b : Session → Bool) (f g : Session → Session) → IsKept f → IsKept g → IsKept (λ (s : Session). cond (b s) (f s) (g s))
kept_by b f g so other = record {
  views = λ start side i j s o links v. (kept_if (b s) f g so other).views start side i j s o links v;
  number = λ s. (kept_if (b s) f g so other).number s;
  runs = λ s runs. (kept_if (b s) f g so other).runs s runs;
  grows = λ s. (kept_if (b s) f g so other).grows s;
  linked = λ s linked. (kept_if (b s) f g so other).linked s linked;
}

-- what was written stays whole frames
pub whole_later : (o p : Peer) (x : Link) → IsLater o p → (is_linked p.endpoint.phase ≡ true → is_linked o.endpoint.phase ≡ true) → WritesWhole o x → WritesWhole p x
whole_later o p x later linked whole = λ kept is.
    joining_grown 0 (record { still = λ n body there. stays n body there; more = later.received }) x.to_a.written (whole kept (linked is))
  where
    stays : (n : ℕ) (body : List ℕ) → at_number (messages o.endpoint) n ≡ Some body → at_number (messages p.endpoint) n ≡ Some body
    stays n body there =
        subst (λ (l : List (List ℕ)). at_number l n ≡ Some body) later.said.1 (at_number_more (messages o.endpoint) later.said.0 n body there)

-- the part, once the session of its key is changed so
pub part_session : (s : Session) (o : Option Row) (c : Client) (call : Session → Session) → IsKept call → PartHolds (Some s) o c → PartHolds (Some (call s)) o c
part_session s o c call kept part = record {
  token = part.token;
  kind = part.kind;
  settings = part.settings;
  pending = part.pending;
  runs = part.runs;
  session_links = part.session_links;
  number = part.number;
  present = part.present;
  peer = (call s).peer;
  view =
      turned 0 B part.present part.number (call s).peer c.dialer.session.peer part.session_links
      (kept.views 0 B part.present part.number s c.dialer.session.peer part.session_links
      (subst (λ (p : Peer). View 0 B part.present part.number p c.dialer.session.peer part.session_links) part.server.0
      (turned 0 A part.number part.present c.dialer.session.peer part.peer part.session_links part.view)));
  server = (refl, kept.number s ∙ part.server.1, kept.runs s part.server.2);
  whole = λ x is. whole_later part.peer (call s).peer x
      (subst (λ (p : Peer). IsLater p (call s).peer) (sym part.server.0) (kept.grows s))
      (λ linked. subst (λ (p : Peer). is_linked p.endpoint.phase ≡ true) (sym part.server.0) (kept.linked s linked)) (part.whole x is);
  count = part.count;
  both = part.both;
  draws = part.draws;
  links = part.links;
  apart = part.apart;
  attached = part.attached;
  later = part.later;
  stage = part.stage;
}

pub part_mapped : (o : Option Session) (r : Option Row) (c : Client) (call : Session → Session) → IsKept call → PartHolds o r c → PartHolds (option_map call o) r c
part_mapped None r c call kept part = part
part_mapped (Some s) r c call kept part = part_session s r c call kept part
