-- One link with the session of its key, when the session or its row changes, when the link does, or a link of the session, and when one is added.
use Rattle.std.proofs.Common.{◌≡◌, ℕ, ◌+◌, ◌≤◌, Bool, true, false, Option, Some, None, option_map, List, [], ◌∷◌, ◌++◌, length, refl, ap, sym, ◌∙◌, subst, arith, ⊎_elim}
use Rattle.std.specs.Prelude.{slice_get}
use Rattle.std.specs.Option.{is_some}
use Rattle.std.proofs.lemmas.Bool.{false≢true}
use Rattle.std.proofs.lemmas.List.{length_push}
use Rattle.ra_base.specs.declared.event.Side.TheVariants.{A, B}
use Rattle.ra_base.specs.declared.kind.Kind.{Kind}
use Rattle.ra_model.specs.declared.frame.Frame.{Frame}
use Rattle.ra_model.specs.Links.{Link, at_number, put_number}
use Rattle.ra_model.specs.Pairs.{AllHonest}
use Rattle.ra_model.specs.Views.{View, new_peer}
use Rattle.ra_model.specs.Worlds.{Peer}
use Rattle.ra_model.proofs.Numbers.{put_cases, at_number_old, at_number_within, length-put_number}
use Rattle.ra_model.proofs.Sound.{turned}
use Rattle.ra_registry.specs.declared.row.Row.{Row}
use Rattle.ra_registry.specs.Rows.{epoch_of}
use Rattle.ra_session.specs.Saying.{serving}
use Rattle.ra_session.specs.Sessions.{Session}
use Rattle.ra_views.specs.SessionViews.{link_with}
use Rattle.ra_views.proofs.OtherLinks.{view_made, view_anew}
use Rattle.ra_link_core.specs.LinkRuns.{Welcome}
use Rattle.ra_grand_runs.specs.GrandClients.{GrandLink}
use Rattle.ra_run_laws.specs.KeptRows.{RowsAgree}
use Rattle.ra_run_laws.proofs.Lists.{there_is, number_same}
use Rattle.ra_link_laws.specs.Parts.{HasWelcome, IsWelcome, LinkKeeps, IsServer, WritesWhole}
use Rattle.ra_link_laws.proofs.LinksStay.{link_elsewhere, link_more}
use Rattle.ra_link_laws.proofs.ServedFocus.{Ground, StaysBelow, ReadsSame, Focus}
use Rattle.ra_link_laws.proofs.SessionSteps.{IsKept, whole_later}

-- ---- the session, and its row

pub focus_rows : (g : Ground) (s : Option Session) (o p : Option Row) (l : GrandLink) → RowsAgree o p → Focus g s o l → Focus g s p l
focus_rows g s o p l agree f = record {
  session_links = f.session_links;
  present = f.present;
  peer = f.peer;
  view = f.view;
  server = f.server;
  whole = f.whole;
  count = f.count ∙ sym agree.epoch;
  both = f.both ∙ sym agree.there;
  here = f.here;
  elsewhere = f.elsewhere;
  apart = f.apart;
  later = f.later;
  stays = f.stays;
  reads = f.reads;
}

pub focus_called : (g : Ground) (s : Option Session) (o : Option Row) (l : GrandLink) (call : Session → Session) → IsKept call → Focus g s o l → Focus g (option_map call s) o l
focus_called g None o l call kept f = f
focus_called g (Some s) o l call kept f = record {
  session_links = f.session_links;
  present = f.present;
  peer = (call s).peer;
  view =
      turned 0 B f.present g.number (call s).peer g.near f.session_links
      (kept.views 0 B f.present g.number s g.near f.session_links
      (subst (λ (p : Peer). View 0 B f.present g.number p g.near f.session_links) f.server.0 (turned 0 A g.number f.present g.near f.peer f.session_links f.view)));
  server = (refl, kept.number s ∙ f.server.1, kept.runs s f.server.2);
  whole = λ x at. whole_later s.peer (call s).peer x (kept.grows s) (kept.linked s) (subst (λ (p : Peer). WritesWhole p x) f.server.0 (f.whole x at));
  count = f.count;
  both = f.both;
  here = f.here;
  elsewhere = f.elsewhere;
  apart = f.apart;
  later = f.later;
  stays = f.stays;
  reads = f.reads;
}

-- ---- the link

-- it has the welcome that it had, or none
pub focus_moved : (g : Ground) (s : Option Session) (o : Option Row) (l after : GrandLink) (f : Focus g s o l) → LinkKeeps g.owner (g.draws g.place) f.session_links f.present after
    → StaysBelow g.link after → after.server.welcome ≡ l.server.welcome → Focus g s o after
focus_moved g s o l after f here stays same = record {
  session_links = f.session_links;
  present = f.present;
  peer = f.peer;
  view = f.view;
  server = f.server;
  whole = f.whole;
  count = f.count;
  both = f.both;
  here = here;
  elsewhere = f.elsewhere;
  apart = λ n k v u ne is one other alike. f.apart n k v u ne is one (sym same ∙ other) alike;
  later = λ u behind is. f.later u behind (sym same ∙ is);
  stays = stays;
  reads = f.reads;
}

-- ---- a link of the session

reads_put : (number : ℕ) (old session_links : List Link) (n : ℕ) (x y : Link) → ReadsSame number old session_links → at_number session_links n ≡ Some x → y.to_a.read ≡ x.to_a.read
    → ReadsSame number old (put_number session_links n y)
reads_put number old session_links n x y reads at same z is = ⊎_elim
    (λ q. let r = reads x (subst (λ (i : ℕ). at_number session_links i ≡ Some x) (sym q.0) at) in (r.0, r.1, r.2 ∙ sym same ∙ ap (λ (v : Link). v.to_a.read) q.1))
    (λ q. reads z q.1) (put_cases session_links n number y z is)

-- the link of this welcome is the session's present one, and the session's one of it has become another
pub focus_session_links : (g : Ground) (s t : Option Session) (o : Option Row) (l after : GrandLink) (f : Focus g s o l) (w : Welcome) (peer : Peer) (x y : Link)
    → l.server.welcome ≡ Some w → after.server.welcome ≡ Some w → at_number f.session_links w.epoch ≡ Some x → y.to_a.read ≡ x.to_a.read
    → View 0 B w.epoch g.number peer g.near (put_number f.session_links w.epoch y) → IsServer t peer w.epoch → WritesWhole peer y → is_some t ≡ is_some s
    → LinkKeeps g.owner (g.draws g.place) (put_number f.session_links w.epoch y) w.epoch after → StaysBelow g.link after → Focus g t o after
focus_session_links g s t o l after f w peer x y first second there same view server whole both here stays = record {
  session_links = put_number f.session_links w.epoch y;
  present = w.epoch;
  peer = peer;
  view = turned 0 B w.epoch g.number peer g.near (put_number f.session_links w.epoch y) view;
  server = server;
  whole = λ z at. subst (λ (v : Link). WritesWhole peer v) (there_is (sym (number_same f.session_links w.epoch y x there) ∙ at)) whole;
  count = length-put_number f.session_links w.epoch y ∙ f.count;
  both = both ∙ f.both;
  here = here;
  elsewhere = λ n k ne is.
      link_elsewhere g.owner (g.draws n) f.session_links f.present w.epoch w.epoch y k (λ u has at. f.apart n k u w ne is has first (sym at))
      (λ u has at. absurd (f.apart n k u w ne is has first at)) (f.elsewhere n k ne is);
  apart = λ n k v u ne is one other alike. f.apart n k v u ne is one (first ∙ sym second ∙ other) alike;
  later = λ u behind is. f.later u behind (first ∙ sym second ∙ is);
  stays = stays;
  reads = reads_put g.number g.session_links f.session_links w.epoch x y f.reads there same;
}

-- ---- one more

-- the session that a key has once it was admitted: a new one, where it had none
abbrev pub Admits : Kind → Option Session → Option Session → Type 0
Admits kind None t = (now : ℕ) × (t ≡ Some (serving kind now))
Admits kind (Some s) t = t ≡ Some s

record NewEnd (g : Ground) (t : Option Session) (present : ℕ) (session_links : List Link) : Type 0 where
  peer : Peer
  view : View 0 B present g.number peer g.near session_links
  server : IsServer t peer present
  whole : (x : Link) → at_number session_links present ≡ Some x → WritesWhole peer x
  there : is_some t ≡ true

new_end : (g : Ground) (s t : Option Session) (o : Option Row) (l : GrandLink) (f : Focus g s o l) (frames : List Frame) (cut : Bool) → Admits g.owner.kind s t
    → ((said : List (List ℕ)) (received : ℕ) → AllHonest 0 said received frames) → NewEnd g t f.present (f.session_links ++ link_with A frames cut ∷ [])
new_end g None t o l f frames cut (now, is) honest =
    let fresh : Peer = new_peer 0 now false in
    let v : View 0 A g.number f.present g.near fresh f.session_links = view_anew 0 A g.number f.present g.near f.peer f.session_links f.view 0 f.server.0 now false f.server.1 in
    record {
      peer = fresh;
      view = view_made 0 B f.present g.number fresh g.near f.session_links (turned 0 A g.number f.present g.near fresh f.session_links v) frames cut (honest _ _);
      server = subst (λ (q : Option Session). IsServer q fresh f.present) (sym is) (refl, sym f.server.2, λ going. refl);
      whole = λ x at kept up. absurd (false≢true up);
      there = ap (λ (q : Option Session). is_some q) is;
    }
new_end g (Some s) t o l f frames cut is honest = record {
  peer = f.peer;
  view = view_made 0 B f.present g.number f.peer g.near f.session_links (turned 0 A g.number f.present g.near f.peer f.session_links f.view) frames cut (honest _ _);
  server = subst (λ (q : Option Session). IsServer q f.peer f.present) (sym is) f.server;
  whole = λ x at. f.whole x (at_number_old f.session_links (link_with A frames cut ∷ []) f.present x f.view.theirs.there at);
  there = ap (λ (q : Option Session). is_some q) is;
}

welcome_within : (g : Ground) (s : Option Session) (o : Option Row) (l : GrandLink) (f : Focus g s o l) (n : ℕ) (k : GrandLink) (v : Welcome) → (n ≡ g.place → ⊥)
    → slice_get g.links n ≡ Some k → k.server.welcome ≡ Some v → v.epoch ≤ length f.session_links
welcome_within g s o l f n k v ne is at =
    let has : IsWelcome g.owner (g.draws n) f.session_links k v = subst (λ (q : Option Welcome). HasWelcome g.owner (g.draws n) f.session_links k q) at (f.elsewhere n k ne is).welcome in
    at_number_within f.session_links v.epoch has.session_link has.is_at

pub focus_admitted : (g : Ground) (s t : Option Session) (o p : Option Row) (l after : GrandLink) (f : Focus g s o l) (w : Welcome) (frames : List Frame) (cut : Bool)
    → after.server.welcome ≡ Some w → w.epoch ≡ epoch_of o + 1 → epoch_of p ≡ w.epoch → is_some p ≡ true → Admits g.owner.kind s t
    → ((said : List (List ℕ)) (received : ℕ) → AllHonest 0 said received frames)
    → LinkKeeps g.owner (g.draws g.place) (f.session_links ++ link_with A frames cut ∷ []) f.present after → StaysBelow g.link after → Focus g t p after
focus_admitted g s t o p l after f w frames cut there next is_next row admits honest here stays =
    let x : Link = link_with A frames cut in
    let end : NewEnd g t f.present (f.session_links ++ x ∷ []) = new_end g s t o l f frames cut admits honest in
    let counted : length f.session_links ≡ epoch_of o = f.count in
    let size : length (f.session_links ++ x ∷ []) ≡ length f.session_links + 1 = length_push f.session_links x in
    record {
      session_links = f.session_links ++ x ∷ [];
      present = f.present;
      peer = end.peer;
      view = turned 0 B f.present g.number end.peer g.near (f.session_links ++ x ∷ []) end.view;
      server = end.server;
      whole = end.whole;
      count = omega (arith, counted, size, next, is_next);
      both = end.there ∙ sym row;
      here = here;
      elsewhere = λ n k ne is. link_more g.owner (g.draws n) f.session_links f.present x k (f.elsewhere n k ne is);
      apart = λ n k v u ne is one other alike.
          let within : v.epoch ≤ length f.session_links = welcome_within g s o l f n k v ne is one in
          let both : w.epoch ≡ u.epoch = ap (λ (q : Welcome). q.epoch) (there_is (sym there ∙ other)) in
          absurd (omega (arith, within, both, alike, next, counted));
      later = λ u behind is.
          let both : w.epoch ≡ u.epoch = ap (λ (q : Welcome). q.epoch) (there_is (sym there ∙ is)) in
          let within : g.number ≤ length f.session_links = f.view.mine.there in
          omega (arith, both, within, next, counted);
      stays = stays;
      reads = λ z is. f.reads z (at_number_old f.session_links (x ∷ []) g.number z f.view.mine.there is);
    }
