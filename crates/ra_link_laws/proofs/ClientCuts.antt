-- A link of a client is cut.
use Rattle.std.proofs.Common.{◌≡◌, ℕ, suc, ◌+◌, true≢false, Option, Some, None, List, length, refl, ap, sym, ◌∙◌, subst, length-set, arith}
use Rattle.std.specs.Prelude.{slice_get, slice_set}
use Rattle.ra_base.specs.declared.event.Side.TheVariants.{A}
use Rattle.ra_base.specs.declared.key.Key.{Key}
use Rattle.ra_model.specs.Links.{Link, put_number, cut_off}
use Rattle.ra_model.specs.Views.{View}
use Rattle.ra_model.specs.Worlds.{Peer}
use Rattle.ra_model.proofs.LinkMoves.{view_cut}
use Rattle.ra_model.proofs.Numbers.{length-put_number}
use Rattle.ra_registry.specs.declared.row.Row.{Row}
use Rattle.ra_session.specs.Sessions.{Session}
use Rattle.ra_link_core.specs.LinkRuns.{Welcome}
use Rattle.ra_dial.specs.declared.stage.Stage.{Stage}
use Rattle.ra_dial.specs.declared.stage.Stage.TheVariants as stages
use Rattle.ra_dial.specs.ShakingStates.{ShakingState}
use Rattle.ra_grand_runs.specs.GrandClients.{GrandLink, Client}
use Rattle.ra_grand_runs.specs.Grands.{with_link}
use Rattle.ra_link_laws.specs.Parts.{Drawn, HasWelcome, Shakes, IsAttached, StageKeeps, PartHolds}
use Rattle.ra_link_laws.proofs.ClientGrounds.{ground_of, part_made}
use Rattle.ra_link_laws.proofs.ClientLinks.{links_cut, last_put}
use Rattle.ra_link_laws.proofs.SessionLinkMoves.{ReadsBack, CutBy, cut_backs, cut_reads}

-- the session's links after it
record Cut (owner : Key) (d : Drawn) (number present : ℕ) (p peer : Peer) (session_links : List Link) (l : GrandLink) : Type 0 where
  new : List Link
  cut : CutBy owner d session_links l l.server.welcome new
  view : View 0 A number present p peer new
  long : length new ≡ length session_links

cut_by : (owner : Key) (d : Drawn) (number present : ℕ) (p peer : Peer) (session_links : List Link) (l : GrandLink) (o : Option Welcome) → l.server.welcome ≡ o
    → HasWelcome owner d session_links l o → View 0 A number present p peer session_links → Cut owner d number present p peer session_links l
cut_by owner d number present p peer session_links l None is has view =
    record { new = session_links; cut = subst (λ (o : Option Welcome). CutBy owner d session_links l o session_links) (sym is) refl; view = view; long = refl }
cut_by owner d number present p peer session_links l (Some w) is has view =
    let x = has.session_link in
    let new = put_number session_links w.epoch (cut_off x) in
    record {
      new = new;
      cut = subst (λ (o : Option Welcome). CutBy owner d session_links l o new) (sym is) (x, has.is_at, refl);
      view = view_cut 0 A number present p peer session_links w.epoch x view has.is_at;
      long = length-put_number session_links w.epoch (cut_off x);
    }

-- ---- how far the dialer is

shakes_cut : (owner : Key) (d : Drawn) (t : ShakingState) (l : GrandLink) → Shakes owner d t l → Shakes owner d t (record l { link = cut_off l.link })
shakes_cut owner d t l k = record { reads = k.reads; text = k.text; said = k.said; put = k.put; put_all = λ kept. absurd (true≢false kept) }

-- what holds of an attached client depends on its dialer, and on what was read
attached_cut : (c : Client) (links : List GrandLink) (old new : List Link) (number : ℕ) (l : GrandLink) → ReadsBack old new → IsAttached c old number l
    → IsAttached (record c { links = links }) new number (record l { link = cut_off l.link })
attached_cut c links old new number l back on = record {
  welcome = on.welcome;
  is_there = on.is_there;
  is_number = on.is_number;
  behind = on.behind;
  on_link = on.on_link;
  quiet = on.quiet;
  read = λ going y at. let was = back number y at in ap (λ (n : ℕ). n + on.welcome.down) (sym was.2) ∙ on.read going was.0 was.1;
}

attached_other : (c : Client) (links : List GrandLink) (old new : List Link) (number : ℕ) (l : GrandLink) → ReadsBack old new → IsAttached c old number l
    → IsAttached (record c { links = links }) new number l
attached_other c links old new number l back on = record {
  welcome = on.welcome;
  is_there = on.is_there;
  is_number = on.is_number;
  behind = on.behind;
  on_link = on.on_link;
  quiet = on.quiet;
  read = λ going y at. let was = back number y at in ap (λ (n : ℕ). n + on.welcome.down) (sym was.2) ∙ on.read going was.0 was.1;
}

stage_cut : (c : Client) (draws : ℕ → Drawn) (old new : List Link) (number attached n : ℕ) (l : GrandLink) (stage : Stage) → slice_get c.links n ≡ Some l → ReadsBack old new
    → StageKeeps c draws old number attached stage
    → StageKeeps (record c { links = slice_set c.links n (record l { link = cut_off l.link }) }) draws new number attached stage
stage_cut c draws old new number attached n l (stages.Resting until) at back keeps = omega (arith, keeps, length-set c.links n (record l { link = cut_off l.link }))
stage_cut c draws old new number attached n l (stages.Calling since) at back keeps = omega (arith, keeps, length-set c.links n (record l { link = cut_off l.link }))
stage_cut c draws old new number attached n l (stages.Shaking since t) at back keeps =
    let cut = record l { link = cut_off l.link } in
    let low = keeps.0 in (
      omega (arith, low, length-set c.links n cut),
      last_put (λ (m : ℕ) (x : GrandLink). Shakes c.key (draws m) t x) (λ (m : ℕ) (x : GrandLink). Shakes c.key (draws m) t x) c.links n l cut at
          (shakes_cut c.key (draws n) t l) (λ m x k. k) keeps.1,
    )
stage_cut c draws old new number attached n l stages.Attached at back keeps =
    let cut = record l { link = cut_off l.link } in
    let links = slice_set c.links n cut in (
      keeps.0 ∙ sym (length-set c.links n cut),
      last_put (λ (m : ℕ) (x : GrandLink). IsAttached c old number x) (λ (m : ℕ) (x : GrandLink). IsAttached (record c { links = links }) new number x) c.links n l cut at
          (attached_cut c links old new number l back) (λ m x on. attached_other c links old new number x back on) keeps.1,
    )
stage_cut c draws old new number attached n l (stages.Over end) at back keeps = omega (arith, keeps, length-set c.links n (record l { link = cut_off l.link }))

pub part_cut : (s : Option Session) (o : Option Row) (c : Client) (n : ℕ) (l : GrandLink) → slice_get c.links n ≡ Some l → PartHolds s o c
    → PartHolds s o (with_link (suc n) (record l { link = cut_off l.link }) c)
unfolding ground_of
part_cut s o c n l at p =
    let keeps = p.links n l at in
    let d = p.draws n in
    let by = cut_by c.key d p.number p.present c.dialer.session.peer p.peer p.session_links l l.server.welcome refl keeps.welcome p.view in
    let g = ground_of s o c p in
    let back = cut_reads c.key d p.session_links by.new l l.server.welcome by.cut in
    part_made s o c g c.dialer c.drawn (slice_set c.links n (record l { link = cut_off l.link })) by.new p.number p.attached refl p.pending p.runs by.view by.long
    (cut_backs c.key d p.session_links by.new l l.server.welcome by.cut)
    (links_cut c.key p.draws p.session_links by.new p.present p.number p.attached c.links n l at by.cut g.links)
    (stage_cut c p.draws p.session_links by.new p.number p.attached n l c.dialer.stage at back p.stage)
