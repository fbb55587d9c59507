-- A client that is accepted attaches its session: on the session's link of the welcome, with the bytes that came behind the handshake.
use Rattle.std.proofs.Common.{◌≡◌, ℕ, suc, ◌+◌, ◌-◌, ◌<◌, ◌≤◌, true, Option, Some, None, List, [], ◌++◌, length, take, drop, refl, ap, sym, ◌∙◌, subst, le_refl, arith}
use Rattle.std.specs.Prelude.{slice_get}
use Rattle.std.proofs.Math.Seq.{take-append-add}
use Rattle.std.proofs.lemmas.List.{drop-take, length-append, length-drop, length-take}
use Rattle.ra_base.specs.declared.event.Side.TheVariants.{A, B}
use Rattle.ra_model.specs.Links.{Link, put_number, read_on, written_to}
use Rattle.ra_model.specs.Views.{View}
use Rattle.ra_model.proofs.Numbers.{get_within, put_same, length-put_number}
use Rattle.ra_registry.specs.declared.row.Row.{Row}
use Rattle.ra_session.specs.OnLinks.{IsRunning}
use Rattle.ra_session.specs.SessionCalls.{attach}
use Rattle.ra_session.specs.SessionRefusals.{Refusal, attach_refusal}
use Rattle.ra_session.specs.Sessions.{Session}
use Rattle.ra_session.proofs.LinkLaws.{attach_on}
use Rattle.ra_views.proofs.LinkTurns.{link_attached}
use Rattle.ra_views.proofs.SessionNumbers.{number_attach}
use Rattle.ra_link_core.specs.LinkRuns.{Welcome}
use Rattle.ra_dial.specs.declared.stage.Stage.TheVariants as stages
use Rattle.ra_dial.specs.Acts.{quiet}
use Rattle.ra_dial.specs.Attempts.{fails, rest_or_drop, next_attempt, wait_before}
use Rattle.ra_dial.specs.Dialers.{Dialer, epoch}
use Rattle.ra_dial.specs.Links.{next_epoch, attaches_unless, attaches}
use Rattle.ra_grand_runs.specs.GrandClients.{GrandLink, Client}
use Rattle.ra_grand_runs.specs.Reached.{read_of}
use Rattle.ra_link_laws.specs.Parts.{Carries, IsWelcome, HasWelcome}
use Rattle.ra_link_laws.proofs.ClientGrounds.{Ground, After}
use Rattle.ra_link_laws.proofs.ClientLinks.{Here, links_renewed}
use Rattle.ra_link_laws.proofs.ClientSends.{attached_on, put_again, rests}
use Rattle.ra_link_laws.proofs.SessionLinkMoves.{backs_put, texts_put, nothing_up, whole_back}

-- ---- the bytes behind the handshake

behind_read : (down read : ℕ) (text : List ℕ) → down ≤ length (take read text) → drop down (take read text) ≡ take (read - down) (drop down text)
behind_read down read text le =
    let all : read ≡ down + (read - down) = omega (arith, le, length-take read text) in
    ap (λ (n : ℕ). drop down (take n text)) all ∙ drop-take down (read - down) text

-- they are a front of the session's link
chunk_is : (w : Welcome) (l x : Link) (chunk : List ℕ) → Carries w l x → w.down ≤ length (read_of l.to_a) → chunk ≡ w.pause ++ drop w.down (read_of l.to_a)
    → take (length w.pause + (l.to_a.read - w.down)) x.to_a.written ≡ chunk
chunk_is w l x chunk carries le is =
    let more = l.to_a.read - w.down in
    ap (λ (t : List ℕ). take (length w.pause + more) t) carries.down ∙ take-append-add w.pause (drop w.down l.to_a.written) more
    ∙ ap (λ (t : List ℕ). w.pause ++ t) (sym (behind_read w.down l.to_a.read l.to_a.written le)) ∙ sym is

-- ---- the session is attached

attached_new : (s : Option Session) (o : Option Row) (c : Client) (g : Ground s o c) (n : ℕ) (l : GrandLink) → length c.links ≡ suc n → slice_get c.links n ≡ Some l
    → g.attached < length c.links → (drawn : ℕ) (d : Dialer) (e now : ℕ) (chunk : List ℕ) (w : Welcome) → l.server.welcome ≡ Some w
    → d.settings ≡ c.dialer.settings → d.pending ≡ [] → IsRunning d.session → View 0 A g.number g.present d.session.peer g.peer g.session_links
    → attach_refusal e d.session ≡ None → w.down ≤ length (read_of l.link.to_a) → chunk ≡ w.pause ++ drop w.down (read_of l.link.to_a)
    → After s o c drawn (quiet, record d { stage = stages.Attached; attempt = 0; session = attach e chunk now d.session })
attached_new s o c g n l count at within drawn d e now chunk w is settings none runs view admits le chunk_of =
    let keeps = g.links.each n l at in
    let has : IsWelcome c.key (g.draws n) g.session_links l w = subst (λ (x : Option Welcome). HasWelcome c.key (g.draws n) g.session_links l x) is keeps.welcome in
    let x = has.session_link in
    let carries = has.carries in
    let r = l.link.to_a.read in
    let k = length w.pause + (r - w.down) in
    let long : length x.to_a.written ≡ length w.pause + (length l.link.to_a.written - w.down) =
    ap (λ (t : List ℕ). length t) carries.down ∙ length-append w.pause (drop w.down l.link.to_a.written) ∙ ap (λ (i : ℕ). length w.pause + i) (length-drop w.down l.link.to_a.written) in
    let took : w.down ≤ r = omega (arith, le, length-take r l.link.to_a.written) in
    let down = keeps.down in
    let fits : k ≤ length x.to_a.written = omega (arith, long, down, took) in
    let later : g.number < w.epoch = g.links.later n l w at (omega (arith, within, count)) is in
    let session = attach e chunk now d.session in
    let went = number_attach e chunk now d.session runs admits in
    let on = attach_on e chunk now d.session runs admits in
    let session_link = read_on A k x in
    let session_links = put_number g.session_links w.epoch session_link in
    let attached_view : View 0 A w.epoch g.present session.peer g.peer session_links =
    subst (λ (t : List ℕ). View 0 A w.epoch g.present (attach e t now d.session).peer g.peer session_links) (chunk_is w l.link x chunk carries le chunk_of)
    (link_attached 0 A g.number g.present d.session g.peer g.session_links view w.epoch k e now x later has.is_at fits runs admits) in
    let backs = backs_put g.session_links w.epoch x session_link has.is_at refl refl (λ kept. kept) in
    let between = record c { dialer = record c.dialer { session = session } } in
    let ground : Ground s o between = record {
      token = g.token;
      kind = g.kind;
      settings = g.settings;
      runs = went.2;
      session_links = session_links;
      number = w.epoch;
      present = g.present;
      peer = g.peer;
      view = attached_view;
      server = g.server;
      whole = whole_back g.peer g.present g.session_links session_links backs g.whole;
      count = length-put_number g.session_links w.epoch session_link ∙ g.count;
      both = g.both;
      draws = g.draws;
      attached = length c.links;
      links =
          links_renewed c.key g.draws g.session_links session_links g.present g.number g.attached w.epoch (length c.links) c.links (texts_put g.session_links w.epoch x session_link has.is_at refl refl refl) backs
          (λ m y v there past told. let low = get_within c.links m y there in absurd (omega (arith, low, past)))
          g.links;
      within = le_refl (length c.links);
    } in
    let here : Here session_links w.epoch c.links = record {
      place = n;
      link = l;
      count = count;
      at = at;
      welcome = w;
      is_there = is;
      is_number = refl;
      session_link = session_link;
      session_link_at = put_same g.session_links w.epoch x session_link has.is_at;
      carries = record { up = carries.up; down = carries.down; cut = carries.cut };
    } in
    let unread : x.to_a.read ≡ 0 = view.reads.fresh w.epoch x has.is_at later in
    attached_on s o between ground here drawn quiet (record d { attempt = 0; session = session }) refl settings went.2
    (subst (λ (ls : List Link). View 0 A w.epoch g.present session.peer g.peer ls)
    (sym
    (put_again g.session_links w.epoch session_link (written_to B d.pending session_link)
    ∙ ap (λ (t : List ℕ). put_number g.session_links w.epoch (written_to B t session_link)) none ∙ ap (λ (y : Link). put_number g.session_links w.epoch y) (nothing_up session_link)))
    attached_view)
    (λ going. (on going).1) took (λ going. omega (arith, unread, took))

pub attaches_on : (s : Option Session) (o : Option Row) (c : Client) (g : Ground s o c) (n : ℕ) (l : GrandLink) → length c.links ≡ suc n → slice_get c.links n ≡ Some l
    → g.attached < length c.links → (drawn : ℕ) (d : Dialer) (now : ℕ) (chunk : List ℕ) (w : Welcome) → l.server.welcome ≡ Some w
    → d.settings ≡ c.dialer.settings → d.pending ≡ [] → IsRunning d.session → View 0 A g.number g.present d.session.peer g.peer g.session_links
    → w.down ≤ length (read_of l.link.to_a) → chunk ≡ w.pause ++ drop w.down (read_of l.link.to_a) → After s o c drawn (attaches chunk now d)
unfolding attaches fails
attaches_on s o c g n l count at within drawn d now chunk w is settings none runs view le chunk_of = by (attach_refusal (next_epoch (epoch d)) d.session) refl
  where
    by : (refusal : Option Refusal) → attach_refusal (next_epoch (epoch d)) d.session ≡ refusal → After s o c drawn (attaches_unless refusal chunk now d)
    by None admits = attached_new s o c g n l count at within drawn d (next_epoch (epoch d)) now chunk w is settings none runs view admits le chunk_of
    by (Some refusal) admits =
        let until = now + wait_before (next_attempt d.attempt) in
        rests s o c g drawn (rest_or_drop true until) (record d { attempt = next_attempt d.attempt; pending = [] }) (stages.Resting until) tt settings refl runs view g.within
