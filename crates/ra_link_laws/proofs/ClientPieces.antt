-- Bytes come down to a client. Those of its last link go to its dialer.
use Rattle.std.proofs.Common.{◌≡◌, ℕ, suc, ◌+◌, ◌-◌, ◌≤◌, Bool, cond, Option, Some, None, List, [], ◌++◌, length, take, drop, is_none, refl, ap, sym, ◌∙◌, subst, append-nil, length-set, arith}
use Rattle.std.specs.Prelude.{slice_get, slice_set, ⊤}
use Rattle.std.proofs.Math.Seq.{drop-append-add}
use Rattle.std.proofs.lemmas.List.{drop-drop}
use Rattle.ra_base.specs.declared.event.Side.TheVariants.{A}
use Rattle.ra_model.specs.Endpoints.{is_linked}
use Rattle.ra_model.specs.Links.{Link, put_number, readable, read_on}
use Rattle.ra_model.specs.Views.{View}
use Rattle.ra_model.proofs.Numbers.{put_same, length-put_number}
use Rattle.ra_registry.specs.declared.row.Row.{Row}
use Rattle.ra_session.specs.SessionCalls.{feed_session}
use Rattle.ra_session.specs.SessionRefusals.{Refusal, feed_refusal}
use Rattle.ra_session.specs.Sessions.{Session}
use Rattle.ra_views.proofs.LinkTurns.{link_fed}
use Rattle.ra_views.proofs.SessionLinks.{link_feed, number_link}
use Rattle.ra_link_core.specs.LinkRuns.{Welcome}
use Rattle.ra_dial.specs.declared.stage.Stage.{Stage}
use Rattle.ra_dial.specs.declared.stage.Stage.TheVariants as stages
use Rattle.ra_dial.specs.declared.values.DialEnd.TheVariants as dial_ends
use Rattle.ra_dial.specs.declared.values.DialEvent.TheVariants as events
use Rattle.ra_dial.specs.Acts.{Act, nothing, ends}
use Rattle.ra_dial.specs.Handshakes.{fed_to, fed}
use Rattle.ra_dial.specs.Links.{feeds_unless, feeds_attached}
use Rattle.ra_dial.specs.ShakingStates.{ShakingState}
use Rattle.ra_dial.specs.Table.{step, on_event, is_late, draws_by}
use Rattle.ra_grand_runs.specs.GrandClients.{GrandLink, Client, dialled}
use Rattle.ra_grand_runs.specs.GrandRuns.{takes}
use Rattle.ra_grand_runs.specs.Grands.{with_link}
use Rattle.ra_grand_runs.specs.Reached.{read_of}
use Rattle.ra_run_laws.proofs.Lists.{there_is, get_same}
use Rattle.ra_handshake_laws.specs.Handshakes.{ReadsHandshake, HasSaid}
use Rattle.ra_handshake_laws.proofs.Handshaking.{feeds}
use Rattle.ra_link_laws.specs.Parts.{Drawn, Carries, Shakes, IsAttached, StageKeeps, HasLast, PartHolds}
use Rattle.ra_link_laws.proofs.BadTurns.{feeds_going, going_feeds}
use Rattle.ra_link_laws.proofs.ClientAttached.{IsLive, live, live_of, after_if, view_nothing}
use Rattle.ra_link_laws.proofs.ClientGrounds.{Ground, After, with_stage, ground_of, part_made}
use Rattle.ra_link_laws.proofs.ClientLinks.{Here, last_len, last_behind, links_down, links_renewed}
use Rattle.ra_link_laws.proofs.ClientSends.{attached_on, rests}
use Rattle.ra_link_laws.proofs.ClientShakes.{shakes_on}
use Rattle.ra_link_laws.proofs.SessionLinkMoves.{backs_itself, backs_put, texts_put, whole_back, read_more}

-- the link, of which so many bytes more were read
abbrev pub read_by : ℕ → GrandLink → GrandLink
read_by k l = record l { link = read_on A k l.link }

abbrev pub read_down : ℕ → ℕ → GrandLink → Client → Client
read_down n k l c = record c { links = slice_set c.links n (read_by k l) }

unfoldable pub down_ground : (s : Option Session) (o : Option Row) (c : Client) (g : Ground s o c) (n k : ℕ) (l : GrandLink) → slice_get c.links n ≡ Some l → k ≤ length (readable A l.link)
    → Ground s o (read_down n k l c)
down_ground s o c g n k l at fits = record {
  token = g.token;
  kind = g.kind;
  settings = g.settings;
  runs = g.runs;
  session_links = g.session_links;
  number = g.number;
  present = g.present;
  peer = g.peer;
  view = g.view;
  server = g.server;
  whole = g.whole;
  count = g.count;
  both = g.both;
  draws = g.draws;
  attached = g.attached;
  links = links_down c.key g.draws g.session_links g.present g.number g.attached c.links n k l at fits g.links;
  within = subst (λ (m : ℕ). g.attached ≤ m) (sym (length-set c.links n (read_by k l))) g.within;
}

-- ---- another link is behind it

attached_behind : (c : Client) (links : List GrandLink) (session_links : List Link) (number : ℕ) (l : GrandLink) → IsAttached c session_links number l → IsAttached (record c { links = links }) session_links number l
attached_behind c links session_links number l on = record {
  welcome = on.welcome;
  is_there = on.is_there;
  is_number = on.is_number;
  behind = on.behind;
  on_link = on.on_link;
  quiet = on.quiet;
  read = on.read;
}

stage_behind : (c : Client) (draws : ℕ → Drawn) (session_links : List Link) (number attached n k : ℕ) (l x : GrandLink) (stage : Stage) → slice_get c.links (suc n) ≡ Some x
    → StageKeeps c draws session_links number attached stage → StageKeeps (read_down n k l c) draws session_links number attached stage
stage_behind c draws session_links number attached n k l x (stages.Resting until) more keeps = omega (arith, keeps, length-set c.links n (read_by k l))
stage_behind c draws session_links number attached n k l x (stages.Calling since) more keeps = omega (arith, keeps, length-set c.links n (read_by k l))
stage_behind c draws session_links number attached n k l x (stages.Shaking since t) more keeps =
    let low = keeps.0 in (
      omega (arith, low, length-set c.links n (read_by k l)),
      last_behind (λ (m : ℕ) (y : GrandLink). Shakes c.key (draws m) t y) c.links n (read_by k l) x more keeps.1,
    )
stage_behind c draws session_links number attached n k l x stages.Attached more keeps =
    let last = last_behind (λ (m : ℕ) (y : GrandLink). IsAttached c session_links number y) c.links n (read_by k l) x more keeps.1 in (
      keeps.0 ∙ sym (length-set c.links n (read_by k l)),
      (last.0, last.1, last.2, last.3, attached_behind c (slice_set c.links n (read_by k l)) session_links number last.1 last.4),
    )
stage_behind c draws session_links number attached n k l x (stages.Over end) more keeps = omega (arith, keeps, length-set c.links n (read_by k l))

-- ---- what holds of the last link

last_at : (P : ℕ → GrandLink → Type 0) (links : List GrandLink) (n : ℕ) (l : GrandLink) → slice_get links n ≡ Some l → slice_get links (suc n) ≡ None → HasLast links P → P n l
last_at P links n l at none last =
    let count = last.2 in
    let here : last.0 ≡ n = omega (arith, count, last_len links n l at none) in
    let same : last.1 ≡ l = there_is (sym last.3 ∙ ap (λ (m : ℕ). slice_get links m) here ∙ at) in
    subst (λ (m : ℕ). P m l) here (subst (λ (x : GrandLink). P last.0 x) same last.4)

-- ---- a handshake

fed_keeps : (rest : Option (List ℕ)) (piece : List ℕ) (t : ShakingState) → ((fed_to rest piece t).key ≡ t.key) × ((fed_to rest piece t).shake ≡ t.shake)
fed_keeps None piece t = (refl, refl)
fed_keeps (Some rest) piece t = (refl, refl)

shaking_down : (s : Option Session) (o : Option Row) (c : Client) (since : ℕ) (t : ShakingState) (p : PartHolds s o (with_stage (stages.Shaking since t) c)) (n k : ℕ) (l : GrandLink)
    → slice_get c.links n ≡ Some l → slice_get c.links (suc n) ≡ None → k ≤ length (readable A l.link) → (drawn : ℕ)
    → After s o (with_stage (stages.Shaking since t) (read_down n k l c)) drawn
    (nothing, record c.dialer { stage = stages.Shaking since (fed (take k (readable A l.link)) t) })
unfolding ground_of down_ground
shaking_down s o c since t p n k l at none fits drawn =
    let stage = stages.Shaking since t in
    let now = with_stage stage (read_down n k l c) in
    let g = down_ground s o (with_stage stage c) (ground_of s o (with_stage stage c) p) n k l at fits in
    let d = p.draws n in
    let piece = take k (readable A l.link) in
    let fresh = fed piece t in
    let was : Shakes c.key d t l = last_at (λ (m : ℕ) (x : GrandLink). Shakes c.key (p.draws m) t x) c.links n l at none p.stage.1 in
    let low = p.stage.0 in
    let kept = fed_keeps t.rest piece t in
    shakes_on s o now g n (read_by k l) (length-set c.links n (read_by k l) ∙ last_len c.links n l at none) (get_same c.links n (read_by k l) l at)
    (omega (arith, low, length-set c.links n (read_by k l))) drawn nothing c.dialer since fresh was.text refl p.runs p.view was.put was.put_all
    (subst (λ (r : List ℕ). ReadsHandshake c.key d.key d.own r fresh) (sym (read_more l.link k fits)) (feeds c.key d.key d.own (read_of l.link.to_a) piece t was.reads))
    (subst (λ (x : List ℕ). HasSaid c.key d.reconnection d.key d.own x fresh.key fresh.shake.has_answered) (sym (ap (λ (y : List ℕ). was.text ++ y) p.pending ∙ append-nil was.text))
    (subst (λ (key : Option (List ℕ)). HasSaid c.key d.reconnection d.key d.own was.text key fresh.shake.has_answered) (sym kept.0)
    (subst (λ (b : Bool). HasSaid c.key d.reconnection d.key d.own was.text t.key b) (sym (ap (λ x. x.has_answered) kept.1)) was.said)))
    (λ w is. p.pending)

-- ---- an attached session

-- what is unread of the session's link is what is unread of the client's
session_link_unread : (w : Welcome) (l x : Link) → Carries w l x → w.down ≤ l.to_a.read → x.to_a.read + w.down ≡ length w.pause + l.to_a.read → readable A x ≡ readable A l
session_link_unread w l x carries behind read =
    let more = l.to_a.read - w.down in
    let one : x.to_a.read ≡ length w.pause + more = omega (arith, behind, read) in
    let two : w.down + more ≡ l.to_a.read = omega (arith, behind) in
    let text : drop x.to_a.read x.to_a.written ≡ drop l.to_a.read l.to_a.written =
    ap (λ (n : ℕ). drop n x.to_a.written) one ∙ ap (λ (t : List ℕ). drop (length w.pause + more) t) carries.down
    ∙ drop-append-add w.pause (drop w.down l.to_a.written) more ∙ drop-drop more w.down l.to_a.written ∙ ap (λ (n : ℕ). drop n l.to_a.written) two in
    ap (λ (b : Bool). cond b [] (drop x.to_a.read x.to_a.written)) carries.cut ∙ ap (λ (t : List ℕ). cond l.is_cut [] t) text

-- the last link of an attached client, by its place
record LiveAt (s : Option Session) (o : Option Row) (c : Client) (g : Ground s o (live c)) (n : ℕ) (l : GrandLink) : Type 0 where
  is : IsLive s o c g
  place : is.here.place ≡ n
  link : is.here.link ≡ l

live_at : (s : Option Session) (o : Option Row) (c : Client) (p : PartHolds s o (live c)) (n : ℕ) (l : GrandLink) → slice_get c.links n ≡ Some l → slice_get c.links (suc n) ≡ None
    → LiveAt s o c (ground_of s o (live c) p) n l
live_at s o c p n l at none =
    let is = live_of s o c p in
    let count = is.here.count in
    let here : is.here.place ≡ n = omega (arith, count, last_len c.links n l at none) in
    record { is = is; place = here; link = there_is (sym is.here.at ∙ ap (λ (m : ℕ). slice_get c.links m) here ∙ at) }

-- the bytes go to the session
fed_down : (s : Option Session) (o : Option Row) (c : Client) (g : Ground s o (live c)) (n k now : ℕ) (l : GrandLink) → LiveAt s o c g n l → slice_get c.links n ≡ Some l
    → k ≤ length (readable A l.link) → (drawn : ℕ) → feed_refusal c.dialer.session.peer.endpoint.epoch c.dialer.session ≡ None
    → After s o (live (read_down n k l c)) drawn (feeds_unless None (take k (readable A l.link)) now (record c.dialer { stage = stages.Attached }))
unfolding down_ground
fed_down s o c g n k now l live_here at fits drawn admits =
    let is = live_here.is in
    let h = is.here in
    let old = c.dialer.session in
    let e = old.peer.endpoint.epoch in
    let piece = take k (readable A l.link) in
    let session = feed_session e piece now old in
    let x = h.session_link in
    let w = h.welcome in
    let session_link = read_on A k x in
    let session_links = put_number g.session_links g.number session_link in
    let carries : Carries w l.link x = subst (λ (y : GrandLink). Carries w y.link x) live_here.link h.carries in
    let behind : w.down ≤ l.link.to_a.read = subst (λ (y : GrandLink). w.down ≤ y.link.to_a.read) live_here.link is.behind in
    let going = feeds_going e old admits in
    let read : x.to_a.read + w.down ≡ length w.pause + l.link.to_a.read =
    subst (λ (y : GrandLink). x.to_a.read + w.down ≡ length w.pause + y.link.to_a.read) live_here.link (is.read going) in
    let unread : readable A x ≡ readable A l.link = session_link_unread w l.link x carries behind read in
    let fed_view : View 0 A g.number g.present session.peer g.peer session_links =
    subst (λ (t : List ℕ). View 0 A g.number g.present (feed_session e (take k t) now old).peer g.peer session_links) unread
    (link_fed 0 A g.number g.present old g.peer g.session_links g.view k e now x h.session_link_at (subst (λ (t : List ℕ). k ≤ length t) (sym unread) fits) admits) in
    let keeps = link_feed e piece now old in
    let runs = (number_link (feed_session e piece now) (link_feed e piece now) old).1 g.runs in
    let after = down_ground s o (live c) g n k l at fits in
    let backs = backs_put g.session_links g.number x session_link h.session_link_at refl refl (λ kept. kept) in
    let links = slice_set c.links n (read_by k l) in
    let between = record c { dialer = record c.dialer { stage = stages.Attached; session = session }; links = links } in
    let ground : Ground s o between = record {
      token = g.token;
      kind = g.kind;
      settings = g.settings;
      runs = runs;
      session_links = session_links;
      number = g.number;
      present = g.present;
      peer = g.peer;
      view = fed_view;
      server = g.server;
      whole = whole_back g.peer g.present g.session_links session_links backs g.whole;
      count = length-put_number g.session_links g.number session_link ∙ g.count;
      both = g.both;
      draws = g.draws;
      attached = g.attached;
      links =
          links_renewed c.key g.draws g.session_links session_links g.present g.number g.attached g.number g.attached links (texts_put g.session_links g.number x session_link h.session_link_at refl refl refl) backs
          after.links.later after.links;
      within = after.within;
    } in
    let here : Here session_links g.number links = record {
      place = n;
      link = read_by k l;
      count = length-set c.links n (read_by k l) ∙ h.count ∙ ap (λ (m : ℕ). suc m) live_here.place;
      at = get_same c.links n (read_by k l) l at;
      welcome = w;
      is_there = subst (λ (y : GrandLink). y.server.welcome ≡ Some w) live_here.link h.is_there;
      is_number = h.is_number;
      session_link = session_link;
      session_link_at = put_same g.session_links g.number x session_link h.session_link_at;
      carries = record { up = carries.up; down = carries.down; cut = carries.cut };
    } in
    attached_on s o between ground here drawn nothing (record c.dialer { session = session }) (is.all ∙ sym (length-set c.links n (read_by k l))) refl runs
    (view_nothing session_links g.number g.present session.peer g.peer session_link c.dialer.pending here.session_link_at is.none fed_view)
    (λ still. ap is_linked keeps.1 ∙ is.linked (sym keeps.2 ∙ still)) (omega (arith, behind)) (λ still. omega (arith, read))

-- the session has ended, and takes none
refused_down : (s : Option Session) (o : Option Row) (c : Client) (g : Ground s o (live c)) (n k now : ℕ) (l : GrandLink) → LiveAt s o c g n l → slice_get c.links n ≡ Some l
    → k ≤ length (readable A l.link) → (drawn : ℕ) (refusal : Refusal) → feed_refusal c.dialer.session.peer.endpoint.epoch c.dialer.session ≡ Some refusal
    → After s o (live (read_down n k l c)) drawn (feeds_unless (Some refusal) (take k (readable A l.link)) now (record c.dialer { stage = stages.Attached }))
unfolding down_ground
refused_down s o c g n k now l live_here at fits drawn refusal why =
    let is = live_here.is in
    let h = is.here in
    let old = c.dialer.session in
    let w = h.welcome in
    let x = h.session_link in
    let links = slice_set c.links n (read_by k l) in
    let carries : Carries w l.link x = subst (λ (y : GrandLink). Carries w y.link x) live_here.link h.carries in
    let behind : w.down ≤ l.link.to_a.read = subst (λ (y : GrandLink). w.down ≤ y.link.to_a.read) live_here.link is.behind in
    let here : Here g.session_links g.number links = record {
      place = n;
      link = read_by k l;
      count = length-set c.links n (read_by k l) ∙ h.count ∙ ap (λ (m : ℕ). suc m) live_here.place;
      at = get_same c.links n (read_by k l) l at;
      welcome = w;
      is_there = subst (λ (y : GrandLink). y.server.welcome ≡ Some w) live_here.link h.is_there;
      is_number = h.is_number;
      session_link = x;
      session_link_at = h.session_link_at;
      carries = record { up = carries.up; down = carries.down; cut = carries.cut };
    } in
    attached_on s o (live (read_down n k l c)) (down_ground s o (live c) g n k l at fits) here drawn nothing c.dialer (is.all ∙ sym (length-set c.links n (read_by k l))) refl g.runs
    (view_nothing g.session_links g.number g.present old.peer g.peer x c.dialer.pending h.session_link_at is.none g.view) is.linked (omega (arith, behind))
    (λ going. absurd (no_refusal refusal (sym (going_feeds old going (is.linked going)) ∙ why)))
  where
    no_refusal : (r : Refusal) → ◌≡◌ {A = Option Refusal} None (Some r) → ⊥
    no_refusal r e = cc

attached_down : (s : Option Session) (o : Option Row) (c : Client) (p : PartHolds s o (live c)) (n k now : ℕ) (l : GrandLink)
    → slice_get c.links n ≡ Some l → slice_get c.links (suc n) ≡ None → k ≤ length (readable A l.link) → (drawn : ℕ)
    → After s o (live (read_down n k l c)) drawn (feeds_attached (take k (readable A l.link)) now (record c.dialer { stage = stages.Attached }))
unfolding feeds_attached
attached_down s o c p n k now l at none fits drawn = by (feed_refusal c.dialer.session.peer.endpoint.epoch c.dialer.session) refl
  where
    by : (refusal : Option Refusal) → feed_refusal c.dialer.session.peer.endpoint.epoch c.dialer.session ≡ refusal
        → After s o (live (read_down n k l c)) drawn (feeds_unless refusal (take k (readable A l.link)) now (record c.dialer { stage = stages.Attached }))
    by None why = fed_down s o c (ground_of s o (live c) p) n k now l (live_at s o c p n l at none) at fits drawn why
    by (Some refusal) why = refused_down s o c (ground_of s o (live c) p) n k now l (live_at s o c p n l at none) at fits drawn refusal why

-- ---- any client

-- it shakes no hands, and no session is attached
abbrev IsIdle : Stage → Type 0
IsIdle (stages.Resting until) = ⊤
IsIdle (stages.Calling since) = ⊤
IsIdle (stages.Shaking since t) = ⊥
IsIdle stages.Attached = ⊥
IsIdle (stages.Over end) = ⊤

-- the bytes do nothing to the dialer, or come too late
idle_down : (s : Option Session) (o : Option Row) (c : Client) (stage new : Stage) (p : PartHolds s o (with_stage stage c)) (n k : ℕ) (l : GrandLink)
    → slice_get c.links n ≡ Some l → k ≤ length (readable A l.link) → (drawn : ℕ) (act : Act) → IsIdle new
    → After s o (with_stage stage (read_down n k l c)) drawn (act, record c.dialer { stage = new })
unfolding ground_of down_ground
idle_down s o c stage (stages.Resting until) p n k l at fits drawn act idle =
    let g = down_ground s o (with_stage stage c) (ground_of s o (with_stage stage c) p) n k l at fits in
    rests s o (with_stage stage (read_down n k l c)) g drawn act c.dialer (stages.Resting until) tt refl p.pending p.runs p.view g.within
idle_down s o c stage (stages.Calling since) p n k l at fits drawn act idle =
    let g = down_ground s o (with_stage stage c) (ground_of s o (with_stage stage c) p) n k l at fits in
    rests s o (with_stage stage (read_down n k l c)) g drawn act c.dialer (stages.Calling since) tt refl p.pending p.runs p.view g.within
idle_down s o c stage (stages.Shaking since t) p n k l at fits drawn act idle = absurd idle
idle_down s o c stage stages.Attached p n k l at fits drawn act idle = absurd idle
idle_down s o c stage (stages.Over end) p n k l at fits drawn act idle =
    let g = down_ground s o (with_stage stage c) (ground_of s o (with_stage stage c) p) n k l at fits in
    rests s o (with_stage stage (read_down n k l c)) g drawn act c.dialer (stages.Over end) tt refl p.pending p.runs p.view g.within

piece_at : (s : Option Session) (o : Option Row) (c : Client) (stage : Stage) (n k now : ℕ) (l : GrandLink) → slice_get c.links n ≡ Some l → slice_get c.links (suc n) ≡ None
    → k ≤ length (readable A l.link) → PartHolds s o (with_stage stage c)
    → PartHolds s o (dialled (events.Piece (take k (readable A l.link))) now (with_stage stage (read_down n k l c)))
unfolding dialled step on_event
piece_at s o c (stages.Resting until) n k now l at none fits p =
    let stage = stages.Resting until in
    let event = events.Piece (take k (readable A l.link)) in
    let drawn = c.drawn + draws_by event now stage c.dialer.lost in
    let end = dial_ends.GraceOver c.dialer.lost now in
    after_if s o (with_stage stage (read_down n k l c)) drawn (is_late event stage c.dialer.lost now) _ _ (idle_down s o c stage (stages.Over end) p n k l at fits drawn (ends end) tt)
    (idle_down s o c stage stage p n k l at fits drawn nothing tt)
piece_at s o c (stages.Calling since) n k now l at none fits p =
    let stage = stages.Calling since in
    let event = events.Piece (take k (readable A l.link)) in
    let drawn = c.drawn + draws_by event now stage c.dialer.lost in
    let end = dial_ends.GraceOver c.dialer.lost now in
    after_if s o (with_stage stage (read_down n k l c)) drawn (is_late event stage c.dialer.lost now) _ _ (idle_down s o c stage (stages.Over end) p n k l at fits drawn (ends end) tt)
    (idle_down s o c stage stage p n k l at fits drawn nothing tt)
piece_at s o c (stages.Shaking since t) n k now l at none fits p =
    let stage = stages.Shaking since t in
    let event = events.Piece (take k (readable A l.link)) in
    let drawn = c.drawn + draws_by event now stage c.dialer.lost in
    let end = dial_ends.GraceOver c.dialer.lost now in
    after_if s o (with_stage stage (read_down n k l c)) drawn (is_late event stage c.dialer.lost now) _ _ (idle_down s o c stage (stages.Over end) p n k l at fits drawn (ends end) tt)
    (shaking_down s o c since t p n k l at none fits drawn)
piece_at s o c stages.Attached n k now l at none fits p =
    let event = events.Piece (take k (readable A l.link)) in
    attached_down s o c p n k now l at none fits (c.drawn + draws_by event now stages.Attached c.dialer.lost)
piece_at s o c (stages.Over end) n k now l at none fits p =
    let stage = stages.Over end in
    let event = events.Piece (take k (readable A l.link)) in
    idle_down s o c stage stage p n k l at fits (c.drawn + draws_by event now stage c.dialer.lost) (ends end) tt

down_by : (s : Option Session) (o : Option Row) (c : Client) (n k now : ℕ) (l : GrandLink) (more : Option GrandLink) → slice_get c.links (suc n) ≡ more → slice_get c.links n ≡ Some l
    → k ≤ length (readable A l.link) → PartHolds s o c → PartHolds s o (takes (is_none more) (take k (readable A l.link)) now (read_down n k l c))
unfolding ground_of
down_by s o c n k now l None none at fits p = piece_at s o c c.dialer.stage n k now l at none fits p
down_by s o c n k now l (Some x) is at fits p =
    let g = ground_of s o c p in
    part_made s o c g c.dialer c.drawn (slice_set c.links n (read_by k l)) p.session_links p.number p.attached refl p.pending p.runs p.view refl (backs_itself p.session_links)
    (links_down c.key p.draws p.session_links p.present p.number p.attached c.links n k l at fits g.links)
    (stage_behind c p.draws p.session_links p.number p.attached n k l x c.dialer.stage is p.stage)

pub part_down : (s : Option Session) (o : Option Row) (c : Client) (n k now : ℕ) (l : GrandLink) → slice_get c.links n ≡ Some l → k ≤ length (readable A l.link) → PartHolds s o c
    → PartHolds s o (takes (is_none (slice_get c.links (suc n))) (take k (readable A l.link)) now (with_link (suc n) (record l { link = read_on A k l.link }) c))
part_down s o c n k now l at fits p = down_by s o c n k now l (slice_get c.links (suc n)) refl at fits p
