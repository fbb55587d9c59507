-- A link that was left, of which only the first of what its end wrote is there.
use Rattle.std.proofs.Common.{◌≡◌, inl, inr, ℕ, zero, suc, ◌+◌, ◌<◌, ◌≤◌, Bool, true, false, cond, Option, Some, None, List, [], ◌∷◌, ◌++◌, length, drop, refl, ap, sym, ◌∙◌, subst, arith, append-nil, append_assoc}
use Rattle.std.specs.Prelude.{◌⊎◌}
use Rattle.std.proofs.lemmas.Bool.{true≢false}
use Rattle.std.proofs.lemmas.List.{length-append, drop_all}
use Rattle.ra_base.specs.declared.event.Side.TheVariants.{A, B}
use Rattle.ra_base.specs.declared.key.Key.{Key}
use Rattle.ra_base.specs.declared.kind.Kind.{Kind}
use Rattle.ra_model.specs.Endpoints.{is_linked}
use Rattle.ra_model.specs.Links.{Link, at_number, put_number}
use Rattle.ra_model.specs.Pairs.{messages, IsJoining}
use Rattle.ra_model.specs.Worlds.{Peer}
use Rattle.ra_model.proofs.Numbers.{put_cases, length-put_number}
use Rattle.ra_model.proofs.Sound.{turned}
use Rattle.ra_registry.specs.declared.row.Row.{Row}
use Rattle.ra_session.specs.Sessions.{Session}
use Rattle.ra_hub.specs.Hubs.{Hub, row}
use Rattle.ra_link_core.specs.LinkRuns.{Serving, Welcome}
use Rattle.ra_grand_runs.specs.GrandClients.{GrandLink}
use Rattle.ra_grand_runs.specs.Reached.{Begins}
use Rattle.ra_run_laws.proofs.Lists.{there_is, same_or_not, number_same}
use Rattle.ra_handshake_laws.specs.Handshakes.{Speaks}
use Rattle.ra_link_laws.specs.Parts.{Drawn, HasWelcome, IsWelcome, IsServer, LinkKeeps, WritesWhole}
use Rattle.ra_link_laws.proofs.HubMoves.{OthersStay}
use Rattle.ra_link_laws.proofs.LinksStay.{link_elsewhere}
use Rattle.ra_link_laws.proofs.ServedFocus.{Ground, StaysBelow, ReadsSame, Focus, below_itself}
use Rattle.ra_link_laws.proofs.ServedMoves.{focus_moved}
use Rattle.ra_link_laws.proofs.ServedRuns.{link_after, put_first, put_twice, Going}
use Rattle.ra_link_laws.proofs.ServedTexts.{Follows, IsPut, keeps_put, below_put, over_stands}
use Rattle.ra_grand_laws.proofs.ShortSessions.{IsOff}
use Rattle.ra_grand_laws.proofs.ShortViews.{with_front, HasLeft, view_front}

-- ---- the link before these bytes came

-- what the client had read of it was written there
pub record Begun (g : Ground) (bytes : List ℕ) : Type 0 where
  pub session : Option Session
  pub kept : Option Row
  pub focus : Focus g session kept g.link
  pub follows : Follows bytes g.link.link.to_b
  pub within : (u : Welcome) (y : Link) → g.link.server.welcome ≡ Some u → u.epoch ≡ g.number → at_number g.session_links g.number ≡ Some y
      → y.to_a.read ≤ length (u.pause ++ drop u.down g.link.link.to_a.written)

-- a welcome that the link had then, or a later one
abbrev pub IsKnown : Ground → Option Welcome → Type 0
IsKnown g o = (w : Welcome) → o ≡ Some w → (g.link.server.welcome ≡ Some w) ⊎ (g.number < w.epoch)

-- ---- when bytes may be missing

-- all that was written is of the handshake
abbrev pub NoneBehind : Option Welcome → List ℕ → Type 0
NoneBehind None out = Unit {0}
NoneBehind (Some w) out = length out ≤ w.down

-- the session of the key has left the link of this welcome
pub record LeftOff (g : Ground) (v : Serving) : Type 0 where
  pub welcome : Welcome
  pub there : v.welcome ≡ Some welcome
  pub session : Session
  pub known : v.hub.session g.owner ≡ Some session
  pub off : IsOff welcome.epoch session

abbrev pub MayCut : Ground → Serving → Type 0
MayCut g v = (v.out ≡ g.link.server.out) ⊎ (NoneBehind v.welcome v.out ⊎ LeftOff g v)

-- ---- texts

none_of : (xs : List ℕ) → length xs ≡ 0 → xs ≡ []
none_of [] is = refl
none_of (x ∷ xs) is = absurd (omega (arith, is))

drop_front : (n : ℕ) (xs ys : List ℕ) → (more : List ℕ) × (drop n (xs ++ ys) ≡ drop n xs ++ more)
drop_front zero xs ys = (ys, refl)
drop_front (suc n) [] ys = (drop (suc n) ys, refl)
drop_front (suc n) (x ∷ xs) ys = drop_front n xs ys

speaks_front : (kind : Kind) (key out cut : List ℕ) (o : Option Welcome) → Speaks kind key o (out ++ cut) → Speaks kind key o out
speaks_front kind key out cut None (own, theirs, reason, rest, same) = (own, theirs, reason, cut ++ rest, sym (append_assoc out cut rest) ∙ same)
speaks_front kind key out cut (Some w) (own, theirs, agrees, down, pause) =
    (own, theirs, record { more = cut ++ agrees.more; rest = agrees.rest; same = sym (append_assoc out cut agrees.more) ∙ agrees.same }, down, pause)

-- ---- the session's link

-- The front of a link of the session that is there, and how much of it counts as read.
record IsFrontOf (g : Ground) (n : ℕ) (x : Link) (text : List ℕ) : Type 0 where
  more : List ℕ
  was : x.to_a.written ≡ text ++ more
  read : ℕ
  fits : read ≤ length text
  same : n ≡ g.number → read ≡ x.to_a.read
  none : x.to_a.read ≡ 0 → read ≡ 0

front_of : (g : Ground) (n : ℕ) (x : Link) (text more : List ℕ) → x.to_a.written ≡ text ++ more → (n ≡ g.number → x.to_a.read ≤ length text) → IsFrontOf g n x text
front_of g n x text more was fits = by (same_or_not n g.number)
  where
    by : (n ≡ g.number) ⊎ (n ≡ g.number → ⊥) → IsFrontOf g n x text
    by (inl here) = record { more = more; was = was; read = x.to_a.read; fits = fits here; same = λ _. refl; none = λ is. is }
    by (inr apart) = record { more = more; was = was; read = 0; fits = omega arith; same = λ here. absurd (apart here); none = λ _. refl }

reads_front : (number : ℕ) (old session_links : List Link) (n : ℕ) (x y : Link) → ReadsSame number old session_links → at_number session_links n ≡ Some x → (n ≡ number → y.to_a.read ≡ x.to_a.read)
    → ReadsSame number old (put_number session_links n y)
reads_front number old session_links n x y reads at same z is = by (put_cases session_links n number y z is)
  where
    by : ((number ≡ n) × (y ≡ z)) ⊎ ((number ≡ n → ⊥) × (at_number session_links number ≡ Some z)) → (k : Link) × (at_number old number ≡ Some k) × (k.to_a.read ≡ z.to_a.read)
    by (inl q) =
        let r = reads x (subst (λ (i : ℕ). at_number session_links i ≡ Some x) (sym q.0) at) in
        (r.0, r.1, r.2 ∙ sym (same (sym q.0)) ∙ ap (λ (v : Link). v.to_a.read) q.1)
    by (inr q) = reads z q.1

whole_front : (o : Peer) (x y : Link) (i n : ℕ) → y.is_cut ≡ x.is_cut → (x.to_a.written ≡ y.to_a.written) ⊎ HasLeft i n o → WritesWhole o x → WritesWhole o y
whole_front o x y i n cut (inl same) whole kept up = subst (λ (t : List ℕ). IsJoining 0 (messages o.endpoint) o.endpoint.received t) same (whole (sym cut ∙ kept) up)
whole_front o x y i n cut (inr left) whole kept up = absurd (true≢false (sym up ∙ left.off))

-- the session's link of the welcome has become this front of it
focus_front : (g : Ground) (s : Option Session) (o : Option Row) (l after : GrandLink) (f : Focus g s o l) (w : Welcome) (x : Link) (text : List ℕ) (front : IsFrontOf g w.epoch x text)
    → l.server.welcome ≡ Some w → after.server.welcome ≡ l.server.welcome → at_number f.session_links w.epoch ≡ Some x → (x.to_a.written ≡ text) ⊎ HasLeft f.present w.epoch f.peer
    → LinkKeeps g.owner (g.draws g.place) (put_number f.session_links w.epoch (with_front text front.read x)) f.present after → StaysBelow g.link after → Focus g s o after
focus_front g s o l after f w x text front there same at may here stays =
    let y : Link = with_front text front.read x in
    let fits : front.read ≤ length text = front.fits in
    let size : length x.to_a.written ≡ length text + length front.more = ap (λ (t : List ℕ). length t) front.was ∙ length-append text front.more in
    record {
      session_links = put_number f.session_links w.epoch y;
      present = f.present;
      peer = f.peer;
      view = turned 0 B f.present g.number f.peer g.near (put_number f.session_links w.epoch y)
          (view_front f.present g.number f.peer g.near f.session_links w.epoch x text front.more front.read (turned 0 A g.number f.present g.near f.peer f.session_links f.view) at front.was fits
          (omega (arith, fits, size)) front.same front.none may);
      server = f.server;
      whole = λ z is. whole_at z (put_cases f.session_links w.epoch f.present y z is);
      count = length-put_number f.session_links w.epoch y ∙ f.count;
      both = f.both;
      here = here;
      elsewhere = λ n k ne is.
          link_elsewhere g.owner (g.draws n) f.session_links f.present f.present w.epoch y k (λ u has even. f.apart n k u w ne is has there (sym even)) (λ u has even. refl) (f.elsewhere n k ne is);
      apart = λ n k v u ne is one other alike. f.apart n k v u ne is one (sym same ∙ other) alike;
      later = λ u behind is. f.later u behind (sym same ∙ is);
      stays = stays;
      reads = reads_front g.number g.session_links f.session_links w.epoch x y f.reads at front.same;
    }
  where
    whole_at : (z : Link) → ((f.present ≡ w.epoch) × (with_front text front.read x ≡ z)) ⊎ ((f.present ≡ w.epoch → ⊥) × (at_number f.session_links f.present ≡ Some z)) → WritesWhole f.peer z
    whole_at z (inl q) =
        subst (λ (k : Link). WritesWhole f.peer k) q.1
        (whole_front f.peer x (with_front text front.read x) f.present w.epoch refl may (f.whole x (subst (λ (i : ℕ). at_number f.session_links i ≡ Some x) (sym q.0) at)))
    whole_at z (inr q) = f.whole z q.1

-- ---- the link

-- it was served so, and was left; of what was written only a front is there
pub record Fronts (g : Ground) (v u : Serving) : Type 0 where
  pub front : List ℕ
  pub cut : List ℕ
  pub hub : u.hub ≡ v.hub
  pub seat : u.seat ≡ None
  pub welcome : u.welcome ≡ v.welcome
  pub out : u.out ≡ g.link.server.out ++ front
  pub was : v.out ≡ u.out ++ cut

written_more : (g : Ground) (draw : ℕ → List ℕ) (bytes : List ℕ) (v u : Serving) (x : Fronts g v u)
    → (link_after bytes true v g.link draw).link.to_a.written ≡ (link_after bytes true u g.link draw).link.to_a.written ++ cond g.link.link.is_cut [] x.cut
written_more g draw bytes v u x =
    let old : List ℕ = g.link.server.out in
    let is_cut : Bool = g.link.link.is_cut in
    let all : v.out ≡ old ++ (x.front ++ x.cut) = x.was ∙ ap (λ (t : List ℕ). t ++ x.cut) x.out ∙ append_assoc old x.front x.cut in
    let whole : IsPut (x.front ++ x.cut) g.link (link_after bytes true v g.link draw) bytes = put_first bytes true v g.link draw (x.front ++ x.cut) all in
    let some : IsPut x.front g.link (link_after bytes true u g.link draw) bytes = put_first bytes true u g.link draw x.front x.out in
    ap (λ (k : Link). k.to_a.written) whole.link ∙ put_twice is_cut g.link.link.to_a.written x.front x.cut
    ∙ ap (λ (t : List ℕ). t ++ cond is_cut [] x.cut) (sym (ap (λ (k : Link). k.to_a.written) some.link))

-- what was put there before is
written_old : (g : Ground) (draw : ℕ → List ℕ) (bytes : List ℕ) (v u : Serving) (x : Fronts g v u)
    → (link_after bytes true u g.link draw).link.to_a.written ≡ g.link.link.to_a.written ++ cond g.link.link.is_cut [] x.front
written_old g draw bytes v u x = ap (λ (k : Link). k.to_a.written) (put_first bytes true u g.link draw x.front x.out).link

-- nothing is missing
none_cut : (g : Ground) (v u : Serving) (x : Fronts g v u) → v.out ≡ g.link.server.out → x.cut ≡ []
none_cut g v u x same =
    let old : List ℕ = g.link.server.out in
    let first : length u.out ≡ length old + length x.front = ap (λ (t : List ℕ). length t) x.out ∙ length-append old x.front in
    let all : length old ≡ length u.out + length x.cut = ap (λ (t : List ℕ). length t) (sym same ∙ x.was) ∙ length-append u.out x.cut in
    none_of x.cut (omega (arith, first, all))

cond_none : (b : Bool) (t : List ℕ) → t ≡ [] → cond b [] t ≡ []
cond_none true t none = refl
cond_none false t none = none

has_at : (owner : Key) (d : Drawn) (session_links : List Link) (l : GrandLink) (o : Option Welcome) (w : Welcome) → o ≡ Some w → HasWelcome owner d session_links l o → IsWelcome owner d session_links l w
has_at owner d session_links l o w is has = subst (λ (q : Option Welcome). HasWelcome owner d session_links l q) is has

-- the part behind the handshake that is there
abbrev part_of : Welcome → GrandLink → List ℕ
part_of w l = w.pause ++ drop w.down l.link.to_a.written

part_more : (w : Welcome) (l after : GrandLink) (rest : List ℕ) (x : Link) → x.to_a.written ≡ part_of w l → l.link.to_a.written ≡ after.link.to_a.written ++ rest
    → (more : List ℕ) × (x.to_a.written ≡ part_of w after ++ more)
part_more w l after rest x is grows =
    let behind = drop_front w.down after.link.to_a.written rest in (
      behind.0,
      is ∙ ap (λ (t : List ℕ). w.pause ++ drop w.down t) grows ∙ ap (λ (t : List ℕ). w.pause ++ t) behind.1
          ∙ sym (append_assoc w.pause (drop w.down after.link.to_a.written) behind.0),
    )

part_within : (w : Welcome) (before : List ℕ) (after : GrandLink) (rest : List ℕ) (read : ℕ) → after.link.to_a.written ≡ before ++ rest → read ≤ length (w.pause ++ drop w.down before)
    → read ≤ length (part_of w after)
part_within w before after rest read grows within =
    let behind = drop_front w.down before rest in
    let same : part_of w after ≡ (w.pause ++ drop w.down before) ++ behind.0 =
    ap (λ (t : List ℕ). w.pause ++ drop w.down t) grows ∙ ap (λ (t : List ℕ). w.pause ++ t) behind.1 ∙ sym (append_assoc w.pause (drop w.down before) behind.0) in
    let size : length (part_of w after) ≡ length (w.pause ++ drop w.down before) + length behind.0 =
    ap (λ (t : List ℕ). length t) same ∙ length-append (w.pause ++ drop w.down before) behind.0 in
    omega (arith, size, within)

-- nothing is missing of it, or its session has left it
part_may : (g : Ground) (draw : ℕ → List ℕ) (bytes : List ℕ) (v u : Serving) (x : Fronts g v u) (f : Focus g (v.hub.session g.owner) (row v.hub g.owner) (link_after bytes true v g.link draw))
    (w : Welcome) (k : Link) → v.welcome ≡ Some w → k.to_a.written ≡ part_of w (link_after bytes true v g.link draw) → MayCut g v
    → (k.to_a.written ≡ part_of w (link_after bytes true u g.link draw)) ⊎ HasLeft f.present w.epoch f.peer
part_may g draw bytes v u x f w k there is (inl same) =
    let l : GrandLink = link_after bytes true v g.link draw in
    let after : GrandLink = link_after bytes true u g.link draw in
    let grows : l.link.to_a.written ≡ after.link.to_a.written =
    written_more g draw bytes v u x ∙ ap (λ (t : List ℕ). after.link.to_a.written ++ t) (cond_none g.link.link.is_cut x.cut (none_cut g v u x same))
    ∙ append-nil after.link.to_a.written in
    inl (is ∙ ap (λ (t : List ℕ). w.pause ++ drop w.down t) grows)
part_may g draw bytes v u x f w k there is (inr (inl behind)) =
    let l : GrandLink = link_after bytes true v g.link draw in
    let after : GrandLink = link_after bytes true u g.link draw in
    let none : length v.out ≤ w.down = subst (λ (o : Option Welcome). NoneBehind o v.out) there behind in
    let begins : Begins v.out l.link.to_a.written = f.here.put in
    let size : length v.out ≡ length l.link.to_a.written + length begins.rest = ap (λ (t : List ℕ). length t) begins.same ∙ length-append l.link.to_a.written begins.rest in
    let rest : List ℕ = cond g.link.link.is_cut [] x.cut in
    let less : length l.link.to_a.written ≡ length after.link.to_a.written + length rest =
    ap (λ (t : List ℕ). length t) (written_more g draw bytes v u x) ∙ length-append after.link.to_a.written rest in
    inl (is ∙ ap (λ (t : List ℕ). w.pause ++ t)
    (drop_all w.down l.link.to_a.written (omega (arith, none, size)) ∙ sym (drop_all w.down after.link.to_a.written (omega (arith, none, size, less)))))
part_may g draw bytes v u x f w k there is (inr (inr off)) =
    let same : off.welcome ≡ w = there_is (sym off.there ∙ there) in
    let server : IsServer (Some off.session) f.peer f.present = subst (λ (o : Option Session). IsServer o f.peer f.present) off.known f.server in
    let number : off.session.peer.endpoint.epoch ≡ off.welcome.epoch = off.off.number in
    inr (record {
      here = sym (ap (λ (q : Welcome). q.epoch) same) ∙ sym number ∙ server.1;
      off = subst (λ (p : Peer). is_linked p.endpoint.phase ≡ false) (sym server.0) off.off.off;
      none = subst (λ (p : Peer). p.endpoint.unwritten ≡ []) (sym server.0) off.off.none;
    })

-- ---- what holds of it

keeps_front : (g : Ground) (draw : ℕ → List ℕ) (bytes : List ℕ) (v u : Serving) (x : Fronts g v u) (b : Begun g bytes)
    → (f : Focus g (v.hub.session g.owner) (row v.hub g.owner) (link_after bytes true v g.link draw)) (session_links : List Link)
    → HasWelcome g.owner (g.draws g.place) session_links (link_after bytes true u g.link draw) u.welcome
    → LinkKeeps g.owner (g.draws g.place) session_links f.present (link_after bytes true u g.link draw)
keeps_front g draw bytes v u x b f session_links has =
    let d : Drawn = g.draws g.place in
    let after : GrandLink = link_after bytes true u g.link draw in
    let speaks : Speaks g.owner.kind d.key u.welcome u.out =
    speaks_front g.owner.kind d.key u.out x.cut u.welcome
    (subst (λ (o : Option Welcome). Speaks g.owner.kind d.key o (u.out ++ x.cut)) (sym x.welcome)
    (subst (λ (t : List ℕ). Speaks g.owner.kind d.key v.welcome t) x.was f.here.speaks)) in
    keeps_put g.owner d b.focus.session_links session_links b.focus.present f.present g.link after bytes x.front b.focus.here b.follows (put_first bytes true u g.link draw x.front x.out) speaks has
    (over_stands g.owner session_links f.present after true u.seat refl x.seat)

below_front : (g : Ground) (draw : ℕ → List ℕ) (bytes : List ℕ) (v u : Serving) (x : Fronts g v u) (b : Begun g bytes)
    → Focus g (v.hub.session g.owner) (row v.hub g.owner) (link_after bytes true v g.link draw) → StaysBelow g.link (link_after bytes true u g.link draw)
below_front g draw bytes v u x b f =
    below_put g.owner (g.draws g.place) b.focus.session_links b.focus.present g.link g.link (link_after bytes true u g.link draw) bytes x.front b.focus.here
    (put_first bytes true u g.link draw x.front x.out) (λ w is. x.welcome ∙ f.stays.welcome w is) (below_itself g.link)

focus_some : (g : Ground) (draw : ℕ → List ℕ) (bytes : List ℕ) (v u : Serving) (x : Fronts g v u) (b : Begun g bytes)
    → (f : Focus g (v.hub.session g.owner) (row v.hub g.owner) (link_after bytes true v g.link draw)) (w : Welcome) → v.welcome ≡ Some w
    → (g.link.server.welcome ≡ Some w) ⊎ (g.number < w.epoch) → MayCut g v
    → Focus g (v.hub.session g.owner) (row v.hub g.owner) (link_after bytes true u g.link draw)
focus_some g draw bytes v u x b f w there known may =
    focus_front g (v.hub.session g.owner) (row v.hub g.owner) l after f w session_link text front there x.welcome has.is_at (part_may g draw bytes v u x f w session_link there has.carries.down may)
    (keeps_front g draw bytes v u x b f session_links (subst (λ (o : Option Welcome). HasWelcome g.owner d session_links after o) (sym (x.welcome ∙ there)) now))
    (below_front g draw bytes v u x b f)
  where
    d : Drawn
    d = g.draws g.place

    l : GrandLink
    l = link_after bytes true v g.link draw

    after : GrandLink
    after = link_after bytes true u g.link draw

    has : IsWelcome g.owner d f.session_links l w
    has = has_at g.owner d f.session_links l v.welcome w there f.here.welcome

    session_link : Link
    session_link = has.session_link

    text : List ℕ
    text = part_of w after

    read_within : w.epoch ≡ g.number → (g.link.server.welcome ≡ Some w) ⊎ (g.number < w.epoch) → session_link.to_a.read ≤ length text
    read_within here (inr less) = absurd (omega (arith, here, less))
    read_within here (inl old) =
        let r = f.reads session_link (subst (λ (i : ℕ). at_number f.session_links i ≡ Some session_link) here has.is_at) in
        let within : r.0.to_a.read ≤ length (w.pause ++ drop w.down g.link.link.to_a.written) = b.within w r.0 old here r.1 in
        part_within w g.link.link.to_a.written after (cond g.link.link.is_cut [] x.front) session_link.to_a.read (written_old g draw bytes v u x)
        (subst (λ (i : ℕ). i ≤ length (w.pause ++ drop w.down g.link.link.to_a.written)) r.2 within)

    front : IsFrontOf g w.epoch session_link text
    front =
        let more = part_more w l after (cond g.link.link.is_cut [] x.cut) session_link has.carries.down (written_more g draw bytes v u x) in
        front_of g w.epoch session_link text more.0 more.1 (λ here. read_within here known)

    y : Link
    y = with_front text front.read session_link

    session_links : List Link
    session_links = put_number f.session_links w.epoch y

    now : IsWelcome g.owner d session_links after w
    now = record {
      theirs = has.theirs;
      place = has.place;
      there = has.there;
      session_link = y;
      is_at = number_same f.session_links w.epoch y session_link has.is_at;
      carries = record { up = has.carries.up; down = refl; cut = has.carries.cut };
    }

focus_by : (g : Ground) (draw : ℕ → List ℕ) (bytes : List ℕ) (v u : Serving) (x : Fronts g v u) (b : Begun g bytes)
    → (f : Focus g (v.hub.session g.owner) (row v.hub g.owner) (link_after bytes true v g.link draw)) (o : Option Welcome) → v.welcome ≡ o → IsKnown g v.welcome → MayCut g v
    → Focus g (v.hub.session g.owner) (row v.hub g.owner) (link_after bytes true u g.link draw)
focus_by g draw bytes v u x b f (Some w) there known may = focus_some g draw bytes v u x b f w there (known w there) may
focus_by g draw bytes v u x b f None none known may =
    let d : Drawn = g.draws g.place in
    let l : GrandLink = link_after bytes true v g.link draw in
    let after : GrandLink = link_after bytes true u g.link draw in
    let has : HasWelcome g.owner d f.session_links l None = subst (λ (o : Option Welcome). HasWelcome g.owner d f.session_links l o) none f.here.welcome in
    focus_moved g (v.hub.session g.owner) (row v.hub g.owner) l after f
    (keeps_front g draw bytes v u x b f f.session_links (subst (λ (o : Option Welcome). HasWelcome g.owner d f.session_links after o) (sym (x.welcome ∙ none)) has))
    (below_front g draw bytes v u x b f) x.welcome

pub front_going : (g : Ground) (h : Hub) (draw : ℕ → List ℕ) (bytes : List ℕ) (v u : Serving) → Fronts g v u → Begun g bytes → Going g h draw bytes true v → IsKnown g v.welcome → MayCut g v
    → Going g h draw bytes true u
front_going g h draw bytes v u x b going known may = record {
  focus = subst (λ (k : Hub). Focus g (k.session g.owner) (row k g.owner) (link_after bytes true u g.link draw)) (sym x.hub)
      (focus_by g draw bytes v u x b going.focus v.welcome refl known may);
  others = subst (λ (k : Hub). OthersStay g.owner h k) (sym x.hub) going.others;
  front = record { rest = x.front; same = x.out };
}
