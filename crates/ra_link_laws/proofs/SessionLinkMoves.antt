-- A link keeps what holds of it while it is cut, read by the client or written by it, and while what was read of the session's links changes.
use Rattle.std.proofs.Common.{◌≡◌, inl, inr, ℕ, ◌+◌, ◌≤◌, Bool, true, false, true≢false, cond, Option, Some, None, List, [], ◌++◌, length, take, drop, refl, ap, sym, ◌∙◌, subst, ⊎_elim, append-nil, length-append, length-drop, take-add, arith}
use Rattle.std.specs.Prelude.{◌⊎◌}
use Rattle.std.proofs.lemmas.List.{take-append-le, drop-append-le}
use Rattle.ra_base.specs.declared.event.Side.TheVariants.{A, B}
use Rattle.ra_base.specs.declared.key.Key.{Key}
use Rattle.ra_base.specs.declared.key.Seat.{Seat}
use Rattle.ra_model.specs.Links.{Link, at_number, put_number, readable, read_on, written_to, cut_off}
use Rattle.ra_model.specs.Pairs.{messages, IsJoining}
use Rattle.ra_model.specs.Worlds.{Peer}
use Rattle.ra_model.proofs.Numbers.{put_cases, put_same, put_other}
use Rattle.ra_link_core.specs.LinkRuns.{Welcome}
use Rattle.ra_grand_runs.specs.GrandClients.{GrandLink, writes_up}
use Rattle.ra_grand_runs.specs.Reached.{Begins, read_of}
use Rattle.ra_run_laws.proofs.Lists.{there_is, same_or_not}
use Rattle.ra_handshake_laws.specs.Handshakes.{client_text}
use Rattle.ra_link_laws.specs.Parts.{Drawn, Carries, IsWelcome, HasWelcome, EndStands, LinkKeeps, WritesWhole}

-- ---- links of the session of which other bytes were read

-- Each link of the second list was in the first: the server had read as much of it, and written the same, and it was cut only if it is now.
abbrev pub Backs : List Link → List Link → Type 0
Backs old new =
    (e : ℕ) (y : Link) → at_number new e ≡ Some y
    → (x : Link) × (at_number old e ≡ Some x) × ((x.to_b.read ≡ y.to_b.read) × (x.to_a.written ≡ y.to_a.written) × (y.is_cut ≡ false → x.is_cut ≡ false))

pub backs_itself : (session_links : List Link) → Backs session_links session_links
backs_itself session_links e y is = (y, is, (refl, refl, λ kept. kept))

pub backs_put : (session_links : List Link) (n : ℕ) (x y : Link) → at_number session_links n ≡ Some x → x.to_b.read ≡ y.to_b.read → x.to_a.written ≡ y.to_a.written
    → (y.is_cut ≡ false → x.is_cut ≡ false) → Backs session_links (put_number session_links n y)
backs_put session_links n x y at read text kept e z is =
    ⊎_elim {C = (v : Link) × (at_number session_links e ≡ Some v) × ((v.to_b.read ≡ z.to_b.read) × (v.to_a.written ≡ z.to_a.written) × (z.is_cut ≡ false → v.is_cut ≡ false))}
    (λ p. (
      x,
      ap (λ (k : ℕ). at_number session_links k) p.0 ∙ at,
      (read ∙ ap (λ (v : Link). v.to_b.read) p.1, text ∙ ap (λ (v : Link). v.to_a.written) p.1, λ is_kept. kept (ap (λ (v : Link). v.is_cut) p.1 ∙ is_kept)),
    ))
    (λ p. (z, p.1, (refl, refl, λ is_kept. is_kept)))
    (put_cases session_links n e y z is)

pub whole_back : (peer : Peer) (present : ℕ) (old new : List Link) → Backs old new → ((x : Link) → at_number old present ≡ Some x → WritesWhole peer x)
    → (y : Link) → at_number new present ≡ Some y → WritesWhole peer y
whole_back peer present old new back whole y at kept linked =
    let was = back present y at in
    subst (λ (t : List ℕ). IsJoining 0 (messages peer.endpoint) peer.endpoint.received t) was.2.1 (whole was.0 was.1 (was.2.2 kept) linked)

-- the client had read as much of each
abbrev pub ReadsBack : List Link → List Link → Type 0
ReadsBack old new = (e : ℕ) (y : Link) → at_number new e ≡ Some y → (x : Link) × (at_number old e ≡ Some x) × (x.to_a.read ≡ y.to_a.read)

reads_put : (session_links : List Link) (n : ℕ) (x y : Link) → at_number session_links n ≡ Some x → x.to_a.read ≡ y.to_a.read → ReadsBack session_links (put_number session_links n y)
reads_put session_links n x y at same e z is =
    ⊎_elim {C = (v : Link) × (at_number session_links e ≡ Some v) × (v.to_a.read ≡ z.to_a.read)}
    (λ p. (x, ap (λ (k : ℕ). at_number session_links k) p.0 ∙ at, same ∙ ap (λ (v : Link). v.to_a.read) p.1))
    (λ p. (z, p.1, refl))
    (put_cases session_links n e y z is)

-- each link of the first list is in the second, with the same texts
abbrev pub SameTexts : List Link → List Link → Type 0
SameTexts old new =
    (e : ℕ) (x : Link) → at_number old e ≡ Some x
    → (y : Link) × (at_number new e ≡ Some y) × ((y.to_b.written ≡ x.to_b.written) × (y.to_a.written ≡ x.to_a.written) × (y.is_cut ≡ x.is_cut))

pub texts_put : (session_links : List Link) (n : ℕ) (x y : Link) → at_number session_links n ≡ Some x
    → y.to_b.written ≡ x.to_b.written → y.to_a.written ≡ x.to_a.written → y.is_cut ≡ x.is_cut → SameTexts session_links (put_number session_links n y)
texts_put session_links n x y at up down cut e z is = by (same_or_not n e)
  where
    by : (n ≡ e) ⊎ (n ≡ e → ⊥)
        → (v : Link) × (at_number (put_number session_links n y) e ≡ Some v) × ((v.to_b.written ≡ z.to_b.written) × (v.to_a.written ≡ z.to_a.written) × (v.is_cut ≡ z.is_cut))
    by (inl here) =
        let both : x ≡ z = there_is (sym at ∙ ap (λ (k : ℕ). at_number session_links k) here ∙ is) in (
          y,
          ap (λ (k : ℕ). at_number (put_number session_links n y) k) (sym here) ∙ put_same session_links n x y at,
          (up ∙ ap (λ (v : Link). v.to_b.written) both, down ∙ ap (λ (v : Link). v.to_a.written) both, cut ∙ ap (λ (v : Link). v.is_cut) both),
        )
    by (inr not) = (z, put_other session_links n e y z (λ e. not (sym e)) is, (refl, refl, refl))

-- ---- what depends on the session's links

welcome_moved : (owner : Key) (d : Drawn) (old new : List Link) (l : GrandLink) (m : Link) (w : Welcome) → IsWelcome owner d old l w
    → w.up ≤ length m.to_b.written → (y : Link) → at_number new w.epoch ≡ Some y → Carries w m y → IsWelcome owner d new (record l { link = m }) w
welcome_moved owner d old new l m w has there y at carries =
    record { theirs = has.theirs; place = has.place; there = there; session_link = y; is_at = at; carries = carries }

end_moved : (owner : Key) (old new : List Link) (present : ℕ) (l : GrandLink) (m : Link) (over : Bool) (seat : Option Seat) → m.to_b.read ≡ l.link.to_b.read → Backs old new
    → EndStands owner old present l over seat → EndStands owner new present (record l { link = m }) over seat
end_moved owner old new present l m true seat same back stands = stands
end_moved owner old new present l m false None same back stands = stands
end_moved owner old new present l m false (Some seat) same back stands = record {
  welcome = stands.welcome;
  is_there = stands.is_there;
  key = stands.key;
  number = stands.number;
  said = stands.said;
  read = λ is y at.
      let was = back present y at in
      ap (λ (n : ℕ). n + stands.welcome.up) (sym was.2.0) ∙ stands.read is was.0 was.1 ∙ sym same;
}

moved : (owner : Key) (d : Drawn) (old new : List Link) (present : ℕ) (l : GrandLink) (m : Link) → LinkKeeps owner d old present l
    → m.to_b.read ≤ length m.to_b.written → m.to_a.read ≤ length m.to_a.written → read_of m.to_b ≡ read_of l.link.to_b → m.to_b.read ≡ l.link.to_b.read
    → m.to_a.written ≡ l.link.to_a.written → (m.is_cut ≡ false → l.link.is_cut ≡ false) → Backs old new
    → HasWelcome owner d new (record l { link = m }) l.server.welcome → LinkKeeps owner d new present (record l { link = m })
moved owner d old new present l m keeps up down seen read text kept back welcome = record {
  key_len = keeps.key_len;
  key_bytes = keeps.key_bytes;
  head = keeps.head;
  up = up;
  down = down;
  seen = keeps.seen ∙ sym seen;
  put = subst (λ (t : List ℕ). Begins l.server.out t) (sym text) keeps.put;
  put_all = λ is. text ∙ keeps.put_all (kept is);
  speaks = keeps.speaks;
  welcome = welcome;
  end = end_moved owner old new present l m l.server.is_over l.server.seat read back keeps.end;
}

-- ---- the session's links are read further

renewed_links : (owner : Key) (d : Drawn) (old new : List Link) (l : GrandLink) (o : Option Welcome) → SameTexts old new → HasWelcome owner d old l o → HasWelcome owner d new l o
renewed_links owner d old new l None same has = has
renewed_links owner d old new l (Some w) same has =
    let now = same w.epoch has.session_link has.is_at in
    record {
      theirs = has.theirs;
      place = has.place;
      there = has.there;
      session_link = now.0;
      is_at = now.1;
      carries = record { up = now.2.0 ∙ has.carries.up; down = now.2.1 ∙ has.carries.down; cut = now.2.2 ∙ has.carries.cut };
    }

pub link_renewed : (owner : Key) (d : Drawn) (old new : List Link) (present : ℕ) (l : GrandLink) → SameTexts old new → Backs old new
    → LinkKeeps owner d old present l → LinkKeeps owner d new present l
link_renewed owner d old new present l same back keeps =
    moved owner d old new present l l.link keeps keeps.up keeps.down refl refl refl (λ is. is) back (renewed_links owner d old new l l.server.welcome same keeps.welcome)

-- ---- the client reads more of a link

fits_by : (cut : Bool) (read k : ℕ) (text : List ℕ) → read ≤ length text → k ≤ length (cond cut [] (drop read text)) → read + k ≤ length text
fits_by true read k text le fits = let none : k ≤ 0 = fits in omega (arith, none, le)
fits_by false read k text le fits = omega (arith, le, fits, length-drop read text)

more_by : (cut : Bool) (read k : ℕ) (text : List ℕ) → k ≤ length (cond cut [] (drop read text)) → take (read + k) text ≡ take read text ++ take k (cond cut [] (drop read text))
more_by true read k text fits =
    let none : k ≤ 0 = fits in
    let is : k ≡ 0 = omega (arith, none) in
    let all : read + k ≡ read = omega (arith, is) in
    ap (λ (n : ℕ). take n text) all ∙ sym (append-nil (take read text)) ∙ ap (λ (n : ℕ). take read text ++ take n []) (sym is)
more_by false read k text fits = take-add read k text

pub read_fits : (l : Link) (k : ℕ) → l.to_a.read ≤ length l.to_a.written → k ≤ length (readable A l) → l.to_a.read + k ≤ length l.to_a.written
read_fits l k le fits = fits_by l.is_cut l.to_a.read k l.to_a.written le fits

-- what was read grows by just these bytes
pub read_more : (l : Link) (k : ℕ) → k ≤ length (readable A l) → read_of (read_on A k l).to_a ≡ read_of l.to_a ++ take k (readable A l)
read_more l k fits = more_by l.is_cut l.to_a.read k l.to_a.written fits

down_welcome : (owner : Key) (d : Drawn) (session_links : List Link) (k : ℕ) (l : GrandLink) (o : Option Welcome) → HasWelcome owner d session_links l o
    → HasWelcome owner d session_links (record l { link = read_on A k l.link }) o
down_welcome owner d session_links k l None has = has
down_welcome owner d session_links k l (Some w) has =
    welcome_moved owner d session_links session_links l (read_on A k l.link) w has has.there has.session_link has.is_at (record { up = has.carries.up; down = has.carries.down; cut = has.carries.cut })

pub link_down : (owner : Key) (d : Drawn) (session_links : List Link) (present k : ℕ) (l : GrandLink) → k ≤ length (readable A l.link) → LinkKeeps owner d session_links present l
    → LinkKeeps owner d session_links present (record l { link = read_on A k l.link })
link_down owner d session_links present k l fits keeps =
    moved owner d session_links session_links present l (read_on A k l.link) keeps keeps.up (read_fits l.link k keeps.down fits) refl refl refl (λ is. is) (backs_itself session_links)
    (down_welcome owner d session_links k l l.server.welcome keeps.welcome)

-- ---- a link is cut

-- the session's links, once that of the welcome is cut
abbrev pub CutBy : Key → Drawn → List Link → GrandLink → Option Welcome → List Link → Type 0
CutBy owner d session_links l None new = new ≡ session_links
CutBy owner d session_links l (Some w) new = (x : Link) × (at_number session_links w.epoch ≡ Some x) × (new ≡ put_number session_links w.epoch (cut_off x))

cut_welcome : (owner : Key) (d : Drawn) (session_links new : List Link) (l : GrandLink) (o : Option Welcome) → CutBy owner d session_links l o new → HasWelcome owner d session_links l o
    → HasWelcome owner d new (record l { link = cut_off l.link }) o
cut_welcome owner d session_links new l None is has = has
cut_welcome owner d session_links new l (Some w) is has =
    let x = is.0 in
    let same : has.session_link ≡ x = there_is (sym has.is_at ∙ is.1) in
    welcome_moved owner d session_links new l (cut_off l.link) w has has.there (cut_off x)
    (ap (λ (ls : List Link). at_number ls w.epoch) is.2 ∙ put_same session_links w.epoch x (cut_off x) is.1)
    (record {
      up = ap (λ (v : Link). v.to_b.written) (sym same) ∙ has.carries.up;
      down = ap (λ (v : Link). v.to_a.written) (sym same) ∙ has.carries.down;
      cut = refl;
    })

pub cut_backs : (owner : Key) (d : Drawn) (session_links new : List Link) (l : GrandLink) (o : Option Welcome) → CutBy owner d session_links l o new → Backs session_links new
cut_backs owner d session_links new l None is = subst (λ (ls : List Link). Backs session_links ls) (sym is) (backs_itself session_links)
cut_backs owner d session_links new l (Some w) is =
    subst (λ (ls : List Link). Backs session_links ls) (sym is.2) (backs_put session_links w.epoch is.0 (cut_off is.0) is.1 refl refl (λ kept. absurd (true≢false kept)))

pub cut_reads : (owner : Key) (d : Drawn) (session_links new : List Link) (l : GrandLink) (o : Option Welcome) → CutBy owner d session_links l o new → ReadsBack session_links new
cut_reads owner d session_links new l None is = subst (λ (ls : List Link). ReadsBack session_links ls) (sym is) (λ e y at. (y, at, refl))
cut_reads owner d session_links new l (Some w) is =
    subst (λ (ls : List Link). ReadsBack session_links ls) (sym is.2) (reads_put session_links w.epoch is.0 (cut_off is.0) is.1 refl)

pub link_cut : (owner : Key) (d : Drawn) (session_links new : List Link) (present : ℕ) (l : GrandLink) → CutBy owner d session_links l l.server.welcome new
    → LinkKeeps owner d session_links present l → LinkKeeps owner d new present (record l { link = cut_off l.link })
link_cut owner d session_links new present l is keeps =
    moved owner d session_links new present l (cut_off l.link) keeps keeps.up keeps.down refl refl refl (λ kept. absurd (true≢false kept))
    (cut_backs owner d session_links new l l.server.welcome is) (cut_welcome owner d session_links new l l.server.welcome is keeps.welcome)

-- ---- the client writes on a link

none_if : (b : Bool) (xs : List ℕ) → xs ++ cond b [] [] ≡ xs
none_if true xs = append-nil xs
none_if false xs = append-nil xs

pub nothing_up : (l : Link) → written_to B [] l ≡ l
nothing_up l = ap (λ (t : List ℕ). record { to_a = l.to_a; to_b = record { written = t; read = l.to_b.read }; is_cut = l.is_cut }) (none_if l.is_cut l.to_b.written)

pub nothing_link : (l : GrandLink) → writes_up [] l ≡ l
nothing_link l = ap (λ (x : Link). record l { link = x }) (nothing_up l.link)

up_moved : (owner : Key) (d : Drawn) (old new : List Link) (present : ℕ) (l : GrandLink) (bytes : List ℕ) → LinkKeeps owner d old present l → Backs old new
    → HasWelcome owner d new (writes_up bytes l) l.server.welcome → LinkKeeps owner d new present (writes_up bytes l)
up_moved owner d old new present l bytes keeps back welcome =
    moved owner d old new present l (written_to B bytes l.link) keeps
    (let low = keeps.up in omega (arith, low, length-append l.link.to_b.written (cond l.link.is_cut [] bytes))) keeps.down
    (take-append-le l.link.to_b.read l.link.to_b.written (cond l.link.is_cut [] bytes) keeps.up) refl refl (λ is. is) back welcome

-- bytes of the session go on both
up_welcome : (owner : Key) (d : Drawn) (session_links : List Link) (l : GrandLink) (bytes : List ℕ) (w : Welcome) (x : Link) → at_number session_links w.epoch ≡ Some x → IsWelcome owner d session_links l w
    → IsWelcome owner d (put_number session_links w.epoch (written_to B bytes x)) (writes_up bytes l) w
up_welcome owner d session_links l bytes w x at has =
    let text = l.link.to_b.written in
    let some = cond l.link.is_cut [] bytes in
    let same : has.session_link ≡ x = there_is (sym has.is_at ∙ at) in
    let c : Carries w l.link x = subst (λ (v : Link). Carries w l.link v) same has.carries in
    let low = has.there in
    welcome_moved owner d session_links (put_number session_links w.epoch (written_to B bytes x)) l (written_to B bytes l.link) w has (omega (arith, low, length-append text some))
    (written_to B bytes x) (put_same session_links w.epoch x (written_to B bytes x) at)
    (record {
      up = ap (λ (b : Bool). x.to_b.written ++ cond b [] bytes) c.cut ∙ ap (λ (t : List ℕ). t ++ some) c.up ∙ sym (drop-append-le w.up text some has.there);
      down = c.down;
      cut = c.cut;
    })

pub link_up : (owner : Key) (d : Drawn) (session_links : List Link) (present : ℕ) (l : GrandLink) (bytes : List ℕ) (w : Welcome) (x : Link) → l.server.welcome ≡ Some w
    → at_number session_links w.epoch ≡ Some x → LinkKeeps owner d session_links present l → LinkKeeps owner d (put_number session_links w.epoch (written_to B bytes x)) present (writes_up bytes l)
link_up owner d session_links present l bytes w x is at keeps =
    let new = put_number session_links w.epoch (written_to B bytes x) in
    let has : IsWelcome owner d session_links l w = subst (λ (o : Option Welcome). HasWelcome owner d session_links l o) is keeps.welcome in
    up_moved owner d session_links new present l bytes keeps (backs_put session_links w.epoch x (written_to B bytes x) at refl refl (λ kept. kept))
    (subst (λ (o : Option Welcome). HasWelcome owner d new (writes_up bytes l) o) (sym is) (up_welcome owner d session_links l bytes w x at has))

-- bytes of a handshake go on the link alone, and none behind its end
pub link_said : (owner : Key) (d : Drawn) (session_links : List Link) (present : ℕ) (l : GrandLink) (bytes : List ℕ) → ((w : Welcome) → l.server.welcome ≡ Some w → bytes ≡ [])
    → (theirs rest : List ℕ) → (writes_up bytes l).link.to_b.written ++ rest ≡ client_text owner d.reconnection d.key d.own theirs
    → LinkKeeps owner d session_links present l → LinkKeeps owner d session_links present (writes_up bytes l)
link_said owner d session_links present l bytes stops theirs rest front keeps = by l.server.welcome refl
  where
    by : (o : Option Welcome) → l.server.welcome ≡ o → LinkKeeps owner d session_links present (writes_up bytes l)
    by None is =
        up_moved owner d session_links session_links present l bytes keeps (backs_itself session_links)
        (subst (λ (o : Option Welcome). HasWelcome owner d session_links (writes_up bytes l) o) (sym is) (theirs, rest, front))
    by (Some w) is =
        subst (λ (t : List ℕ). LinkKeeps owner d session_links present (writes_up t l)) (sym (stops w is))
        (subst (λ (k : GrandLink). LinkKeeps owner d session_links present k) (sym (nothing_link l)) keeps)
