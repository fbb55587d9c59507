-- Links that are not the one that a session writes on now, and a new end.
use Rattle.std.proofs.Common.{◌≡◌, ℕ, suc, ◌<◌, ◌≤◌, Bool, true, false, Some, List, [], ◌∷◌, ◌++◌, length, set, map, take, refl, ap, sym, ◌∙◌, subst, arith, ⊎_elim}
use Rattle.std.specs.Prelude.{slice_get}
use Rattle.std.proofs.lemmas.Bool.{false≢true, cases_eq}
use Rattle.std.proofs.lemmas.List.{append-nil, take-append-le}
use Rattle.ra_base.specs.declared.event.Side.{Side}
use Rattle.ra_base.specs.declared.event.Side.TheVariants.{A, B}
use Rattle.ra_model.specs.declared.frame.Frame.{Frame}
use Rattle.ra_model.specs.Frames.{joined}
use Rattle.ra_model.specs.Endpoints.{Endpoint, SaidMessage, is_linked}
use Rattle.ra_model.specs.Links.{Link, new_link, other, Direction, direction_to, at_number, put_number, written_to, cut_off}
use Rattle.ra_model.specs.Worlds.{Peer}
use Rattle.ra_model.specs.Pairs.{body_of, messages, AllHonest, IsFront}
use Rattle.ra_model.specs.Views.{View, InEveryView, HasWritten, HasRead, new_peer}
use Rattle.ra_model.proofs.Honesty.{front_front}
use Rattle.ra_model.proofs.Numbers.{put_cases, put_same, put_other, length-put_number}
use Rattle.ra_model.proofs.Outgoing.{outgoing_elsewhere}
use Rattle.ra_model.proofs.Incoming.{incoming_elsewhere}
use Rattle.ra_model.proofs.LinkMoves.{view_linked, view_cut}
use Rattle.ra_model.proofs.CutShort.{view_ahead}
use Rattle.ra_views.specs.SessionViews.{link_with, with_text}

-- ---- a link is made on which frames were written

get_last : {X : Type 0} → (xs : List X) (x : X) → slice_get (xs ++ x ∷ []) (length xs) ≡ Some x
get_last [] x = refl
get_last (y ∷ xs) x = get_last xs x

set_last : {X : Type 0} → (xs : List X) (x y : X) → set (xs ++ x ∷ []) (length xs) y ≡ xs ++ y ∷ []
set_last [] x y = refl
set_last (z ∷ xs) x y = ap (λ (t : List _). z ∷ t) (set_last xs x y)

written_new : (to : Side) (frames : List Frame) → written_to to (joined frames) new_link ≡ link_with to frames false
written_new A frames = refl
written_new B frames = refl

cut_with : (to : Side) (frames : List Frame) → cut_off (link_with to frames false) ≡ link_with to frames true
cut_with A frames = refl
cut_with B frames = refl

view_open : (start : ℕ) (s : Side) (i j : ℕ) (p o : Peer) (links : List Link) (frames : List Frame) → View start s i j p o links → AllHonest start (messages p.endpoint) p.endpoint.received frames
    → View start s i j p o (links ++ link_with (other s) frames false ∷ [])
view_open start s i j p o links frames v all =
    let known : i ≤ length links = v.mine.there in
    let ahead : View start s i j p o (set (links ++ new_link ∷ []) (length links) (written_to (other s) (joined frames) new_link)) =
    view_ahead start s i j p o (links ++ new_link ∷ []) (suc (length links)) new_link frames (view_linked start s i j p o links v) (omega arith) (get_last links new_link) all in
    subst (λ (l : Link). View start s i j p o (links ++ l ∷ [])) (written_new (other s) frames)
    (subst (λ (ls : List Link). View start s i j p o ls) (set_last links new_link (written_to (other s) (joined frames) new_link)) ahead)

view_closed : (start : ℕ) (s : Side) (i j : ℕ) (p o : Peer) (links : List Link) (frames : List Frame) → View start s i j p o (links ++ link_with (other s) frames false ∷ [])
    → View start s i j p o (links ++ link_with (other s) frames true ∷ [])
view_closed start s i j p o links frames v =
    let l : Link = link_with (other s) frames false in
    let cut : View start s i j p o (set (links ++ l ∷ []) (length links) (cut_off l)) =
    view_cut start s i j p o (links ++ l ∷ []) (suc (length links)) l v (get_last links l) in
    subst (λ (x : Link). View start s i j p o (links ++ x ∷ [])) (cut_with (other s) frames)
    (subst (λ (ls : List Link). View start s i j p o ls) (set_last links l (cut_off l)) cut)

made_with : (start : ℕ) (s : Side) (i j : ℕ) (p o : Peer) (links : List Link) (frames : List Frame) (is_cut : Bool) → View start s i j p o (links ++ link_with (other s) frames false ∷ [])
    → View start s i j p o (links ++ link_with (other s) frames is_cut ∷ [])
made_with start s i j p o links frames true v = view_closed start s i j p o links frames v
made_with start s i j p o links frames false v = v

pub view_made : InEveryView (λ start s i j p o links. (frames : List Frame) (is_cut : Bool)
    → AllHonest start (messages p.endpoint) p.endpoint.received frames
    → View start s i j p o (links ++ link_with (other s) frames is_cut ∷ []))
view_made start s i j p o links v frames is_cut all = made_with start s i j p o links frames is_cut (view_open start s i j p o links frames v all)

-- ---- of what was written only a front is there

text_of : (to : Side) (text : List ℕ) (l : Link) → (direction_to to (with_text to text l)).written ≡ text
text_of A text l = refl
text_of B text l = refl

text_read : (to : Side) (text : List ℕ) (l : Link) → (direction_to to (with_text to text l)).read ≡ (direction_to to l).read
text_read A text l = refl
text_read B text l = refl

text_other : (s : Side) (text : List ℕ) (l : Link) → direction_to s (with_text (other s) text l) ≡ direction_to s l
text_other A text l = refl
text_other B text l = refl

text_cut : (to : Side) (text : List ℕ) (l : Link) → (with_text to text l).is_cut ≡ l.is_cut
text_cut A text l = refl
text_cut B text l = refl

-- for its writer, which has left the link
outgoing_front : {to : Side} {base : ℕ} {said : List SaidMessage} {received i : ℕ} {links : List Link} → HasWritten to base said received i false [] links
    → (l l' : Link) (text more : List ℕ) → at_number links i ≡ Some l → (direction_to to l).written ≡ text ++ more → (direction_to to l').written ≡ text
    → HasWritten to base said received i false [] (put_number links i l')
outgoing_front {to} {base} {said} {received} {i} {links} h l l' text more at was now =
    let Front : List ℕ → Type 0 = λ t. IsFront base (map body_of said) received t in
    let front : Front (direction_to to l').written = subst Front (sym now) (front_front base (map body_of said) received text more (subst Front was (h.texts i l at))) in
    record {
      count = h.count;
      ids = h.ids;
      stored = h.stored;
      there = rw (length-put_number links i l') h.there;
      texts = λ m x is. ⊎_elim (λ p. subst (λ (y : Link). Front (direction_to to y).written) p.1 front) (λ p. h.texts m x p.1) (put_cases links i m l' x is);
      front = λ x is _. ⊎_elim (λ p. subst (λ (y : Link). Front ((direction_to to y).written ++ [])) p.1 (subst Front (sym (append-nil (direction_to to l').written)) front)) (λ p. absurd (p.0 refl)) (put_cases links i i l' x is);
      whole = λ x is _ up. absurd (false≢true up);
      fresh = λ m x is later. ⊎_elim (λ p. let e : m ≡ i = p.0 in absurd (omega arith)) (λ p. h.fresh m x p.1 later) (put_cases links i m l' x is);
    }

-- for its reader
incoming_front : {to : Side} {j : ℕ} {linked : Bool} {unread : List ℕ} {applied : List Frame} {links : List Link} → HasRead to j linked unread applied links
    → (n : ℕ) (l l' : Link) (text more : List ℕ) → at_number links n ≡ Some l → (direction_to to l).written ≡ text ++ more → (direction_to to l').written ≡ text
    → (direction_to to l').read ≡ (direction_to to l).read → (direction_to to l).read ≤ length text
    → HasRead to j linked unread applied (put_number links n l')
incoming_front {to} {j} {linked} {unread} {applied} {links} h n l l' text more at was now read fits = record {
  frames = h.frames;
  inside = λ m x is. ⊎_elim (λ p. subst (λ (y : Link). (direction_to to y).read ≤ length (direction_to to y).written) p.1 (rw (read, now) fits)) (λ p. h.inside m x p.1) (put_cases links n m l' x is);
  fresh = λ m x is later. ⊎_elim (λ p. subst (λ (y : Link). (direction_to to y).read ≡ 0) p.1 (read ∙ h.fresh n l at (subst (λ (i : ℕ). j < i) p.0 later))) (λ p. h.fresh m x p.1 later) (put_cases links n m l' x is);
  there = λ up. ⊎_elim
      (λ e. (l', subst (λ (i : ℕ). at_number (put_number links n l') i ≡ Some l') (sym e) (put_same links n l l' at)))
      (λ e. let t = h.there up in (t.0, put_other links n j l' t.0 e t.1))
      (cases_eq j n);
  carry = λ x is up. ⊎_elim
      (λ p. subst (λ (y : Link). take (direction_to to y).read (direction_to to y).written ≡ joined applied ++ unread) p.1
      (ap (λ (i : ℕ). take i (direction_to to l').written) read ∙ ap (λ (t : List ℕ). take (direction_to to l).read t) now
      ∙ sym (take-append-le (direction_to to l).read text more fits) ∙ ap (λ (t : List ℕ). take (direction_to to l).read t) (sym was)
      ∙ h.carry l (subst (λ (i : ℕ). at_number links i ≡ Some l) (sym p.0) at) up))
      (λ p. h.carry x p.1 up) (put_cases links n j l' x is);
}

pub view_shortened : InEveryView (λ start s i j p o links. (l : Link) (text more : List ℕ) → at_number links i ≡ Some l
    → is_linked p.endpoint.phase ≡ false → p.endpoint.unwritten ≡ []
    → (direction_to (other s) l).written ≡ text ++ more → (direction_to (other s) l).read ≤ length text
    → View start s i j p o (put_number links i (with_text (other s) text l)))
view_shortened start s i j p o links v l text more at lost none was fits =
    let e : Endpoint = p.endpoint in
    let l' : Link = with_text (other s) text l in
    let links' : List Link = put_number links i l' in
    let aside : direction_to s l' ≡ direction_to s l = text_other s text l in
    let before : HasWritten (other s) e.base e.said e.received i false [] links =
    subst (λ (t : List ℕ). HasWritten (other s) e.base e.said e.received i false t links) none
    (subst (λ (b : Bool). HasWritten (other s) e.base e.said e.received i b e.unwritten links) lost v.mine) in
    let after : HasWritten (other s) e.base e.said e.received i false [] links' = outgoing_front before l l' text more at was (text_of (other s) text l) in
    record {
      base = v.base;
      their_base = v.their_base;
      mine = subst (λ (b : Bool). HasWritten (other s) e.base e.said e.received i b e.unwritten links') (sym lost)
          (subst (λ (t : List ℕ). HasWritten (other s) e.base e.said e.received i false t links') (sym none) after);
      reads = incoming_elsewhere v.reads i l l' [] at (ap (λ (w : Direction). w.read) aside) (ap (λ (w : Direction). w.written) aside ∙ sym (append-nil (direction_to s l).written));
      theirs = outgoing_elsewhere v.theirs i l l' at (ap (λ (w : Direction). w.written) aside) (λ kept. sym (text_cut (other s) text l) ∙ kept);
      their_reads = incoming_front v.their_reads i l l' text more at was (text_of (other s) text l) (text_read (other s) text l) fits;
      out = v.out;
      back = v.back;
      away = v.away;
      their_away = v.their_away;
    }

-- ---- the moment at which a new end was made

view_new_at : (start : ℕ) (s : Side) (i j : ℕ) (p : Peer) (links : List Link) (base now later : ℕ) (keeps : Bool) → View start s i j p (new_peer base now keeps) links → View start s i j p (new_peer base later keeps) links
view_new_at start s i j p links base now later keeps v = record {
  base = v.base;
  their_base = v.their_base;
  mine = v.mine;
  reads = v.reads;
  theirs = v.theirs;
  their_reads = v.their_reads;
  out = v.out;
  back = v.back;
  away = v.away;
  their_away = record { unread = λ is. refl; unwritten = λ is. refl };
}

pub view_anew : InEveryView (λ start s i j p o links. (base now later : ℕ) (keeps : Bool) → o ≡ new_peer base now keeps
    → View start s i j p (new_peer base later keeps) links)
view_anew start s i j p o links v base now later keeps is =
    view_new_at start s i j p links base now later keeps (subst (λ (x : Peer). View start s i j p x links) is v)
