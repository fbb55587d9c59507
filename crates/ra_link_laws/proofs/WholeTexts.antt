-- What an end has written on its present link is whole frames: it stays so while the end grows, and an end whose bytes were dropped is
-- still the end of a view then.
use Rattle.std.proofs.Common.{◌≡◌, inl, inr, ℕ, ◌<◌, ◌≤◌, Bool, true, false, Some, List, [], ◌++◌, length, map, take, refl, ap, sym, ◌∙◌, subst, arith, append-nil, ⊎_elim}
use Rattle.std.specs.Prelude.{◌⊎◌}
use Rattle.std.proofs.lemmas.Bool.{cases_eq, le-leb}
use Rattle.std.proofs.lemmas.List.{take-append-le, drop_all}
use Rattle.ra_base.specs.declared.event.Side.TheVariants.{A, B}
use Rattle.ra_model.specs.declared.frame.Frame.{Frame}
use Rattle.ra_model.specs.Frames.{joined}
use Rattle.ra_model.specs.Endpoints.{Endpoint, SaidMessage, is_linked, shown}
use Rattle.ra_model.specs.Calls.{wrote}
use Rattle.ra_model.specs.Links.{Link, at_number, put_number}
use Rattle.ra_model.specs.Worlds.{Peer}
use Rattle.ra_model.specs.Pairs.{body_of, messages, IsLater, IsFront, IsJoining}
use Rattle.ra_model.specs.Views.{View, HasWritten, HasRead}
use Rattle.ra_model.proofs.Honesty.{Grown, at_number_more, joining_grown, front_front}
use Rattle.ra_model.proofs.Numbers.{put_cases, put_same, put_other, length-put_number}
use Rattle.ra_model.proofs.Outgoing.{outgoing_elsewhere}
use Rattle.ra_model.proofs.Incoming.{incoming_elsewhere}
use Rattle.ra_session.specs.SessionCalls.{emptied}
use Rattle.ra_views.specs.SessionViews.{with_text}

-- ---- an end that grows

grown : (p q : Peer) → IsLater p q → Grown (messages p.endpoint) (messages q.endpoint) p.endpoint.received q.endpoint.received
grown p q later = record {
  still = λ n body is. subst (λ (l : List (List ℕ)). at_number l n ≡ Some body) later.said.1 (at_number_more (messages p.endpoint) later.said.0 n body is);
  more = later.received;
}

pub joining_later : (p q : Peer) (text : List ℕ) → IsLater p q → IsJoining 0 (messages p.endpoint) p.endpoint.received text → IsJoining 0 (messages q.endpoint) q.endpoint.received text
joining_later p q text later joining = joining_grown 0 (grown p q later) text joining

-- ---- what goes out

-- nothing goes out, or nothing is left
pub out_or_none : (e : Endpoint) → (shown e ≡ []) ⊎ ((emptied e).unwritten ≡ [])
unfolding wrote
out_or_none e = by e.paused refl
  where
    by : (b : Bool) → e.paused ≡ b → (shown e ≡ []) ⊎ ((emptied e).unwritten ≡ [])
    by true is = inl (rw is refl)
    by false is = inr (rw (is, le-leb (length e.unwritten) (length e.unwritten) (omega arith)) (drop_all (length e.unwritten) e.unwritten (omega arith)))

-- ---- bytes that were dropped

-- only the first of what was written is there, as long as it is whole frames while the link is kept
outgoing_short : {base : ℕ} {said : List SaidMessage} {received i : ℕ} {linked : Bool} {links : List Link} → HasWritten A base said received i linked [] links
    → (l : Link) (text more : List ℕ) → at_number links i ≡ Some l → l.to_a.written ≡ text ++ more
    → (l.is_cut ≡ false → linked ≡ true → IsJoining base (map body_of said) received text)
    → HasWritten A base said received i linked [] (put_number links i (with_text A text l))
outgoing_short {base} {said} {received} {i} {linked} {links} h l text more at was whole =
    let Front : List ℕ → Type 0 = λ t. IsFront base (map body_of said) received t in
    let Whole : List ℕ → Type 0 = λ t. IsJoining base (map body_of said) received t in
    let l' : Link = with_text A text l in
    let front : Front text = front_front base (map body_of said) received text more (subst Front was (h.texts i l at)) in
    record {
      count = h.count;
      ids = h.ids;
      stored = h.stored;
      there = rw (length-put_number links i l') h.there;
      texts = λ m x is. ⊎_elim (λ p. subst (λ (y : Link). Front y.to_a.written) p.1 front) (λ p. h.texts m x p.1) (put_cases links i m l' x is);
      front = λ x is _. ⊎_elim (λ p. subst (λ (y : Link). Front (y.to_a.written ++ [])) p.1 (subst Front (sym (append-nil text)) front)) (λ p. absurd (p.0 refl)) (put_cases links i i l' x is);
      whole = λ x is kept up. ⊎_elim
          (λ p. subst (λ (y : Link). Whole (y.to_a.written ++ [])) p.1 (subst Whole (sym (append-nil text)) (whole (ap (λ (y : Link). y.is_cut) p.1 ∙ kept) up)))
          (λ p. absurd (p.0 refl)) (put_cases links i i l' x is);
      fresh = λ m x is later. ⊎_elim (λ p. let e : m ≡ i = p.0 in absurd (omega (arith, e, later))) (λ p. h.fresh m x p.1 later) (put_cases links i m l' x is);
    }

incoming_short : {j : ℕ} {linked : Bool} {unread : List ℕ} {applied : List Frame} {links : List Link} → HasRead A j linked unread applied links
    → (n : ℕ) (l : Link) (text more : List ℕ) → at_number links n ≡ Some l → l.to_a.written ≡ text ++ more → l.to_a.read ≤ length text
    → HasRead A j linked unread applied (put_number links n (with_text A text l))
incoming_short {j} {linked} {unread} {applied} {links} h n l text more at was fits =
    let l' : Link = with_text A text l in
    record {
      frames = h.frames;
      inside = λ m x is. ⊎_elim (λ p. subst (λ (y : Link). y.to_a.read ≤ length y.to_a.written) p.1 fits) (λ p. h.inside m x p.1) (put_cases links n m l' x is);
      fresh = λ m x is later. ⊎_elim (λ p. subst (λ (y : Link). y.to_a.read ≡ 0) p.1 (h.fresh n l at (subst (λ (i : ℕ). j < i) p.0 later))) (λ p. h.fresh m x p.1 later) (put_cases links n m l' x is);
      there = λ up. ⊎_elim
          (λ e. (l', subst (λ (i : ℕ). at_number (put_number links n l') i ≡ Some l') (sym e) (put_same links n l l' at)))
          (λ e. let t = h.there up in (t.0, put_other links n j l' t.0 e t.1))
          (cases_eq j n);
      carry = λ x is up. ⊎_elim
          (λ p. subst (λ (y : Link). take y.to_a.read y.to_a.written ≡ joined applied ++ unread) p.1
          (sym (take-append-le l.to_a.read text more fits) ∙ ap (λ (t : List ℕ). take l.to_a.read t) (sym was)
          ∙ h.carry l (subst (λ (i : ℕ). at_number links i ≡ Some l) (sym p.0) at) up))
          (λ p. h.carry x p.1 up) (put_cases links n j l' x is);
    }

pub view_dropped : (i j : ℕ) (p o : Peer) (links : List Link) (l : Link) (text more : List ℕ) → View 0 B i j p o links → at_number links i ≡ Some l
    → p.endpoint.unwritten ≡ [] → l.to_a.written ≡ text ++ more → l.to_a.read ≤ length text
    → (l.is_cut ≡ false → is_linked p.endpoint.phase ≡ true → IsJoining 0 (messages p.endpoint) p.endpoint.received text)
    → View 0 B i j p o (put_number links i (with_text A text l))
view_dropped i j p o links l text more v at none was fits whole =
    let e : Endpoint = p.endpoint in
    let l' : Link = with_text A text l in
    let links' : List Link = put_number links i l' in
    let before : HasWritten A e.base e.said e.received i (is_linked e.phase) [] links =
    subst (λ (t : List ℕ). HasWritten A e.base e.said e.received i (is_linked e.phase) t links) none v.mine in
    let after : HasWritten A e.base e.said e.received i (is_linked e.phase) [] links' =
    outgoing_short before l text more at was (λ kept up. subst (λ (b : ℕ). IsJoining b (messages e) e.received text) (sym v.base) (whole kept up)) in
    record {
      base = v.base;
      their_base = v.their_base;
      mine = subst (λ (t : List ℕ). HasWritten A e.base e.said e.received i (is_linked e.phase) t links') (sym none) after;
      reads = incoming_elsewhere v.reads i l l' [] at refl (sym (append-nil l.to_b.written));
      theirs = outgoing_elsewhere v.theirs i l l' at refl (λ kept. kept);
      their_reads = incoming_short v.their_reads i l text more at was fits;
      out = v.out;
      back = v.back;
      away = v.away;
      their_away = v.their_away;
    }
