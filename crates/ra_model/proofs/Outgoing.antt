-- What an endpoint has said and written.
use Rattle.std.proofs.lemmas.Bool.{false≢true}
use Rattle.std.proofs.lemmas.List.{append-nil, take-append-drop, length-append}
use Rattle.ra_model.proofs.Numbers.{at_number_push, at_number_old, put_cases, length-put_number}
use Rattle.ra_base.specs.declared.event.Side.TheVariants.{A, B}
use Rattle.std.proofs.Common.{◌≡◌, ℕ, ◌+◌, ◌<◌, ◌≤◌, Bool, true, false, Some, List, [], ◌∷◌, ◌++◌, length, map, take, drop, refl, ap, sym, ◌∙◌, subst, arith, append_assoc, ⊎_elim}
use Rattle.std.specs.List.{AllByRecursion}
use Rattle.ra_model.specs.Frames.{last_id, joined}
use Rattle.ra_model.specs.declared.frame.Frame.{Frame}
use Rattle.ra_model.specs.Endpoints.{SaidMessage}
use Rattle.ra_model.specs.Links.{Link, new_link, direction_to, at_number, put_number}
use Rattle.ra_base.specs.declared.event.Side.{Side}
use Rattle.ra_model.specs.Pairs.{body_of, AllHonest, IsJoining, IsFront}
use Rattle.ra_model.proofs.Honesty.{Grown, joining_grown, front_grown, joining_append, front_from_joining, front_front, joining_nil}
use Rattle.ra_model.specs.Views.{HasWritten, IsStored}

new_is_empty : (to : Side) → (direction_to to new_link).written ≡ []
new_is_empty A = refl
new_is_empty B = refl

module _ {to : Side} {base : ℕ} {said : List SaidMessage} {received epoch : ℕ} {linked : Bool} {unwritten : List ℕ} {links : List Link} (h : HasWritten to base said received epoch linked unwritten links) where
  pub outgoing_grown : (said' : List SaidMessage) (received' : ℕ) → Grown (map body_of said) (map body_of said') received received' → base + length said' ≤ last_id → received' ≤ last_id → AllByRecursion (IsStored received') said'
      → HasWritten to base said' received' epoch linked unwritten links
  outgoing_grown said' received' g count some stored = record {
    count = count;
    ids = some;
    there = h.there;
    stored = stored;
    texts = λ n l at. front_grown base g _ (h.texts n l at);
    front = λ l at kept. front_grown base g _ (h.front l at kept);
    whole = λ l at kept up. joining_grown base g _ (h.whole l at kept up);
    fresh = λ n l at later. joining_grown base g _ (h.fresh n l at later);
  }

  -- honest frames are written
  pub outgoing_write : (frames : List Frame) → linked ≡ true → AllHonest base (map body_of said) received frames → HasWritten to base said received epoch linked (unwritten ++ joined frames) links
  outgoing_write frames up all =
      let more : (l : Link) → at_number links epoch ≡ Some l → l.is_cut ≡ false → IsJoining base (map body_of said) received ((direction_to to l).written ++ (unwritten ++ joined frames)) =
      λ l at kept. subst (λ (t : List ℕ). IsJoining base (map body_of said) received t) (append_assoc (direction_to to l).written unwritten (joined frames)) (joining_append base (map body_of said) received _ frames (h.whole l at kept up) all) in
      record {
        count = h.count;
        ids = h.ids;
        there = h.there;
        stored = h.stored;
        texts = h.texts;
        front = λ l at kept. front_from_joining base (map body_of said) received _ (more l at kept);
        whole = λ l at kept _. more l at kept;
        fresh = h.fresh;
      }

  -- the link is lost, or the peer ended: what is unwritten is discarded
  pub outgoing_discard : HasWritten to base said received epoch false [] links
  outgoing_discard = record {
    count = h.count;
    ids = h.ids;
    there = h.there;
    stored = h.stored;
    texts = h.texts;
    front = λ l at kept. subst (λ (t : List ℕ). IsFront base (map body_of said) received t) (sym (append-nil (direction_to to l).written)) (h.texts epoch l at);
    whole = λ l at kept up. absurd (false≢true up);
    fresh = h.fresh;
  }

  -- the endpoint leaves, and what is unwritten may still be written
  pub outgoing_left : HasWritten to base said received epoch false unwritten links
  outgoing_left = record {
    count = h.count;
    ids = h.ids;
    there = h.there;
    stored = h.stored;
    texts = h.texts;
    front = h.front;
    whole = λ l at kept up. absurd (false≢true up);
    fresh = h.fresh;
  }

  -- a later link begins
  pub outgoing_begun : (epoch' : ℕ) → epoch < epoch' → epoch' ≤ length links → HasWritten to base said received epoch' true [] links
  outgoing_begun epoch' later there =
      let nothing : (l : Link) → at_number links epoch' ≡ Some l → IsJoining base (map body_of said) received ((direction_to to l).written ++ []) =
      λ l at. subst (λ (t : List ℕ). IsJoining base (map body_of said) received t) (sym (append-nil (direction_to to l).written)) (h.fresh epoch' l at later) in
      record {
        count = h.count;
        ids = h.ids;
        there = there;
        stored = h.stored;
        texts = h.texts;
        front = λ l at kept. front_from_joining base (map body_of said) received _ (nothing l at);
        whole = λ l at kept _. nothing l at;
        fresh = λ n l at after. h.fresh n l at (omega arith);
      }

  -- another link is made
  pub outgoing_linked : HasWritten to base said received epoch linked unwritten (links ++ new_link ∷ [])
  outgoing_linked = record {
    count = h.count;
    ids = h.ids;
    stored = h.stored;
    there = omega (arith, length-append links (new_link ∷ []), h.there);
    texts = λ n l at. ⊎_elim (λ old. h.texts n l old)
        (λ is. subst (λ (x : Link). IsFront base (map body_of said) received (direction_to to x).written) is (subst (λ (t : List ℕ). IsFront base (map body_of said) received t) (sym (new_is_empty to)) (front_from_joining base (map body_of said) received [] (joining_nil base (map body_of said) received))))
        (at_number_push links new_link n l at);
    front = λ l at kept. h.front l (at_number_old links (new_link ∷ []) epoch l h.there at) kept;
    whole = λ l at kept up. h.whole l (at_number_old links (new_link ∷ []) epoch l h.there at) kept up;
    fresh = λ n l at later. ⊎_elim (λ old. h.fresh n l old later) (λ is. subst (λ (x : Link). IsJoining base (map body_of said) received (direction_to to x).written) is (subst (λ (t : List ℕ). IsJoining base (map body_of said) received t) (sym (new_is_empty to)) (joining_nil base (map body_of said) received))) (at_number_push links new_link n l at);
  }

  -- a link is read or cut, or written on in the other direction
  pub outgoing_elsewhere : (n : ℕ) (l l' : Link) → at_number links n ≡ Some l → (direction_to to l').written ≡ (direction_to to l).written → (l'.is_cut ≡ false → l.is_cut ≡ false)
      → HasWritten to base said received epoch linked unwritten (put_number links n l')
  outgoing_elsewhere n l l' at same kept =
      let Front : List ℕ → Type 0 = λ t. IsFront base (map body_of said) received t in
      let Joining : List ℕ → Type 0 = λ t. IsJoining base (map body_of said) received t in
      record {
        count = h.count;
        ids = h.ids;
        stored = h.stored;
        there = rw (length-put_number links n l') h.there;
        texts = λ m x is. ⊎_elim (λ p. subst (λ (y : Link). Front (direction_to to y).written) p.1 (subst Front (sym same) (h.texts n l at))) (λ p. h.texts m x p.1) (put_cases links n m l' x is);
        front = λ x is k. ⊎_elim
            (λ p. subst (λ (y : Link). Front ((direction_to to y).written ++ unwritten)) p.1 (subst (λ (t : List ℕ). Front (t ++ unwritten)) (sym same) (h.front l (subst (λ (i : ℕ). at_number links i ≡ Some l) (sym p.0) at) (kept (subst (λ (y : Link). y.is_cut ≡ false) (sym p.1) k)))))
            (λ p. h.front x p.1 k) (put_cases links n epoch l' x is);
        whole = λ x is k up. ⊎_elim
            (λ p. subst (λ (y : Link). Joining ((direction_to to y).written ++ unwritten)) p.1 (subst (λ (t : List ℕ). Joining (t ++ unwritten)) (sym same) (h.whole l (subst (λ (i : ℕ). at_number links i ≡ Some l) (sym p.0) at) (kept (subst (λ (y : Link). y.is_cut ≡ false) (sym p.1) k)) up)))
            (λ p. h.whole x p.1 k up) (put_cases links n epoch l' x is);
        fresh = λ m x is later. ⊎_elim
            (λ p. subst (λ (y : Link). Joining (direction_to to y).written) p.1 (subst Joining (sym same) (h.fresh n l at (subst (λ (i : ℕ). epoch < i) p.0 later))))
            (λ p. h.fresh m x p.1 later) (put_cases links n m l' x is);
      }

  -- bytes are written on the present link, which is not cut
  pub outgoing_wrote : (k : ℕ) (l l' : Link) → at_number links epoch ≡ Some l → l.is_cut ≡ false → (direction_to to l').written ≡ (direction_to to l).written ++ take k unwritten
      → HasWritten to base said received epoch linked (drop k unwritten) (put_number links epoch l')
  outgoing_wrote k l l' at kept longer =
      let Front : List ℕ → Type 0 = λ t. IsFront base (map body_of said) received t in
      let Joining : List ℕ → Type 0 = λ t. IsJoining base (map body_of said) received t in
      let regrouped : (direction_to to l).written ++ unwritten ≡ (direction_to to l').written ++ drop k unwritten =
      ap (λ (t : List ℕ). (direction_to to l).written ++ t) (sym (take-append-drop k unwritten)) ∙ sym (append_assoc (direction_to to l).written (take k unwritten) (drop k unwritten)) ∙ ap (λ (t : List ℕ). t ++ drop k unwritten) (sym longer) in
      let front : Front ((direction_to to l').written ++ drop k unwritten) = subst Front regrouped (h.front l at kept) in
      record {
        count = h.count;
        ids = h.ids;
        stored = h.stored;
        there = rw (length-put_number links epoch l') h.there;
        texts = λ m x is. ⊎_elim (λ p. subst (λ (y : Link). Front (direction_to to y).written) p.1 (front_front base (map body_of said) received (direction_to to l').written (drop k unwritten) front)) (λ p. h.texts m x p.1) (put_cases links epoch m l' x is);
        front = λ x is _. ⊎_elim (λ p. subst (λ (y : Link). Front ((direction_to to y).written ++ drop k unwritten)) p.1 front) (λ p. absurd (p.0 refl)) (put_cases links epoch epoch l' x is);
        whole = λ x is _ up. ⊎_elim (λ p. subst (λ (y : Link). Joining ((direction_to to y).written ++ drop k unwritten)) p.1 (subst Joining regrouped (h.whole l at kept up))) (λ p. absurd (p.0 refl)) (put_cases links epoch epoch l' x is);
        fresh = λ m x is later. ⊎_elim (λ p. let e : m ≡ epoch = p.0 in absurd (omega arith)) (λ p. h.fresh m x p.1 later) (put_cases links epoch m l' x is);
      }

  -- whole honest frames are written on a later link
  pub outgoing_ahead : (n : ℕ) (l l' : Link) (frames : List Frame) → epoch < n → at_number links n ≡ Some l → (direction_to to l').written ≡ (direction_to to l).written ++ joined frames → AllHonest base (map body_of said) received frames
      → HasWritten to base said received epoch linked unwritten (put_number links n l')
  outgoing_ahead n l l' frames later at longer all =
      let Front : List ℕ → Type 0 = λ t. IsFront base (map body_of said) received t in
      let Joining : List ℕ → Type 0 = λ t. IsJoining base (map body_of said) received t in
      let whole : Joining (direction_to to l').written = subst Joining (sym longer) (joining_append base (map body_of said) received (direction_to to l).written frames (h.fresh n l at later) all) in
      record {
        count = h.count;
        ids = h.ids;
        stored = h.stored;
        there = rw (length-put_number links n l') h.there;
        texts = λ m x is. ⊎_elim (λ p. subst (λ (y : Link). Front (direction_to to y).written) p.1 (front_from_joining base (map body_of said) received _ whole)) (λ p. h.texts m x p.1) (put_cases links n m l' x is);
        front = λ x is k. ⊎_elim (λ p. let e : epoch ≡ n = p.0 in absurd (omega arith)) (λ p. h.front x p.1 k) (put_cases links n epoch l' x is);
        whole = λ x is k up. ⊎_elim (λ p. let e : epoch ≡ n = p.0 in absurd (omega arith)) (λ p. h.whole x p.1 k up) (put_cases links n epoch l' x is);
        fresh = λ m x is after. ⊎_elim (λ p. subst (λ (y : Link). Joining (direction_to to y).written) p.1 whole) (λ p. h.fresh m x p.1 after) (put_cases links n m l' x is);
      }

  -- bytes vanish: the present link is cut, or there is none
  pub outgoing_vanish : (k : ℕ) → ((l : Link) → at_number links epoch ≡ Some l → l.is_cut ≡ false → ⊥) → HasWritten to base said received epoch linked (drop k unwritten) links
  outgoing_vanish k gone = record {
    count = h.count;
    ids = h.ids;
    stored = h.stored;
    there = h.there;
    texts = h.texts;
    fresh = h.fresh;
    front = λ l at kept. absurd (gone l at kept);
    whole = λ l at kept up. absurd (gone l at kept);
  }
