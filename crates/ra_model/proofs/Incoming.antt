-- What an endpoint has read and applied of its present link.
use Rattle.std.proofs.Common.{◌≡◌, ℕ, ◌+◌, ◌<◌, ◌≤◌, Bool, true, false, Some, List, [], ◌∷◌, ◌++◌, length, map, take, drop, refl, ap, sym, ◌∙◌, subst, arith, append_assoc, ⊎_elim}
use Rattle.std.proofs.lemmas.Bool.{false≢true, cases_eq}
use Rattle.std.proofs.lemmas.List.{append-nil, take-append-drop, take-append-le, length-append}
use Rattle.std.proofs.lemmas.List.Concat.{flat_map-append}
use Rattle.std.proofs.Math.Seq.{take-add}
use Rattle.std.specs.List.{AllByRecursion}
use Rattle.ra_model.specs.Frames.{IsFrame, frame_bytes, joined}
use Rattle.ra_model.specs.FirstFrame.{first_frame, is_too_long}
use Rattle.ra_model.proofs.Cuts.{not_too_long}
use Rattle.ra_model.specs.declared.frame.Frame.{Frame}
use Rattle.ra_model.specs.Endpoints.{SaidMessage}
use Rattle.ra_model.specs.Links.{Link, new_link, direction_to, at_number, put_number}
use Rattle.ra_base.specs.declared.event.Side.{Side}
use Rattle.ra_base.specs.declared.event.Side.TheVariants.{A, B}
use Rattle.ra_model.specs.Pairs.{body_of, IsHonest, AllHonest}
use Rattle.ra_model.proofs.Framing.{first_of_joined, rest_of_joined}
use Rattle.ra_model.proofs.Honesty.{at_number_more, all_append, all_right, all_fit}
use Rattle.ra_model.proofs.Numbers.{at_number_push, at_number_old, put_cases, put_same, put_other}
use Rattle.ra_model.specs.Views.{HasRead, HasWritten}

head_honest : (base : ℕ) (said : List (List ℕ)) (received : ℕ) (f : Frame) (fs : List Frame) → AllHonest base said received (f ∷ fs) → IsHonest base said received f
head_honest base said received f fs h = h.0

new_is_unread : (to : Side) → (direction_to to new_link).read ≡ 0
new_is_unread A = refl
new_is_unread B = refl

module _ {to : Side} {epoch : ℕ} {linked : Bool} {unread : List ℕ} {applied : List Frame} {links : List Link} (h : HasRead to epoch linked unread applied links) where
  -- the link is gone
  pub incoming_lost : (unread' : List ℕ) (applied' : List Frame) → AllByRecursion IsFrame applied' → HasRead to epoch false unread' applied' links
  incoming_lost unread' applied' frames = record {
    inside = h.inside;
    fresh = h.fresh;
    frames = frames;
    there = λ up. absurd (false≢true up);
    carry = λ l at up. absurd (false≢true up);
  }

  -- a frame is applied
  pub incoming_took : (f : Frame) (rest : List ℕ) → IsFrame f → unread ≡ frame_bytes f ++ rest → HasRead to epoch linked rest (applied ++ f ∷ []) links
  incoming_took f rest fits is = record {
    inside = h.inside;
    fresh = h.fresh;
    there = h.there;
    frames = all_append IsFrame applied (f ∷ []) h.frames (fits, tt);
    carry = λ l at up. h.carry l at up
        ∙ ap (λ (t : List ℕ). joined applied ++ t) (is ∙ ap (λ (t : List ℕ). t ++ rest) (sym (append-nil (frame_bytes f))))
        ∙ sym (append_assoc (joined applied) (joined (f ∷ [])) rest)
        ∙ ap (λ (t : List ℕ). t ++ rest) (sym (flat_map-append frame_bytes applied (f ∷ [])));
  }

  -- more of the present link is read
  pub incoming_fed : (k : ℕ) (l l' : Link) → at_number links epoch ≡ Some l → (direction_to to l').read ≡ (direction_to to l).read + k → (direction_to to l').written ≡ (direction_to to l).written → (direction_to to l).read + k ≤ length (direction_to to l).written
      → HasRead to epoch linked (unread ++ take k (drop (direction_to to l).read (direction_to to l).written)) applied (put_number links epoch l')
  incoming_fed k l l' at read same fits = record {
    frames = h.frames;
    inside = λ m x is. ⊎_elim (λ p. subst (λ (y : Link). (direction_to to y).read ≤ length (direction_to to y).written) p.1 (rw (read, same) fits)) (λ p. h.inside m x p.1) (put_cases links epoch m l' x is);
    fresh = λ m x is later. ⊎_elim (λ p. let e : m ≡ epoch = p.0 in absurd (omega arith)) (λ p. h.fresh m x p.1 later) (put_cases links epoch m l' x is);
    there = λ up. (l', put_same links epoch l l' at);
    carry = λ x is up. ⊎_elim
        (λ p. subst (λ (y : Link). take (direction_to to y).read (direction_to to y).written ≡ joined applied ++ (unread ++ take k (drop (direction_to to l).read (direction_to to l).written))) p.1
        (ap (λ (n : ℕ). take n (direction_to to l').written) read ∙ ap (λ (t : List ℕ). take ((direction_to to l).read + k) t) same
        ∙ take-add (direction_to to l).read k (direction_to to l).written
        ∙ ap (λ (t : List ℕ). t ++ take k (drop (direction_to to l).read (direction_to to l).written)) (h.carry l at up)
        ∙ append_assoc (joined applied) unread (take k (drop (direction_to to l).read (direction_to to l).written))))
        (λ p. absurd (p.0 refl)) (put_cases links epoch epoch l' x is);
  }

  -- a later link begins, with what is read of it at once
  pub incoming_begun : (epoch' k : ℕ) (l l' : Link) → epoch < epoch' → at_number links epoch' ≡ Some l → (direction_to to l').read ≡ (direction_to to l).read + k → (direction_to to l').written ≡ (direction_to to l).written → (direction_to to l).read + k ≤ length (direction_to to l).written
      → HasRead to epoch' true (take k (drop (direction_to to l).read (direction_to to l).written)) [] (put_number links epoch' l')
  incoming_begun epoch' k l l' later at read same fits =
      let nothing : (direction_to to l).read ≡ 0 = h.fresh epoch' l at later in
      record {
        frames = tt;
        inside = λ m x is. ⊎_elim (λ p. subst (λ (y : Link). (direction_to to y).read ≤ length (direction_to to y).written) p.1 (rw (read, same) fits)) (λ p. h.inside m x p.1) (put_cases links epoch' m l' x is);
        fresh = λ m x is after. ⊎_elim (λ p. let e : m ≡ epoch' = p.0 in absurd (omega arith)) (λ p. h.fresh m x p.1 (omega arith)) (put_cases links epoch' m l' x is);
        there = λ _. (l', put_same links epoch' l l' at);
        carry = λ x is _. ⊎_elim
            (λ p. subst (λ (y : Link). take (direction_to to y).read (direction_to to y).written ≡ take k (drop (direction_to to l).read (direction_to to l).written)) p.1
            (ap (λ (n : ℕ). take n (direction_to to l').written) read ∙ ap (λ (t : List ℕ). take ((direction_to to l).read + k) t) same
            ∙ take-add (direction_to to l).read k (direction_to to l).written
            ∙ ap (λ (n : ℕ). take n (direction_to to l).written ++ take k (drop (direction_to to l).read (direction_to to l).written)) nothing))
            (λ p. absurd (p.0 refl)) (put_cases links epoch' epoch' l' x is);
      }

  -- bytes of an earlier link, or of the last one once it is lost, are read and dropped
  pub incoming_skipped : (n k : ℕ) (l l' : Link) → n ≤ epoch → (n ≡ epoch → linked ≡ false) → at_number links n ≡ Some l → (direction_to to l').read ≡ (direction_to to l).read + k → (direction_to to l').written ≡ (direction_to to l).written → (direction_to to l).read + k ≤ length (direction_to to l).written
      → HasRead to epoch linked unread applied (put_number links n l')
  incoming_skipped n k l l' low lost at read same fits = record {
    frames = h.frames;
    inside = λ m x is. ⊎_elim (λ p. subst (λ (y : Link). (direction_to to y).read ≤ length (direction_to to y).written) p.1 (rw (read, same) fits)) (λ p. h.inside m x p.1) (put_cases links n m l' x is);
    fresh = λ m x is later. ⊎_elim (λ p. let e : m ≡ n = p.0 in absurd (omega arith)) (λ p. h.fresh m x p.1 later) (put_cases links n m l' x is);
    there = λ up.
        let t = h.there up in
        let other : epoch ≡ n → ⊥ = λ e. false≢true (sym (lost (sym e)) ∙ up) in
        (t.0, put_other links n epoch l' t.0 other t.1);
    carry = λ x is up. ⊎_elim (λ p. absurd (false≢true (sym (lost (sym p.0)) ∙ up))) (λ p. h.carry x p.1 up) (put_cases links n epoch l' x is);
  }

  -- another link is made
  pub incoming_linked : epoch ≤ length links → HasRead to epoch linked unread applied (links ++ new_link ∷ [])
  incoming_linked known = record {
    frames = h.frames;
    inside = λ m x is. ⊎_elim (λ old. h.inside m x old) (λ p. subst (λ (y : Link). (direction_to to y).read ≤ length (direction_to to y).written) p (rw (new_is_unread to) (omega arith))) (at_number_push links new_link m x is);
    fresh = λ m x is later. ⊎_elim (λ old. h.fresh m x old later) (λ p. subst (λ (y : Link). (direction_to to y).read ≡ 0) p (new_is_unread to)) (at_number_push links new_link m x is);
    there = λ up. let t = h.there up in (t.0, at_number_more links (new_link ∷ []) epoch t.0 t.1);
    carry = λ x is up. h.carry x (at_number_old links (new_link ∷ []) epoch x known is) up;
  }

  -- a link is written on, cut, or read in the other direction
  pub incoming_elsewhere : (n : ℕ) (l l' : Link) (more : List ℕ) → at_number links n ≡ Some l → (direction_to to l').read ≡ (direction_to to l).read → (direction_to to l').written ≡ (direction_to to l).written ++ more
      → HasRead to epoch linked unread applied (put_number links n l')
  incoming_elsewhere n l l' more at read longer =
      let fits : (direction_to to l).read ≤ length (direction_to to l).written = h.inside n l at in
      record {
        frames = h.frames;
        inside = λ m x is. ⊎_elim (λ p. subst (λ (y : Link). (direction_to to y).read ≤ length (direction_to to y).written) p.1 (rw (read, longer) (omega (arith, length-append (direction_to to l).written more)))) (λ p. h.inside m x p.1) (put_cases links n m l' x is);
        fresh = λ m x is later. ⊎_elim (λ p. subst (λ (y : Link). (direction_to to y).read ≡ 0) p.1 (read ∙ h.fresh n l at (subst (λ (i : ℕ). epoch < i) p.0 later))) (λ p. h.fresh m x p.1 later) (put_cases links n m l' x is);
        there = λ up. ⊎_elim
            (λ e. (l', subst (λ (i : ℕ). at_number (put_number links n l') i ≡ Some l') (sym e) (put_same links n l l' at)))
            (λ e. let t = h.there up in (t.0, put_other links n epoch l' t.0 e t.1))
            (cases_eq epoch n);
        carry = λ x is up. ⊎_elim
            (λ p. subst (λ (y : Link). take (direction_to to y).read (direction_to to y).written ≡ joined applied ++ unread) p.1
            (ap (λ (i : ℕ). take i (direction_to to l').written) read ∙ ap (λ (t : List ℕ). take (direction_to to l).read t) longer ∙ take-append-le (direction_to to l).read (direction_to to l).written more fits
            ∙ h.carry l (subst (λ (i : ℕ). at_number links i ≡ Some l) (sym p.0) at) up))
            (λ p. h.carry x p.1 up) (put_cases links n epoch l' x is);
      }

  -- what is unread is the front of honest frames, since what its peer wrote is
  pub unread_honest : {base : ℕ} {said : List SaidMessage} {received epoch' : ℕ} {linked' : Bool} {unwritten : List ℕ} → HasWritten to base said received epoch' linked' unwritten links → linked ≡ true
      → (behind : List ℕ) × (frames : List Frame) × AllHonest base (map body_of said) received frames × (unread ++ behind ≡ joined frames)
  unread_honest {base} {said} {received} outgoing up =
      let at = h.there up in
      let l : Link = at.0 in
      let front = outgoing.texts epoch l at.1 in
      let frames : List Frame = front.1.0 in
      let behind : List ℕ = drop (direction_to to l).read (direction_to to l).written ++ front.0 in
      let whole : joined applied ++ (unread ++ behind) ≡ joined frames =
      sym (append_assoc (joined applied) unread behind)
      ∙ ap (λ (t : List ℕ). t ++ behind) (sym (h.carry l at.1 up))
      ∙ sym (append_assoc (take (direction_to to l).read (direction_to to l).written) (drop (direction_to to l).read (direction_to to l).written) front.0)
      ∙ ap (λ (t : List ℕ). t ++ front.0) (take-append-drop (direction_to to l).read (direction_to to l).written)
      ∙ front.1.2 in
      let others = rest_of_joined applied frames h.frames (all_fit base (map body_of said) received frames front.1.1) (unread ++ behind) whole in
      (behind, others.0, all_right (IsHonest base (map body_of said) received) applied others.0 (subst (λ (fs : List Frame). AllHonest base (map body_of said) received fs) others.1 front.1.1), others.2)

  -- so the next frame is honest
  pub next_is_honest : {base : ℕ} {said : List SaidMessage} {received epoch' : ℕ} {linked' : Bool} {unwritten : List ℕ} → HasWritten to base said received epoch' linked' unwritten links → linked ≡ true
      → (f : Frame) (rest : List ℕ) → first_frame unread ≡ Some (f, rest) → IsHonest base (map body_of said) received f × (unread ≡ frame_bytes f ++ rest)
  next_is_honest {base} {said} {received} outgoing up f rest is =
      let unread_is = unread_honest outgoing up in
      let first = first_of_joined unread_is.1 (all_fit base (map body_of said) received unread_is.1 unread_is.2) unread unread_is.0 f rest is unread_is.3 in
      (head_honest base (map body_of said) received f first.0 (subst (λ (fs : List Frame). AllHonest base (map body_of said) received fs) first.1 unread_is.2), first.3)

  -- and no header states too long a body
  pub unread_within : {base : ℕ} {said : List SaidMessage} {received epoch' : ℕ} {linked' : Bool} {unwritten : List ℕ} → HasWritten to base said received epoch' linked' unwritten links → linked ≡ true → is_too_long unread ≡ false
  unread_within {base} {said} {received} outgoing up =
      let unread_is = unread_honest outgoing up in
      not_too_long unread_is.1 (all_fit base (map body_of said) received unread_is.1 unread_is.2) unread unread_is.0 unread_is.3
