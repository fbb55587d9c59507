-- A link of a view on which only the first of what its writer wrote is there: the writer has left the link, or nothing is missing.
use Rattle.std.proofs.Common.{◌≡◌, inl, inr, ℕ, ◌<◌, ◌≤◌, Bool, false, Some, List, [], ◌++◌, length, take, refl, ap, sym, ◌∙◌, subst, append-nil, ⊎_elim}
use Rattle.std.specs.Prelude.{◌⊎◌}
use Rattle.std.proofs.lemmas.Bool.{cases_eq}
use Rattle.std.proofs.lemmas.List.{set-set}
use Rattle.ra_base.specs.declared.event.Side.TheVariants.{A, B}
use Rattle.ra_model.specs.declared.frame.Frame.{Frame}
use Rattle.ra_model.specs.Frames.{joined}
use Rattle.ra_model.specs.Endpoints.{is_linked}
use Rattle.ra_model.specs.Links.{Link, at_number, put_number}
use Rattle.ra_model.specs.Views.{View, HasRead}
use Rattle.ra_model.specs.Worlds.{Peer}
use Rattle.ra_model.proofs.Incoming.{incoming_elsewhere}
use Rattle.ra_model.proofs.Numbers.{put_cases, put_same, put_other}
use Rattle.ra_model.proofs.Outgoing.{outgoing_elsewhere}
use Rattle.ra_views.proofs.OtherLinks.{view_shortened}

-- the link with this text to A, of which so many bytes were read
abbrev pub with_front : List ℕ → ℕ → Link → Link
with_front text read l = record { to_a = record { written = text; read = read }; to_b = l.to_b; is_cut = l.is_cut }

put_again : {X : Type 0} → (xs : List X) (n : ℕ) (x y : X) → put_number (put_number xs n x) n y ≡ put_number xs n y
put_again xs ℕ.zero x y = refl
put_again xs (ℕ.suc n) x y = set-set xs n x y

-- ---- on a link that its reader has left, it may have read less

incoming_again : {j : ℕ} {linked : Bool} {unread : List ℕ} {applied : List Frame} {links : List Link} → HasRead A j linked unread applied links
    → (n : ℕ) (l : Link) (read : ℕ) → at_number links n ≡ Some l → read ≤ length l.to_a.written → (n ≡ j → read ≡ l.to_a.read) → (l.to_a.read ≡ 0 → read ≡ 0)
    → HasRead A j linked unread applied (put_number links n (with_front l.to_a.written read l))
incoming_again {j} {linked} {unread} {applied} {links} h n l read at fits same none =
    let l' : Link = with_front l.to_a.written read l in
    record {
      frames = h.frames;
      inside = λ m x is. ⊎_elim (λ p. subst (λ (y : Link). y.to_a.read ≤ length y.to_a.written) p.1 fits) (λ p. h.inside m x p.1) (put_cases links n m l' x is);
      fresh = λ m x is later. ⊎_elim (λ p. subst (λ (y : Link). y.to_a.read ≡ 0) p.1 (none (h.fresh n l at (subst (λ (i : ℕ). j < i) p.0 later)))) (λ p. h.fresh m x p.1 later)
          (put_cases links n m l' x is);
      there = λ up. ⊎_elim
          (λ e. (l', subst (λ (i : ℕ). at_number (put_number links n l') i ≡ Some l') (sym e) (put_same links n l l' at)))
          (λ e. let t = h.there up in (t.0, put_other links n j l' t.0 e t.1))
          (cases_eq j n);
      carry = λ x is up. ⊎_elim
          (λ p. subst (λ (y : Link). take y.to_a.read y.to_a.written ≡ joined applied ++ unread) p.1
          (ap (λ (i : ℕ). take i l.to_a.written) (same (sym p.0)) ∙ h.carry l (subst (λ (i : ℕ). at_number links i ≡ Some l) (sym p.0) at) up))
          (λ p. h.carry x p.1 up) (put_cases links n j l' x is);
    }

view_again : (i j : ℕ) (p o : Peer) (links : List Link) (n : ℕ) (l : Link) (read : ℕ) → View 0 B i j p o links → at_number links n ≡ Some l → read ≤ length l.to_a.written
    → (n ≡ j → read ≡ l.to_a.read) → (l.to_a.read ≡ 0 → read ≡ 0) → View 0 B i j p o (put_number links n (with_front l.to_a.written read l))
view_again i j p o links n l read v at fits same none =
    let l' : Link = with_front l.to_a.written read l in
    record {
      base = v.base;
      their_base = v.their_base;
      mine = outgoing_elsewhere v.mine n l l' at refl (λ kept. kept);
      reads = incoming_elsewhere v.reads n l l' [] at refl (sym (append-nil l.to_b.written));
      theirs = outgoing_elsewhere v.theirs n l l' at refl (λ kept. kept);
      their_reads = incoming_again v.their_reads n l read at fits same none;
      out = v.out;
      back = v.back;
      away = v.away;
      their_away = v.their_away;
    }

-- ---- only a front is there

-- it is the writer's present link, which it has left with nothing unwritten
pub record HasLeft (i n : ℕ) (p : Peer) : Type 0 where
  pub here : n ≡ i
  pub off : is_linked p.endpoint.phase ≡ false
  pub none : p.endpoint.unwritten ≡ []

pub view_front : (i j : ℕ) (p o : Peer) (links : List Link) (n : ℕ) (l : Link) (text more : List ℕ) (read : ℕ) → View 0 B i j p o links → at_number links n ≡ Some l
    → l.to_a.written ≡ text ++ more → read ≤ length text → read ≤ length l.to_a.written → (n ≡ j → read ≡ l.to_a.read) → (l.to_a.read ≡ 0 → read ≡ 0)
    → (l.to_a.written ≡ text) ⊎ HasLeft i n p → View 0 B i j p o (put_number links n (with_front text read l))
view_front i j p o links n l text more read v at was fits within same none may = by may
  where
    l' : Link
    l' = with_front l.to_a.written read l

    again : View 0 B i j p o (put_number links n l')
    again = view_again i j p o links n l read v at within same none

    by : (l.to_a.written ≡ text) ⊎ HasLeft i n p → View 0 B i j p o (put_number links n (with_front text read l))
    by (inl all) = subst (λ (t : List ℕ). View 0 B i j p o (put_number links n (with_front t read l))) all again
    by (inr left) =
        subst (λ (ls : List Link). View 0 B i j p o ls) (put_again links n l' (with_front text read l))
        (subst (λ (m : ℕ). View 0 B i j p o (put_number (put_number links n l') m (with_front text read l))) (sym left.here)
        (view_shortened 0 B i j p o (put_number links n l') again l' text more
        (subst (λ (m : ℕ). at_number (put_number links n l') m ≡ Some l') left.here (put_same links n l l' at)) left.off left.none was fits))
