-- A seat that was given more is there.
use Rattle.std.proofs.Common.{◌≡◌, ◌&&◌, ◌++◌, true, ℕ, ◌<◌, eqb, refl, ap, ◌∙◌, arith, List, length, take, drop}
use Rattle.std.proofs.Math.Seq.{take-append_seam}
use borrow.Author.Tests.{eq-eqb}
use Rattle.ra_base.specs.declared.key.Seat.{Seat}
use Rattle.ra_registry.proofs.SameKeys.{same_key_itself}
use Rattle.ra_locked.specs.HandleSeats.{held_of, More}
use Rattle.ra_locked.specs.SeatLists.{same_seat, one_if}
use Rattle.ra_locked.specs.declared.held.HeldSeat.{HeldSeat}

pub same_itself : (s : Seat) → same_seat s s ≡ true
same_itself s = ap (λ b. b && eqb s.epoch s.epoch) (same_key_itself s.key) ∙ eq-eqb s.epoch s.epoch refl

pub seated : {X : Type 0} (s : Seat) (before after : List (HeldSeat X)) → More s before after → 0 < held_of s after
seated s before after more = let e = ap one_if (same_itself s) in omega (arith, more s, e)

-- What counts of a list that was written whole into a vector.
pub written : {X : Type 0} (count : List X → ℕ) (xs ys : List X) (n : ℕ) → n ≡ length xs → count xs ≡ count ys
    → count (take n (xs ++ drop (length xs) ys)) ≡ count ys
written count xs ys n e same =
    ap (λ k. count (take k (xs ++ drop (length xs) ys))) e ∙ (ap count (take-append_seam xs (drop (length xs) ys)) ∙ same)
