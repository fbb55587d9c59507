-- The end of a hub that threads share.
use Rattle.std.proofs.Common.{◌≡◌, ◌<◌, ℕ, List, [], ◌∷◌, map, length, slice_get, Some, sym, ap, subst, arith, zero, suc, get_or}
use Rattle.ra_locked.specs.EndFaults as registry
use Rattle.ra_locked.specs.declared.fault.EndFault.{EndFault}
use Rattle.ra_locked.specs.declared.fault.EndFault.TheVariants.{NotAll, Mismatch, Twice, KeepUnlike, NoMemory}
use Rattle.ra_shared.specs.Ends.{EndsNot, IsUntrue, IsUntrueOf}
use Rattle.ra_shared.specs.declared.answers.KeptAnswer.{KeptAnswer}
use Rattle.ra_shared.specs.declared.fault.FinishFault.{FinishFault}
use Rattle.ra_shared.specs.declared.fault.FinishFault.TheVariants.{Registry, Untrue}

pub at_map : {X Y : Type 0} (f : X → Y) (xs : List X) (i : ℕ) (x : X) → i < length xs → x ≡ get_or xs i x → slice_get (map f xs) i ≡ Some (f x)
at_map f [] i x below is = absurd (omega arith)
at_map f (y ∷ ys) zero x below is = ap (λ z. Some (f z)) (sym is)
at_map f (y ∷ ys) (suc i) x below is = at_map f ys i x (omega arith) is

pub of_book : (books : List (List KeptAnswer)) (number : ℕ) (book : List KeptAnswer) (fault : FinishFault) → slice_get books number ≡ Some book
    → IsUntrueOf number book fault → IsUntrue books fault
of_book books number book (Registry fault) at is = is
of_book books number book (Untrue handle key told last) at (same, k, untrue) =
    ((book, k.0, subst (λ n. slice_get books n ≡ Some book) (sym same) at, k.1), untrue)

pub of_registry : (made : ℕ) (books : List (List KeptAnswer)) (answered count : ℕ) (fault : EndFault) → count ≡ length books
    → registry.EndsNot made count fault → EndsNot made books answered (Registry fault)
of_registry made books answered count fault all is = here fault (subst (λ n. registry.EndsNot made n fault) all is)
  where
    here : (fault : EndFault) → registry.EndsNot made (length books) fault → EndsNot made books answered (Registry fault)
    here (NotAll given made') is = is
    here (Mismatch handle receipt entry) is = is
    here (Twice place one other) is = is
    here (KeepUnlike answered' failed) is = absurd is
    here NoMemory is = is

pub of_answers : (made : ℕ) (books : List (List KeptAnswer)) (answered : ℕ) (fault : FinishFault) → length books ≡ made
    → IsUntrue books fault → EndsNot made books answered fault
of_answers made books answered (Registry fault) all is = absurd is
of_answers made books answered (Untrue handle key told last) all is = (all, is)
