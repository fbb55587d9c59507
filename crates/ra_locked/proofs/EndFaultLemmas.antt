-- From the fault of one handle's receipts to that of the whole.
use Rattle.std.proofs.Common.{◌≡◌, ℕ, ◌<◌, List, subst, sym}
use Rattle.ra_registry.specs.declared.past.Past.{Past}
use Rattle.ra_locked.specs.declared.fault.EndFault.{EndFault}
use Rattle.ra_locked.specs.declared.fault.EndFault.TheVariants.{NotAll, Mismatch, Twice, KeepUnlike, NoMemory}
use Rattle.ra_locked.specs.EndFaults.{IsOfBook, IsOfBooks, EndsNot}

pub of_book : (history : List Past) (number count : ℕ) (fault : EndFault) → number < count → IsOfBook history number fault → IsOfBooks history count fault
of_book history number count (NotAll given made) within is = is
of_book history number count (Mismatch handle receipt entry) within is = (subst (λ n. n < count) (sym is.0) within, is.1, is.2)
of_book history number count (Twice place one other) within is = subst (λ n. n < count) (sym is) within
of_book history number count (KeepUnlike answered failed) within is = is
of_book history number count NoMemory within is = absurd is

pub of_books : (history : List Past) (made given : ℕ) (fault : EndFault) → given ≡ made → IsOfBooks history given fault → EndsNot made given fault
of_books history made given (NotAll given' made') all is = absurd is
of_books history made given (Mismatch handle receipt entry) all is = (all, is.0, is.2)
of_books history made given (Twice place one other) all is = (all, is)
of_books history made given (KeepUnlike answered failed) all is = is
of_books history made given NoMemory all is = all
