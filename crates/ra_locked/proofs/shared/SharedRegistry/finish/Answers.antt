use Rattle.std.proofs.Common.{◌≡◌, List, length, map, subst, ap, arith}
use Rattle.std.proofs.lemmas.List.{length-map}
use Rattle.ra_locked.specs.declared.receipt.Receipt.{Receipt}
use Rattle.ra_locked.specs.EndFaults.{IsOfBooks}
use Rattle.ra_locked.proofs.EndFaultLemmas.{of_books}
use Rattle.ra_locked.proofs.Accounted.{are_receipts_of, of_calls}
use Rattle.ra_locked.proofs.shared.SharedRegistry.finish.Goals as goal

pub returns-in-Ok-compare_books-clause-receipts : goal.returns-in-Ok-compare_books-clause-receipts
returns-in-Ok-compare_books-clause-receipts g c =
    let bs : List (List Receipt) = map (λ h. h.receipts.items) c.args.handles.items in
    let marks = rw (c.history.ensures.value, c.as_slice-2.ensures.value, c.in-Ok.ensures.books) at c.in-Ok-compare_books.ensures.marks in
    are_receipts_of c.audit.new.self.registry.history bs marks
    (omega (arith, c.audit.ensures.counted, c.audit.ensures.amount, c.in-Ok.ensures.amount, c.args.self.none))
    (of_calls bs c.in-Ok.ensures.of_calls)

pub returns-clause-not : goal.returns-clause-not
returns-clause-not g c =
    let books : length c.as_slice-2.result.now ≡ length c.args.handles.items =
    omega (arith, ap length c.as_slice-2.ensures.value, length-map c.in-Ok.books.items (λ v. v.items), ap length c.in-Ok.ensures.books, length-map c.args.handles.items (λ h. h.receipts.items)) in
    of_books c.history.result.now c.args.self.made (length c.args.handles.items) c.in-Err.fault (omega (arith, c.len-given.ensures, c.if-given-made.false)) (subst (λ n. IsOfBooks c.history.result.now n c.in-Err.fault) books c.in-Err.ensures.fault)
