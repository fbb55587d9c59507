use Rattle.std.proofs.Common.{map, subst}
use Rattle.ra_shared.specs.Ends.{IsUntrueOf}
use Rattle.ra_shared.proofs.Ended.{at_map, of_book}
use Rattle.ra_shared.proofs.compare.check_books.Goals as goal

pub returns-in-Err-clause-fault : goal.returns-in-Err-clause-fault
returns-in-Err-clause-fault c =
    let book = c.index-books-number.result in
    of_book (map (λ b. b.items) c.args.books.now) c.loop-number.number book.items c.in-Err.fault
    (at_map (λ b. b.items) c.args.books.now c.loop-number.number book c.loop-number-test.true c.index-books-number.is)
    (subst (λ items. IsUntrueOf c.loop-number.number items c.in-Err.fault) c.as_slice.ensures.value c.in-Err.ensures.fault)
