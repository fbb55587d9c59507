use Rattle.std.proofs.Common.{◌≡◌, drop, length}
use Rattle.ra_locked.specs.PlaceMarks.{Marks, marked}
use Rattle.ra_locked.proofs.compare.compare_book.Given as goal

abbrev pub invariant-loop-receipt : goal.invariant-loop-receipt
invariant-loop-receipt l = record {
  same : length l.marks ≡ length l.history;
  back : Marks l.history l.number l.marks l.next (drop l.receipt-index l.book) → Marks l.history l.number l.fn.marks 0 l.book;
  after : marked l.number l.marks (drop l.receipt-index l.book) ≡ marked l.number l.fn.marks l.book;
}
