use Rattle.std.proofs.Common.{◌≡◌, drop, length, map, replicate}
use Rattle.ra_locked.specs.PlaceMarks.{MarksAll}
use Rattle.ra_locked.proofs.compare.compare_books.Given as goal

abbrev pub invariant-loop-number : goal.invariant-loop-number
invariant-loop-number l = record {
  same : length l.marks.items ≡ length l.history;
  back : MarksAll l.history l.number l.marks.items (map (λ b. b.items) (drop l.number l.books)) → MarksAll l.history 0 (replicate (length l.history) 0) (map (λ b. b.items) l.books);
}
