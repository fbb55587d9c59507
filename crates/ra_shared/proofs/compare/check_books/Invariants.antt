use Rattle.std.proofs.Common.{drop, map}
use Rattle.ra_shared.specs.LastStates.{AreBorneOut}
use Rattle.ra_shared.proofs.compare.check_books.Given as goal

abbrev pub invariant-loop-number : goal.invariant-loop-number
invariant-loop-number l = record {
  back : AreBorneOut l.lasts (map (λ b. b.items) (drop l.number l.books)) → AreBorneOut l.lasts (map (λ b. b.items) l.books);
}
