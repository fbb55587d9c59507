use Rattle.std.proofs.Common.{drop}
use Rattle.ra_shared.specs.LastStates.{IsBorneOut}
use Rattle.ra_shared.proofs.compare.check_book.Given as goal

abbrev pub invariant-loop-answer : goal.invariant-loop-answer
invariant-loop-answer l = record {
  back : IsBorneOut l.lasts (drop l.answer-index l.book) → IsBorneOut l.lasts l.book;
}
