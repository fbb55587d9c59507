use Rattle.std.proofs.Common.{◌&&◌, ap, ◌∙◌}
use Rattle.std.proofs.Math.Bool.{and-false}
use Rattle.ra_registry.specs.Seats.{ends, is_of}
use Rattle.ra_registry.proofs.LawLemmas.{stays_unspent}
use Rattle.ra_registry.proofs.laws.unspent.Goals as goal

pub returns : goal.returns
returns c = record {
  no_end = λ history entry seat none left. stays_unspent history entry seat (ap (λ b. b && is_of seat entry) none) left;
  other_end = λ history entry seat other left. stays_unspent history entry seat (ap (λ b. ends entry.did && b) other ∙ and-false (ends entry.did)) left;
}
