use Rattle.std.proofs.Common.{◌<◌, length}
use Rattle.std.specs.Prelude.{All}
use Rattle.agent_tests.proofs.links.prints.Given as goal

-- no piece so far is empty
abbrev pub invariant-loop-piece : goal.invariant-loop-piece
invariant-loop-piece l = All (λ piece. 0 < length piece) l.pieces.items
