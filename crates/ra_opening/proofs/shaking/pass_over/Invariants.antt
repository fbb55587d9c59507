use Rattle.std.proofs.Common.{length}
use Rattle.ra_opening.specs.Comes.{PassesOver}
use Rattle.ra_opening.proofs.shaking.pass_over.Given as goal

abbrev pub invariant-frames : goal.invariant-frames
invariant-frames l = PassesOver l.fn.reader l.reader

abbrev pub decreases-frames : goal.decreases-frames
decreases-frames l = length l.reader.unread
