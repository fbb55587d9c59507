use Rattle.std.proofs.Common.{length}
use Rattle.ra_opening.proofs.ShakeLemmas.{GoesOn}
use Rattle.ra_opening.proofs.shaking.shake_on.Given as goal

abbrev pub invariant-controls : goal.invariant-controls
invariant-controls g l =
    GoesOn (g.G.Signer.signature_of l.signer) (g.G.Signer.counts l.signer) l.fn.reader l.reader l.fn.shake l.shake l.fn.out.items l.out.items

abbrev pub decreases-controls : goal.decreases-controls
decreases-controls g l = length l.reader.unread
