use Rattle.std.proofs.Common.{◌++◌}
use Rattle.ra_opening.specs.Openings.{Grounds, grounds_of}
use Rattle.ra_opening.proofs.PieceLemmas.{stands_short, fed_by}
use Rattle.ra_opening.proofs.opening.Opening.take.Goals as goal

pub returns-in-Err-clause-made : goal.returns-in-Err-clause-made
returns-in-Err-clause-made g c = λ draw head text before is x.
    let grounds : Grounds = grounds_of c.args.settings.now (g.G.Signer.signature_of c.args.signer.now) (g.G.Signer.counts c.args.signer.now) draw in
    rw c.ended.ensures (stands_short c.args.self.now.phase grounds head text c.args.piece.now before (g.E.Entropy.draw c.args.entropy.now) c.args.self.now.reader c.args.out.now.items x)

pub returns-in-Ok-clause-made : goal.returns-in-Ok-clause-made
returns-in-Ok-clause-made g c = λ draw head text before is x.
    let grounds : Grounds = grounds_of c.args.settings.now (g.G.Signer.signature_of c.args.signer.now) (g.G.Signer.counts c.args.signer.now) draw in
    c.take_piece-taken.ensures.made draw head (text ++ c.args.piece.now) before is
    (fed_by c.args.self.now c.self.inside.phase c.replace-phase.result c.self.inside.reader c.feed.new.self grounds head text c.args.piece.now before (g.E.Entropy.draw c.args.entropy.now) c.args.out.now.items
    c.self.view_is c.replace-phase.ensures.value c.in-Ok.ensures.ok x)
