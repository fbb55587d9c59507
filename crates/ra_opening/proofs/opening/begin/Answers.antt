use Rattle.ra_opening.specs.Openings.{Grounds, grounds_of}
use Rattle.ra_opening.proofs.PieceLemmas.{begun_shaking}
use Rattle.ra_opening.proofs.opening.begin.Goals as goal

pub returns-in-Waits-clause-made : goal.returns-in-Waits-clause-made
returns-in-Waits-clause-made g c = λ draw head text before is x.
    rw c.waiting.ensures (c.in-Waits.ensures.made (g.G.Signer.signature_of c.args.signer.now) (g.G.Signer.counts c.args.signer.now) draw head text before is x)

pub returns-then-skip_frames-clause-made : goal.returns-then-skip_frames-clause-made
returns-then-skip_frames-clause-made g c = λ draw head text before is x.
    let grounds : Grounds = grounds_of c.args.settings.now (g.G.Signer.signature_of c.args.signer.now) (g.G.Signer.counts c.args.signer.now) draw in
    let begun = c.in-Begun.ensures.made (g.G.Signer.signature_of c.args.signer.now) (g.G.Signer.counts c.args.signer.now) draw head text before is x in
    c.go_on.ensures.made c.args.settings.now draw head text before (g.E.Entropy.draw c.open_head.new.entropy)
    (begun_shaking grounds head text before (g.E.Entropy.draw c.open_head.new.entropy) c.open_head.new.reader c.in-Begun.shake c.in-Begun.skip_frames c.open_head.new.out.items begun)
