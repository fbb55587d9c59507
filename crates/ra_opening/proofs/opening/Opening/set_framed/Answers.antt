use Rattle.ra_opening.proofs.PieceLemmas.{framed_by}
use Rattle.ra_opening.proofs.opening.Opening.set_framed.Goals as goal

pub returns-clause-made : goal.returns-clause-made
returns-clause-made c = λ grounds head text before next out x.
    framed_by c.args.self.now c.self.inside.phase c.replace-phase.result c.framed.result c.self.inside.reader c.clear.new.self grounds head text before next out
    c.self.view_is c.replace-phase.ensures.value c.framed.ensures c.clear.ensures c.requires x
