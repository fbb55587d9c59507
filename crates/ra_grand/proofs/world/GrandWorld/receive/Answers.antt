use Rattle.ra_link_core.specs.Makes.{outcome_of}
use Rattle.ra_grand.proofs.ReceiveSteps.{receives_by}
use Rattle.ra_grand.proofs.world.GrandWorld.receive.Goals as goal

pub returns-clause-receives : goal.returns-clause-receives
returns-clause-receives c =
    let ok = rw c.as_slice.ensures.value at c.exchange-put.ensures.ok in
    receives_by c.exchange-put.result c.args.self.now c.piece-end.new.self c.exchange-put.new.self c.args.spot (outcome_of c.piece-end.result) (outcome_of c.end_of.result) c.args.bytes.now c.piece-end.new.out.items
    c.piece-end.ensures.piece ok c.exchange-put.ensures.err c.end_of.ensures
