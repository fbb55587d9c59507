use Rattle.ra_grand.proofs.UpSteps.{waits_over, waits_on}
use Rattle.ra_grand.proofs.world.GrandWorld.waiting.Goals as goal

pub returns-then-is_over-clause-waits : goal.returns-then-is_over-clause-waits
returns-then-is_over-clause-waits c =
    λ w stands. waits_over c.args.link c.args.self.now c.in-Some.spot c.is_over.result w c.in-Some.ensures.there.served c.is_over.ensures c.if-is_over.true stands (c.in-Some.ensures.found w stands)

pub returns-else-is_over-clause-waits : goal.returns-else-is_over-clause-waits
returns-else-is_over-clause-waits c =
    λ w stands. waits_on c.args.link c.args.self.now c.in-Some.spot c.is_over.result w c.in-Some.ensures.there.served c.is_over.ensures c.if-is_over.false stands (c.in-Some.ensures.found w stands)
