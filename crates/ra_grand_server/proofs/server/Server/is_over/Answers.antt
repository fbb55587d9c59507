use Rattle.std.proofs.Common.{ap, ◌∙◌}
use Rattle.ra_grand_server.specs.ServerStates.{ServedState}
use Rattle.ra_grand_server.proofs.ServerSteps.{over_at}
use Rattle.ra_grand_server.proofs.server.Server.is_over.Goals as goal

pub returns : goal.returns
returns c =
    rw (← c.self.view_is)
    (λ link there. ap (λ (x : ServedState). x.is_over) c.behind-self.view_is ∙ over_at c.self.inside.links.items c.args.n c.index.result.now c.index.ensures link there)
