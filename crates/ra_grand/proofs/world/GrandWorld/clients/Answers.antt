use Rattle.std.proofs.Common.{◌∙◌}
use Rattle.ra_grand_clients.proofs.CrowdLemmas.{count}
use Rattle.ra_grand.proofs.world.GrandWorld.clients.Goals as goal

pub returns : goal.returns
returns c = λ w stands. c.len.ensures ∙ count _ _ stands.clients
