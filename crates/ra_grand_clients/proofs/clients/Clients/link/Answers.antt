use Rattle.ra_grand_clients.proofs.CrowdLemmas.{stay_in}
use Rattle.ra_grand_clients.proofs.LinkMaking.{links_in}
use Rattle.ra_grand_clients.proofs.clients.Clients.link.Goals as goal

pub returns-clause-linked : goal.returns-clause-linked
returns-clause-linked c =
    let made = rw c.index_mut.ensures.value at c.link.ensures.linked in
    rw (← c.self.view_is) (links_in c.link.result _ _ _ _ _ made)

pub returns-clause-stays : goal.returns-clause-stays
returns-clause-stays c =
    let stays = rw c.index_mut.ensures.value at c.link.ensures.stays in
    rw (← c.self.view_is) (stay_in c.link.result _ _ _ _ stays)
