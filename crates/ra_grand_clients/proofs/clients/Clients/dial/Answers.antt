use Rattle.ra_grand_clients.proofs.CrowdLemmas.{dials_at, stay_at}
use Rattle.ra_grand_clients.proofs.clients.Clients.dial.Goals as goal

pub returns-clause-dials : goal.returns-clause-dials
returns-clause-dials c =
    let dials = rw c.index_mut.ensures.value at c.dial.ensures.dials in
    rw (← c.self.view_is) (dials_at c.dial.result _ _ _ _ _ _ dials)

pub returns-clause-stays : goal.returns-clause-stays
returns-clause-stays c =
    let stays = rw c.index_mut.ensures.value at c.dial.ensures.stays in
    rw (← c.self.view_is) (stay_at c.dial.result _ _ _ _ stays)
