use Rattle.ra_grand_clients.proofs.CrowdLemmas.{turns_in, stay_in}
use Rattle.ra_grand_clients.proofs.clients.Clients.cut.Goals as goal

pub returns-clause-ok : goal.returns-clause-ok
returns-clause-ok c =
    let turns = rw c.index_mut.ensures.value at c.cut.ensures.ok in
    rw (← c.self.view_is) (turns_in c.cut.result _ _ _ _ _ _ turns)

pub returns-clause-stays : goal.returns-clause-stays
returns-clause-stays c =
    let stays = rw c.index_mut.ensures.value at c.cut.ensures.stays in
    rw (← c.self.view_is) (stay_in c.cut.result _ _ _ _ stays)
