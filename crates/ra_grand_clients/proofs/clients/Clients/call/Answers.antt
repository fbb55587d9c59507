use Rattle.ra_grand_clients.proofs.CrowdLemmas.{asks_in, next_id_in}
use Rattle.ra_grand_clients.proofs.clients.Clients.call.Goals as goal

pub returns-clause-asks : goal.returns-clause-asks
returns-clause-asks c =
    let asks = rw c.index_mut.ensures.value at c.call.ensures.asks in
    rw (← c.self.view_is) (asks_in c.call.result _ _ _ _ _ _ asks)

pub returns-clause-id : goal.returns-clause-id
returns-clause-id c =
    let next = rw c.index_mut.ensures.value at c.call.ensures.id in
    rw (← c.self.view_is) (next_id_in c.call.result _ _ _ next)
