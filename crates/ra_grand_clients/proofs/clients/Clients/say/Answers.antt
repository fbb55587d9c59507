use Rattle.ra_grand_clients.proofs.CrowdLemmas.{asks_in}
use Rattle.ra_grand_clients.proofs.clients.Clients.say.Goals as goal

pub returns : goal.returns
returns c =
    let asks = rw c.index_mut.ensures.value at c.say.ensures in
    rw (← c.self.view_is) (asks_in c.say.result _ _ _ _ _ _ asks)
