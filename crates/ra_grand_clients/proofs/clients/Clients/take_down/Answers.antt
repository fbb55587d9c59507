use Rattle.ra_grand_clients.proofs.TakingDown.{takes_in}
use Rattle.ra_grand_clients.proofs.clients.Clients.take_down.Goals as goal

pub returns-clause-taken : goal.returns-clause-taken
returns-clause-taken c =
    let taken = rw c.index_mut.ensures.value at c.take_down.ensures.taken in
    rw (← c.self.view_is) (takes_in c.take_down.result _ _ _ _ _ _ _ taken)
