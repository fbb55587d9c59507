use Rattle.ra_grand_clients.proofs.CrowdLemmas.{turns_in}
use Rattle.ra_grand_clients.proofs.ExchangeLemmas.{turns_unless}
use Rattle.ra_grand_clients.proofs.clients.Clients.exchange.Goals as goal

pub returns-clause-ok : goal.returns-clause-ok
returns-clause-ok c =
    let turns = rw c.index_mut.ensures.value at c.exchange.ensures.ok in
    rw (← c.self.view_is) (turns_in c.exchange.result _ _ _ _ _ _ turns)

pub returns-clause-err : goal.returns-clause-err
returns-clause-err c =
    let turns = rw c.index_mut.ensures.value at c.exchange.ensures.err in
    rw (← c.self.view_is) (turns_unless c.exchange.result _ _ _ _ _ _ turns)
