use Rattle.std.proofs.Common.{◌<◌, List, length, sym, subst}
use Rattle.ra_grand_clients.specs.ClientStates.{ClientState}
use Rattle.ra_grand_clients.proofs.CrowdLemmas.{flushed_at, same_one, as_many}
use Rattle.ra_grand_clients.proofs.clients.Clients.flush.Goals as goal

pub returns-clause-done : goal.returns-clause-done
returns-clause-done c =
    let less = subst (λ (hs : List ClientState). c.args.n < length hs) (sym c.self.view_is) c.requires in
    let done = rw c.index_mut.ensures.value at c.flush.ensures.done in
    rw (← c.self.view_is) (flushed_at c.flush.result _ _ _ _ less done c.flush.ensures.empty)

pub returns-clause-stays : goal.returns-clause-stays
returns-clause-stays c =
    let stays = rw c.index_mut.ensures.value at c.flush.ensures.stays in
    rw (← c.self.view_is) (λ cs all. same_one _ cs _ _ _ all stays)

pub returns-clause-links : goal.returns-clause-links
returns-clause-links c =
    let less = subst (λ (hs : List ClientState). c.args.n < length hs) (sym c.self.view_is) c.requires in
    let count = rw c.index_mut.ensures.value at c.flush.ensures.count in
    rw (← c.self.view_is) (as_many _ _ _ _ less count)
