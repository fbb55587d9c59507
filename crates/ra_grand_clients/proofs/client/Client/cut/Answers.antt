use Rattle.ra_model.specs.Links.{cut_off}
use Rattle.ra_grand_clients.proofs.LinkTurnLemmas.{turned_at_rest}
use Rattle.ra_grand_clients.proofs.client.Client.cut.Goals as goal

pub returns-clause-ok : goal.returns-clause-ok
returns-clause-ok c =
    turned_at_rest cut_off _ _ _ _ _ _ _ c.self.view_is c.in_ok-flush.ensures.done c.in_ok-flush.ensures.empty c.index_mut.ensures.value c.cut_off.ensures
