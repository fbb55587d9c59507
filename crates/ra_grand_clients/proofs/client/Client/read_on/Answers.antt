use Rattle.ra_model.specs.Links.{read_on}
use Rattle.ra_grand_clients.proofs.LinkTurnLemmas.{turned_by, reading_meets}
use Rattle.ra_grand_clients.proofs.client.Client.read_on.Goals as goal

pub returns : goal.returns
returns c = turned_by (read_on c.args.side c.args.n) (reading_meets c.args.side c.args.n) _ _ _ _ _ _ c.self.view_is c.index_mut.ensures.value c.read_on.ensures
