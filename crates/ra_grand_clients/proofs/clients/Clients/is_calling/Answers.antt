use Rattle.ra_grand_clients.proofs.LinkMaking.{calling_at}
use Rattle.ra_grand_clients.proofs.clients.Clients.is_calling.Goals as goal

pub returns : goal.returns
returns c =
    let is = rw c.index.ensures at c.is_calling.ensures in
    rw (← c.self.view_is) (calling_at _ _ _ c.is_calling.result is)
