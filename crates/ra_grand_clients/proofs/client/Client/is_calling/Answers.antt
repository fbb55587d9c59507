use Rattle.ra_grand_clients.proofs.LinkMaking.{calling_one}
use Rattle.ra_grand_clients.proofs.client.Client.is_calling.Goals as goal

pub returns : goal.returns
returns c = rw (← c.self.view_is) (calling_one _ c.is_calling.result c.is_calling.ensures)
