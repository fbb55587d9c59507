use Rattle.ra_grand_clients.proofs.Holders.{more_pushed}
use Rattle.ra_grand_clients.proofs.clients.Clients.add.Goals as goal

pub returns-clause-made : goal.returns-clause-made
returns-clause-made c = more_pushed c.args.self.now _ _ c.in_ok-client.client _ c.self.view_is c.in_ok-push.ensures.items c.in_ok-client.ensures
