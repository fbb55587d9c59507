use Rattle.std.proofs.Common.{refl, length}
use Rattle.ra_grand_clients.proofs.ClientLinks.{last_written}
use Rattle.ra_grand_clients.proofs.client.write_last.Goals as goal

pub returns-clause-ok : goal.returns-clause-ok
returns-clause-ok c = last_written c.args.links.now (length c.args.links.now) _ _ _ _ _ refl c.if-n-eq0.false refl c.write_to.ensures.ok
