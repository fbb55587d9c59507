use Rattle.ra_grand_server.proofs.SeatsAdded.{seats_added}
use Rattle.ra_grand_server.proofs.server.Server.add_link.Goals as goal

pub invariant_of-self-2 : goal.invariant_of-self-2
invariant_of-self-2 c = seats_added c.self.inside.hub c.self.inside.links.items c.push.new.self.items c.args.client c.args.link c.new.result c.new.ensures c.in_ok-push.ensures.items c.self.invariant
