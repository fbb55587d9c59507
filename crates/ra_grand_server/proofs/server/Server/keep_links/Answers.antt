use Rattle.ra_grand_server.proofs.SeatsAdded.{seats_front}
use Rattle.ra_grand_server.proofs.server.Server.keep_links.Goals as goal

pub invariant_of-self : goal.invariant_of-self
invariant_of-self c = seats_front c.self.inside.hub c.args.n c.self.inside.links.items c.truncate.new.self.items c.truncate.ensures.items c.self.invariant
