use Rattle.ra_model.specs.Calls.{wrote}
use Rattle.ra_world.proofs.PeerCalls.{called_stands, silent_wrote}
use Rattle.ra_world.proofs.peer.Peer.wrote.Goals as goal

pub returns : goal.returns
returns c = rw (← c.self.view_is) (λ p h. called_stands _ _ (wrote c.args.n) p p.applied (silent_wrote p.endpoint c.args.n) c.wrote.ensures.stands h)
