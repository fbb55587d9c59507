use Rattle.ra_world.proofs.PeerCalls.{lose_stands}
use Rattle.ra_world.proofs.peer.Peer.lose.Goals as goal

pub returns : goal.returns
returns c = rw (← c.self.view_is) (lose_stands _ _ c.epoch-present.result c.epoch-present.ensures c.lose_link.ensures.stands)
