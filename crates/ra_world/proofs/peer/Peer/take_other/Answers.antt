use Rattle.ra_world.proofs.PeerCalls.{other_answers}
use Rattle.ra_world.proofs.peer.Peer.take_other.Goals as goal

pub returns-clause-does : goal.returns-clause-does
returns-clause-does c =
    let other = rw (← c.self.view_is) at c.requires in
    rw (c.effect_of.ensures, ← c.self.view_is)
    (other_answers _ _ c.in-Ok.up c.args.now c.in-Ok.ensures.refused c.in-Ok.ensures.stands c.in-Ok.ensures.handed other)
