use Rattle.ra_world.proofs.PeerCalls.{none_answers}
use Rattle.ra_world.proofs.peer.Peer.take.Goals as goal

pub returns-in-Ok-Nothing-clause-does : goal.returns-in-Ok-Nothing-clause-does
returns-in-Ok-Nothing-clause-does c =
    let none = rw c.in-Ok-Nothing.field-0-is at c.in-Ok-Nothing.ensures.agrees in
    rw (← c.self.view_is) (none_answers _ c.args.now c.in-Ok-Nothing.ensures.refused none)
