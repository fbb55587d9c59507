use Rattle.std.proofs.Common.{refl}
use Rattle.ra_world.proofs.PeerCalls.{tick_answers}
use Rattle.ra_world.proofs.peer.Peer.tick.Goals as goal

pub returns-clause-does : goal.returns-clause-does
returns-clause-does c =
    rw (← c.self.view_is)
    (λ p h. let both = tick_answers _ _ c.args.now c.in-Ok.ticked.timed_out c.in-Ok.ensures.stands c.in-Ok.ensures.timeout p h in (refl, both.0, both.1))
