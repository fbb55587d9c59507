use Rattle.ra_shared.proofs.Seated.{seated}
use Rattle.ra_shared.proofs.handle.HubHandleHub.admit.Goals as goal

pub returns-clause-seated : goal.returns-clause-seated
returns-clause-seated g c = seated c.in_ok-seat.seat c.args.self.now.registry.held.items c.admit.new.self.held.items c.in_ok-seat.ensures.given
