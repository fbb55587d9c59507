use Rattle.ra_locked.proofs.Steps.{expired_kept}
use Rattle.ra_locked.proofs.locked.Locked.expire.Goals as goal

pub invariant_of-self : goal.invariant_of-self
invariant_of-self g c = expired_kept _ _ _ _ _ _ _ _ c.self.inside.seats.items c.expire.ensures.expired c.self.invariant
