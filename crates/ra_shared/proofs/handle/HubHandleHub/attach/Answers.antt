use Rattle.std.proofs.Common.{arith}
use Rattle.ra_locked.specs.HandleSeats.{held_of}
use Rattle.ra_shared.proofs.Seated.{written}
use Rattle.ra_shared.proofs.handle.HubHandleHub.attach.Goals as goal

pub returns-in-Ok-clause-seats : goal.returns-in-Ok-clause-seats
returns-in-Ok-clause-seats g c other =
    let stay = rw (c.as_mut_slice.ensures.value) at c.set_attached.ensures.stay in
    written (held_of other) c.set_attached.new.held c.args.self.now.registry.held.items c.args.self.now.registry.held.len
    (omega (arith, c.set_attached.ensures.len, c.as_mut_slice.ensures.len))
    (stay other)
