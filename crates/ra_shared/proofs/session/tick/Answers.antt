use Rattle.ra_hub.proofs.Calling.{ticks, stays}
use Rattle.ra_shared.proofs.session.tick.Goals as goal

pub returns-in-Ok : goal.returns-in-Ok
returns-in-Ok c = ticks c.args.now c.args.session.now c.tick.new.self c.in-Ok.ensures.stands c.in-Ok.ensures.refused

pub returns-in-Err : goal.returns-in-Err
returns-in-Err c = rw (c.is_no_memory.ensures) (stays c.args.now c.args.session.now c.tick.new.self c.in-Err.fault c.in-Err.ensures.same c.in-Err.ensures.refused c.in-Err.ensures.short)
