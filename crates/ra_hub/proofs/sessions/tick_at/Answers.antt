use Rattle.std.proofs.Common.{rules}
use Rattle.ra_hub.specs.Standing.{Ticked}
use Rattle.ra_hub.proofs.Calling.{session_called}
use Rattle.ra_hub.proofs.sessions.tick_at.Goals as goal

pub returns-in-Some : goal.returns-in-Some
returns-in-Some c =
    let written = c.get_mut.follows.holds c.tick.new.self in
    session_called c.args.sessions.now (c.get_mut.follows.lender c.tick.new.self) c.args.key.now c.in-Some.entry.now c.tick.new.self
    (Ticked c.args.now c.tick.result)
    c.in-Some.ensures.value (written.3 (search rules)).0 c.tick.ensures
