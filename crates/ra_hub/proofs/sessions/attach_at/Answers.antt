use Rattle.std.proofs.Common.{rules}
use Rattle.ra_session.specs.SessionCalls.{attach}
use Rattle.ra_session.specs.SessionRefusals.{attach_refusal}
use Rattle.ra_hub.specs.Standing.{Called}
use Rattle.ra_hub.proofs.Calling.{session_called}
use Rattle.ra_hub.proofs.sessions.attach_at.Goals as goal

pub returns-in-Some-clause-attached : goal.returns-in-Some-clause-attached
returns-in-Some-clause-attached c =
    let written = c.get_mut.follows.holds c.attach.new.self in
    session_called c.args.sessions.now (c.get_mut.follows.lender c.attach.new.self) c.args.seat.now.key c.in-Some.entry.now c.attach.new.self
    (Called (attach_refusal c.args.seat.now.epoch) (attach c.args.seat.now.epoch c.args.chunk.now c.args.now) c.attach.result)
    c.in-Some.ensures.value (written.3 (search rules)).0
    c.attach.ensures.called
