use Rattle.std.proofs.Common.{rules}
use Rattle.ra_hub.specs.Standing.{Turned}
use Rattle.ra_hub.proofs.Calling.{session_called}
use Rattle.ra_hub.proofs.sessions.turn_at.Goals as goal

pub returns-in-Some-clause-turned : goal.returns-in-Some-clause-turned
returns-in-Some-clause-turned c =
    let written = c.get_mut.follows.holds c.turn.new.self in
    session_called c.args.sessions.now (c.get_mut.follows.lender c.turn.new.self) c.args.seat.now.key c.in-Some.entry.now c.turn.new.self
    (Turned c.args.seat.now.epoch c.args.piece.now c.args.now c.turn.result)
    c.in-Some.ensures.value (written.3 (search rules)).0
    c.turn.ensures.turned
