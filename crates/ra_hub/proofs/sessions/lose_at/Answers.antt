use Rattle.std.proofs.Common.{rules}
use Rattle.ra_session.specs.SessionCalls.{lose_session}
use Rattle.ra_hub.specs.declared.entry.SessionEntry.{SessionEntry}
use Rattle.ra_hub.specs.Entries.{EntryBecomes}
use Rattle.ra_hub.proofs.Calling.{session_called}
use Rattle.ra_hub.proofs.sessions.lose_at.Goals as goal

pub returns-in-Some : goal.returns-in-Some
returns-in-Some c =
    let written = c.get_mut.follows.holds c.lose.new.self in
    session_called c.args.sessions.now (c.get_mut.follows.lender c.lose.new.self) c.args.seat.now.key c.in-Some.entry.now c.lose.new.self
    (λ (x y : SessionEntry). EntryBecomes x y (lose_session c.args.seat.now.epoch))
    c.in-Some.ensures.value (written.3 (search rules)).0 c.lose.ensures
