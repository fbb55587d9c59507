use Rattle.std.proofs.Common.{rules}
use Rattle.ra_session.specs.SessionCalls.{end_session}
use Rattle.ra_hub.specs.declared.entry.SessionEntry.{SessionEntry}
use Rattle.ra_hub.specs.Entries.{EntryBecomes}
use Rattle.ra_hub.proofs.Calling.{session_called}
use Rattle.ra_hub.proofs.sessions.end_at.Goals as goal

pub returns-in-Some : goal.returns-in-Some
returns-in-Some c =
    let written = c.get_mut.follows.holds c.end.new.self in
    session_called c.args.sessions.now (c.get_mut.follows.lender c.end.new.self) c.args.key.now c.in-Some.entry.now c.end.new.self
    (λ (x y : SessionEntry). EntryBecomes x y (end_session c.args.cause))
    c.in-Some.ensures.value (written.3 (search rules)).0 c.end.ensures
