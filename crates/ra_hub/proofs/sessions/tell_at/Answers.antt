use Rattle.std.proofs.Common.{rules}
use Rattle.ra_session.specs.View.{told, tell_refusal}
use Rattle.ra_hub.specs.Standing.{Called}
use Rattle.ra_hub.proofs.Calling.{session_called}
use Rattle.ra_hub.proofs.sessions.tell_at.Goals as goal

pub returns-in-Some : goal.returns-in-Some
returns-in-Some c =
    let written = c.get_mut.follows.holds c.tell.new.self in
    session_called c.args.sessions.now (c.get_mut.follows.lender c.tell.new.self) c.args.key.now c.in-Some.entry.now c.tell.new.self
    (Called (tell_refusal c.args.tell) (told c.args.tell c.args.now) c.tell.result)
    c.in-Some.ensures.value (written.3 (search rules)).0
    c.tell.ensures
