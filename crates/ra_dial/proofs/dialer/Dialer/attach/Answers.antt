use Rattle.ra_dial.proofs.LinkRows.{attached, not_attached}
use Rattle.ra_dial.proofs.dialer.Dialer.attach.Goals as goal

pub returns-in-Err-clause-steps : goal.returns-in-Err-clause-steps
returns-in-Err-clause-steps c =
    let refused = rw (c.saturating_add-epoch.ensures, c.epoch.ensures) at c.in-Err.ensures.refused in
    rw (← c.self.view_is) (not_attached _ _ c.attach.new.self _ c.in-Err.fault c.args.chunk.now c.args.now c.in-Err.ensures.same c.in_ok-judged.ensures refused c.fail.ensures.steps)

pub returns-clause-steps : goal.returns-clause-steps
returns-clause-steps c =
    let becomes = rw (c.saturating_add-epoch.ensures, c.epoch.ensures) at c.in_default.ensures.stands in
    let allowed = rw (c.saturating_add-epoch.ensures, c.epoch.ensures) at c.in_default.ensures.refused in
    rw (← c.self.view_is) (attached _ _ c.args.chunk.now c.args.now becomes allowed)
