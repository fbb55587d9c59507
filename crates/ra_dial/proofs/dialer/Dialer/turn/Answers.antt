use Rattle.std.proofs.Common.{Some, None}
use Rattle.ra_session.specs.View.{turn_of}
use Rattle.ra_dial.proofs.AttemptRows.{told}
use Rattle.ra_dial.proofs.LinkRows.{turned, refused_by}
use Rattle.ra_dial.proofs.dialer.Dialer.turn.Goals as goal

pub returns-in-Some-clause-steps : goal.returns-in-Some-clause-steps
returns-in-Some-clause-steps c =
    let becomes = rw c.epoch-epoch.ensures at c.in-Ok.ensures.leaves in
    let answered = rw c.epoch-epoch.ensures at c.in-Ok.ensures.answered in
    let allowed = rw c.epoch-epoch.ensures at c.in-Ok.ensures.refused in
    let finished = rw (c.put.ensures.bytes, c.in_ok-reserve.ensures.bytes) at c.finish.ensures.steps in
    rw (← c.self.view_is) (turned _ _ c.turn.new.self _ (turn_of c.in-Ok.turn) (Some c.in-Some.cause) c.args.now c.in-Some.is becomes answered allowed finished)

pub returns-in-None-clause-steps : goal.returns-in-None-clause-steps
returns-in-None-clause-steps c =
    let becomes = rw c.epoch-epoch.ensures at c.in-Ok.ensures.leaves in
    let answered = rw c.epoch-epoch.ensures at c.in-Ok.ensures.answered in
    let allowed = rw c.epoch-epoch.ensures at c.in-Ok.ensures.refused in
    rw (← c.self.view_is, c.act_after.ensures.act, c.put.ensures.bytes, c.in_ok-reserve.ensures.bytes)
    (turned _ _ c.turn.new.self _ (turn_of c.in-Ok.turn) None c.args.now c.in-None.is becomes answered allowed (told _ _))

pub returns-in-Err-clause-steps : goal.returns-in-Err-clause-steps
returns-in-Err-clause-steps c =
    let leaves = rw c.epoch-epoch.ensures at c.in-Err.ensures.leaves in
    let refused = rw c.epoch-epoch.ensures at c.in-Err.ensures.refused in
    let steps = rw c.in_ok-reserve.ensures.bytes at c.refused.ensures.steps in
    rw (← c.self.view_is) (refused_by _ _ c.turn.new.self c.in-Err.fault _ c.args.now leaves refused c.refused.ensures.judged steps)
