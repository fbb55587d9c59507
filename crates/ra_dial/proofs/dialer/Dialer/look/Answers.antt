use Rattle.ra_dial.proofs.LookRows.{look_waits, look_goes, look_fails, look_refuses, look_accepts}
use Rattle.ra_dial.proofs.dialer.Dialer.look.Goals as goal

pub returns-in-Waits-clause-steps : goal.returns-in-Waits-clause-steps
returns-in-Waits-clause-steps c =
    let handles = rw (c.in-Waits.is, c.in-Shaking.shaking-is) at c.in_ok-handle.ensures.handles in
    rw (← c.self.view_is, c.in_ok-reserve.ensures.bytes) (look_waits _ c.in-Shaking.since _ c.handle.new.self c.args.now c.in-Shaking.is handles)

pub returns-in-GoesOn-clause-steps : goal.returns-in-GoesOn-clause-steps
returns-in-GoesOn-clause-steps c =
    let handles = rw c.in-GoesOn.is at c.in_ok-handle.ensures.handles in
    rw (← c.self.view_is, c.put-in-GoesOn.ensures.bytes, c.put.ensures.bytes, c.in_ok-reserve.ensures.bytes)
    (look_goes _ c.in-Shaking.since _ c.handle.new.self c.args.now c.in-GoesOn.header c.in-GoesOn.text c.in-Shaking.is handles)

pub returns-in-Fails-clause-steps : goal.returns-in-Fails-clause-steps
returns-in-Fails-clause-steps c =
    let handles = rw c.in-Fails.is at c.in_ok-handle.ensures.handles in
    let failed = rw c.in_ok-reserve.ensures.bytes at c.fail.ensures.steps in
    rw (← c.self.view_is) (look_fails _ _ _ c.in-Shaking.since _ c.handle.new.self c.args.now c.in-Shaking.is handles failed)

pub returns-in_ok-again-in-Refuses-clause-steps : goal.returns-in_ok-again-in-Refuses-clause-steps
returns-in_ok-again-in-Refuses-clause-steps c =
    let handles = rw c.in-Refuses.is at c.in_ok-handle.ensures.handles in
    let finished = rw c.in_ok-reserve.ensures.bytes at c.finish.ensures.steps in
    rw (← c.self.view_is) (look_refuses _ _ _ c.in-Shaking.since _ c.handle.new.self c.args.now c.in-Refuses.reason c.in-Shaking.is handles finished)

pub returns-in-Accepts-clause-steps : goal.returns-in-Accepts-clause-steps
returns-in-Accepts-clause-steps c =
    let handles = rw c.in-Accepts.is at c.in_ok-handle.ensures.handles in
    let went = rw (c.in_ok-reserve.ensures.bytes, c.as_slice-in-Accepts.ensures) at c.attach.ensures.steps in
    rw (← c.self.view_is) (look_accepts _ _ _ c.in-Shaking.since _ c.handle.new.self c.args.now c.in-Accepts.chunk c.in-Shaking.is handles went)
