use Rattle.ra_dial.proofs.AttemptRows.{begun}
use Rattle.ra_dial.proofs.dialer.Dialer.begin.Goals as goal

pub returns-clause-steps : goal.returns-clause-steps
returns-clause-steps g c =
    rw (← c.self.view_is, c.put.ensures.bytes, c.in_ok-reserve.ensures.bytes, c.in_ok-shaking.ensures, c.in_ok-request.ensures, c.epoch-again.ensures, c.take-key.ensures.value, c.take-drawn.ensures.value, c.take-key.ensures.after 0)
    (begun _ c.args.called _ _)
