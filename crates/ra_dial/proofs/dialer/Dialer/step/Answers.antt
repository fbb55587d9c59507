use Rattle.ra_dial.proofs.StepRows.{over, not_over}
use Rattle.ra_dial.proofs.dialer.Dialer.step.Goals as goal

pub returns-in-Over-clause-steps : goal.returns-in-Over-clause-steps
returns-in-Over-clause-steps g c = rw (← c.self.view_is, c.in_ok-copy.ensures) (over _ _ _ c.args.event c.args.now c.in-Over.end c.in-Over.is)

pub returns : goal.returns
returns g c = record {
  steps = rw (← c.self.view_is) (not_over _ _ _ _ c.args.event c.args.now _ c.in_default.not-Over (rw (← c.self.view_is) at c.on_event.ensures.steps));
  drawn = c.on_event.ensures.drawn;
  same = c.on_event.ensures.same;
  budget = c.on_event.ensures.budget;
  fits = c.on_event.ensures.fits;
}
