use Rattle.std.proofs.Common.{refl}
use mathlib.Core.Logic.{⊎_elim}
use Rattle.ra_dial.proofs.LookRows.{attached_frame, idle_frame}
use Rattle.ra_dial.proofs.dialer.Dialer.on_frame.Goals as goal

pub returns-in-Attached-clause-steps : goal.returns-in-Attached-clause-steps
returns-in-Attached-clause-steps c = rw (← c.self.view_is) (attached_frame _ _ _ c.args.now c.in-Attached.is (rw (← c.self.view_is) at c.turn.ensures.steps))

pub returns-in-Resting-clause-steps : goal.returns-in-Resting-clause-steps
returns-in-Resting-clause-steps c =
    rw (← c.self.view_is)
    (⊎_elim (λ r. idle_frame _ c.args.now _ r.1 refl refl) (λ o. ⊎_elim (λ r. idle_frame _ c.args.now _ r.1 refl refl) (λ r. idle_frame _ c.args.now _ r.1 refl refl) o) c.in-Resting.is)
