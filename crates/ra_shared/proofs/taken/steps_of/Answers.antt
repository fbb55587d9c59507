use Rattle.ra_locked.proofs.Sums.{saturated}
use Rattle.ra_shared.proofs.taken.steps_of.Goals as goal

pub returns : goal.returns
returns g c = saturated (λ h. h.steps) c.args.handles.now c.loop-handle.handle-index c.loop-handle.steps c.loop-handle-test.false c.loop-handle.invariant.fits c.loop-handle.invariant.rest
