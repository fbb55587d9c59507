use Rattle.ra_items.proofs.FrameItems.{frames_step, frames_partial, frames_long}
use Rattle.ra_items.proofs.laws.frames.Goals as goal

pub returns : goal.returns
returns g c = record { step = frames_step; partial = frames_partial; long = frames_long }
