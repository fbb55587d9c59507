use Rattle.ra_model.proofs.CuttingLemmas.{frames_fit, few_more}
use Rattle.ra_model.proofs.laws.few_frames.Goals as goal

pub returns : goal.returns
returns c = record { all = frames_fit; more = few_more }
