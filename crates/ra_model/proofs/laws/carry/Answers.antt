use Rattle.ra_model.proofs.CuttingLemmas.{carry_nothing, carry_step, carry_more, carry_cut}
use Rattle.ra_model.proofs.laws.carry.Goals as goal

pub returns : goal.returns
returns c = record { nothing = carry_nothing; step = carry_step; more = carry_more; cut = carry_cut }
