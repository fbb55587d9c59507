use Rattle.std.proofs.Common.{sym, ◌∙◌}
use Rattle.ra_chan_client.proofs.Ascents.{found_is, in_below}
use Rattle.ra_chan_client.proofs.ids.has.Goals as goal

pub returns-clause-below : goal.returns-clause-below
returns-clause-below c = λ n are is. in_below n c.args.id c.args.ids.now.keys are.below (sym (c.contains.ensures ∙ found_is c.args.id c.args.ids.now.keys) ∙ is)
