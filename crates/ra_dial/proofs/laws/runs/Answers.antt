use Rattle.ra_dial.proofs.RunLemmas.{after_more, acts_more, outcomes_more}
use Rattle.ra_dial.proofs.laws.runs.Goals as goal

pub returns : goal.returns
returns c = record { after = after_more; acts = acts_more; outcomes = outcomes_more }
