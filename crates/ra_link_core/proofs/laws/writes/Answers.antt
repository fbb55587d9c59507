use Rattle.ra_link_core.proofs.GrowLemmas.{writes_served, writes_asked}
use Rattle.ra_link_core.proofs.PieceLemmas.{writes_came}
use Rattle.ra_link_core.proofs.laws.writes.Goals as goal

pub returns : goal.returns
returns c = record { served = writes_served; asked = writes_asked; opening = writes_came }
