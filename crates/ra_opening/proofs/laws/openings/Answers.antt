use Rattle.ra_opening.proofs.LawLemmas.{opened_grows, asked_stays, over_stays, written_stays, one_opening}
use Rattle.ra_opening.proofs.laws.openings.Goals as goal

pub returns : goal.returns
returns c = record { grow = opened_grows; asked = asked_stays; over = over_stays; written = written_stays; one = one_opening }
