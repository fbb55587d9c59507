use Rattle.ra_session.proofs.TurnLaws.{nothing_refused, nothing_took, nothing_again}
use Rattle.ra_session.proofs.laws.nothing.Goals as goal

pub returns : goal.returns
returns c = record { refused = nothing_refused; took = nothing_took; again = nothing_again }
