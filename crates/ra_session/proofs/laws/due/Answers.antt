use Rattle.ra_session.proofs.TurnLaws.{due_took, due_left, due_fewer, due_linked}
use Rattle.ra_session.proofs.laws.due.Goals as goal

pub returns : goal.returns
returns c = record { took = due_took; left = due_left; fewer = due_fewer; linked = due_linked }
