use Rattle.ra_session.proofs.TurnLaws.{idle_frame, idle_header}
use Rattle.ra_session.proofs.laws.none_due.Goals as goal

pub returns : goal.returns
returns c = record { frame = idle_frame; header = idle_header }
