use Rattle.ra_dial.proofs.Sessions.{new_going, moved_going, always_going, state_going}
use Rattle.ra_dial.proofs.laws.has_session.Goals as goal

pub returns : goal.returns
returns c = record { new = new_going; each = moved_going; all = always_going; state = state_going }
