use Rattle.ra_frame.proofs.FrontLemmas as fronts
use Rattle.ra_frame.proofs.reader.FrameReader.ready.Goals as goal

pub returns-in-Whole-clause-none : goal.returns-in-Whole-clause-none
returns-in-Whole-clause-none c = rw (← c.unread.ensures) (λ none _. absurd (fronts.whole_held _ _ c.in-Whole.ensures none))
