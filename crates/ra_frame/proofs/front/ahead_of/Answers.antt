use Rattle.ra_frame.proofs.FrontLemmas as fronts
use Rattle.ra_frame.proofs.front.ahead_of.Goals as goal

pub returns-in-Partial : goal.returns-in-Partial
returns-in-Partial c = c.in-Partial.ensures.no_frame

pub returns-in-TooLong : goal.returns-in-TooLong
returns-in-TooLong c = fronts.long_none c.args.unread.now c.in-TooLong.stated c.in-TooLong.ensures
