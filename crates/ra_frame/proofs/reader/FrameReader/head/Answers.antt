use Rattle.std.proofs.Common.{sym}
use Rattle.ra_frame.specs.Fronts.{IsPartial}
use Rattle.ra_frame.proofs.FrontLemmas as fronts
use Rattle.ra_frame.proofs.reader.FrameReader.head.Goals as goal

pub returns-in-Partial : goal.returns-in-Partial
returns-in-Partial c =
    let front : IsPartial c.unread-unread.result.now = rw c.in-Partial.is at c.front_of.ensures in
    rw (← c.unread-unread.ensures) (sym (fronts.no_head _ front.no_frame))

pub returns-in-TooLong : goal.returns-in-TooLong
returns-in-TooLong c = rw (← c.unread-unread.ensures) (sym (fronts.long_head _ c.in-TooLong.stated c.in-TooLong.ensures))
