use Rattle.ra_grand.proofs.MovingSteps.{down_done}
use Rattle.ra_grand.proofs.world.GrandWorld.down.Goals as goal

pub returns-in-Ok : goal.returns-in-Ok
returns-in-Ok c =
    λ w stands.
    down_done c.answer_is_read.ensures.whole c.answer_is_read.ensures.front c.args.self.now c.bytes_of.new.self c.take_down.new.self c.args.link c.in-Some.spot c.args.count c.in_ok-bytes.bytes
    c.in_ok-bytes.ensures.flushed c.in-Ok.ensures.taken c.in_ok-bytes.ensures.chosen w stands (c.bytes_of.ensures.stands w stands) (c.in-Some.ensures.found w stands)
