use Rattle.std.proofs.Common.{length}
use Rattle.ra_endpoint_commands.proofs.Drains.{IsDraining}
use Rattle.ra_endpoint_commands.proofs.receiver.Receiver.drain.Given as goal

abbrev pub invariant-frames : goal.invariant-frames
invariant-frames l = IsDraining l.fn.self l.fn.text.items l.self l.text.items

abbrev pub decreases-frames : goal.decreases-frames
decreases-frames l = length l.self.unread
