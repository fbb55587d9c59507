use Rattle.ra_proto.proofs.Peeking.{next_comes, front_delivery}
use Rattle.ra_proto.proofs.coming.message_of.Goals as goal

pub returns-clause-next : goal.returns-clause-next
returns-clause-next c = λ s front is. next_comes c.args.frame c.args.len s is front

pub returns-clause-agrees : goal.returns-clause-agrees
returns-clause-agrees c = λ s front is. front_delivery c.args.frame c.args.len s is front
