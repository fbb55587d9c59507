use Rattle.ra_proto.proofs.SayingAll.{queue_fits}
use Rattle.ra_proto.proofs.saying_all.enqueue_all.Goals as goal

pub append_rest_when-requires-clause-fits : goal.append_rest_when-requires-clause-fits
append_rest_when-requires-clause-fits c =
    rw (c.push_all.ensures, c.in_ok-reserve.ensures.entries) (queue_fits c.args.queue.now.entries c.args.last c.args.ack c.written_at.result c.args.bodies.items c.requires.fits c.requires.sizes)
