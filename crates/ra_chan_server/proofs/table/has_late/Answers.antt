use Rattle.ra_chan_server.proofs.Entries.{all_late}
use Rattle.ra_chan_server.proofs.table.has_late.Goals as goal

pub loop-arrival-init : goal.loop-arrival-init
loop-arrival-init c =
    rw (c.into_iter-arrival-iterator.ensures.into_iter_gives, c.iter-arrival-items.ensures.rest, c.requires.here) (all_late c.args.now c.args.requests.now.entries c.requires.order)
