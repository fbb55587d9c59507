use Rattle.std.proofs.Common.{sym, ◌∙◌}
use Rattle.ra_chan_server.proofs.Entries.{none_counted, few_keys, one_more_late, one_not_late, none_there, all_counted}
use Rattle.ra_chan_server.proofs.table.late_calls.Goals as goal

pub loop-arrival-init : goal.loop-arrival-init
loop-arrival-init c = (
  none_counted c.args.now c.args.requests.now.entries _ c.requires.order (c.into_iter-arrival-iterator.ensures.into_iter_gives ∙ c.iter-arrival-items.ensures.rest ∙ c.requires.here),
  few_keys c.args.now c.args.requests.now.entries _ c.requires.order c.requires.here c.iter-arrival-items.ensures.fits,
)
