use Rattle.std.proofs.Common.{map}
use Rattle.ra_ipc.specs.View.{message}
use Rattle.ra_ipc.specs.ChannelServers.{timeout_one}
use Rattle.ra_chan_server.specs.Requests.{ActiveFits}
use Rattle.ra_chan_server.specs.View.{active_of}
use Rattle.ra_chan_server.proofs.Lists.{all_at, next_found}
use Rattle.ra_chan_server.proofs.waiting.answers_among.Goals as goal

pub answer-requires : goal.answer-requires
answer-requires c = all_at ActiveFits (λ r. active_of r.now) c.args.requests.now c.loop-request.request-index c.request-item.result c.requires c.loop-request-test.true c.request-item.is

pub loop-request-preserved : goal.loop-request-preserved
loop-request-preserved c = record {
  packets = next_found (λ r. active_of r.now) (timeout_one c.args.now) c.args.requests.now c.loop-request.request-index c.request-item.result (map message c.loop-request.packets.items) _ _
      c.loop-request-test.true c.request-item.is c.loop-request.invariant.packets c.in_ok-packet.ensures.packet c.in_ok-add.ensures.ok;
  fits = c.in_ok-add.ensures.fits;
}
