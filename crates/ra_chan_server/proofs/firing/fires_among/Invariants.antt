use Rattle.std.proofs.Common.{◌≡◌, map, take}
use Rattle.std.specs.List.{AllByRecursion, filter_map}
use Rattle.ra_values.specs.View.{tree}
use Rattle.ra_ipc.specs.Packets.{MessageFits}
use Rattle.ra_ipc.specs.View.{message}
use Rattle.ra_ipc.specs.ChannelServers.{fire_one}
use Rattle.ra_chan_server.specs.View.{active_of}
use Rattle.ra_chan_server.proofs.firing.fires_among.Given as goal

abbrev pub invariant-loop-request : goal.invariant-loop-request
invariant-loop-request l = record {
  packets : map message l.packets.items ≡ filter_map (fire_one l.fire.channel l.fire.event (tree l.fire.body)) (map (λ r. active_of r.now) (take l.request-index l.requests));
  fits : AllByRecursion MessageFits (map message l.packets.items);
}
