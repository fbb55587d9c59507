use Rattle.std.proofs.Common.{◌≡◌, false}
use Rattle.std.specs.List.{list_any}
use Rattle.ra_ipc.specs.ChannelServers.{holds}
use Rattle.ra_chan_server.specs.Held.{actives}
use Rattle.ra_chan_server.proofs.Lists.{none_has}
use Rattle.ra_chan_server.proofs.Entries.{never_came}
use Rattle.ra_chan_server.proofs.requests.Requests.push.Goals as goal

pub add-requires-clause-absent : goal.add-requires-clause-absent
add-requires-clause-absent c =
    let absent : list_any (holds c.args.id) (actives c.self.inside.by_arrival.entries) ≡ false = rw c.self.view_is c.requires.absent in
    never_came c.args.id c.self.inside.by_arrival.entries (none_has c.args.id (actives c.self.inside.by_arrival.entries) absent)
