use Rattle.std.proofs.Common.{◌≡◌, not, sym}
use Rattle.std.specs.List.{filter}
use Rattle.ra_ipc.specs.ChannelServers.{holds}
use Rattle.ra_chan_server.specs.Held.{actives}
use Rattle.ra_chan_server.proofs.Lists.{all_left}
use Rattle.ra_chan_server.proofs.Entries.{lacks}
use Rattle.ra_chan_server.proofs.requests.Requests.take.Goals as goal

pub invariant_of-self : goal.invariant_of-self
invariant_of-self c = (c.take.ensures c.self.inside.next c.self.invariant).0

pub returns-in-Some : goal.returns-in-Some
returns-in-Some c = rw (← c.self.view_is) (c.take.ensures c.self.inside.next c.self.invariant).1

pub returns-in_default : goal.returns-in_default
returns-in_default c =
    let left : filter (λ a. not (holds c.args.id a)) (actives c.self.inside.by_arrival.entries) ≡ actives c.self.inside.by_arrival.entries =
    all_left c.args.id (actives c.self.inside.by_arrival.entries) (lacks c.args.id c.self.inside.by_arrival.entries (sym c.in_default.ensures.arrival)) in
    rw (← c.self.view_is) (sym left)
