use Rattle.std.proofs.Common.{◌≡◌, ◌+◌, ◌<◌, ◌^◌, length}
use Rattle.std.specs.List.{filter_map}
use Rattle.ra_ipc.specs.ChannelServers.{timeout_one}
use Rattle.ra_chan_server.specs.Held.{actives}
use Rattle.ra_chan_server.proofs.Entries.{shown}
use Rattle.ra_chan_server.proofs.table.late_calls.Given as goal

abbrev pub invariant-loop-arrival : goal.invariant-loop-arrival
invariant-loop-arrival l =
    (l.count + length (filter_map (timeout_one l.now) (shown l.requests.entries l.arrival-iterator)) ≡ length (filter_map (timeout_one l.now) (actives l.requests.entries)))
    × (length (filter_map (timeout_one l.now) (actives l.requests.entries)) < 2 ^ 64)
