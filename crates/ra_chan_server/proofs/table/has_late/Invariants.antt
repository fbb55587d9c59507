use Rattle.std.proofs.Common.{◌≡◌}
use Rattle.std.specs.List.{list_any}
use Rattle.ra_ipc.specs.ChannelServers.{is_timed_out}
use Rattle.ra_chan_server.specs.Held.{actives}
use Rattle.ra_chan_server.proofs.Entries.{shown}
use Rattle.ra_chan_server.proofs.table.has_late.Given as goal

abbrev pub invariant-loop-arrival : goal.invariant-loop-arrival
invariant-loop-arrival l = list_any (is_timed_out l.now) (shown l.requests.entries l.arrival-iterator) ≡ list_any (is_timed_out l.now) (actives l.requests.entries)
