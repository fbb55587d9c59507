use Rattle.std.proofs.Common.{◌≡◌, map, take}
use Rattle.std.specs.List.{filter}
use Rattle.ra_ipc.specs.ChannelServers.{is_timed_out}
use Rattle.ra_chan_server.specs.Requests.{id_in}
use Rattle.ra_chan_server.specs.View.{active_of}
use Rattle.ra_chan_server.proofs.waiting.late_among.Given as goal

abbrev pub invariant-loop-request : goal.invariant-loop-request
invariant-loop-request l = l.ids.items ≡ map id_in (filter (is_timed_out l.now) (map (λ r. active_of r.now) (take l.request-index l.requests)))
