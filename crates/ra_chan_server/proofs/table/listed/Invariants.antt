use Rattle.std.proofs.Common.{◌≡◌, ◌++◌, map}
use Rattle.std.specs.List.{filter}
use Rattle.ra_chan_server.specs.Requests.{is_here}
use Rattle.ra_chan_server.specs.View.{active_of}
use Rattle.ra_chan_server.specs.Held.{actives}
use Rattle.ra_chan_server.proofs.Entries.{shown}
use Rattle.ra_chan_server.proofs.table.listed.Given as goal

abbrev pub invariant-loop-arrival : goal.invariant-loop-arrival
invariant-loop-arrival l = map (λ r. active_of r.now) l.found.items ++ shown l.requests.entries l.arrival-iterator ≡ filter is_here (actives l.requests.entries)
