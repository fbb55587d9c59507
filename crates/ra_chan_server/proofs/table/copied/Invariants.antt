use Rattle.std.proofs.Common.{◌≡◌, ◌++◌}
use Rattle.ra_chan_server.proofs.table.copied.Given as goal

abbrev pub invariant-loop-arrival : goal.invariant-loop-arrival
invariant-loop-arrival l = l.copy.entries ++ l.arrival-iterator ≡ l.requests.entries
