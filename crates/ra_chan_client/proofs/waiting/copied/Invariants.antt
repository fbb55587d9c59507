use Rattle.std.proofs.Common.{◌≡◌, ◌++◌}
use Rattle.ra_chan_client.proofs.waiting.copied.Given as goal

abbrev pub invariant-loop-id : goal.invariant-loop-id
invariant-loop-id l = l.copy.entries ++ l.id-iterator ≡ l.waiting.entries
