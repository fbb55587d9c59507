use Rattle.std.proofs.Common.{◌≡◌, drop}
use Rattle.ra_chan_server.proofs.Several.{left_after}
use Rattle.ra_chan_server.proofs.requests.Requests.take_all.Given as goal

abbrev pub invariant-loop-id : goal.invariant-loop-id
invariant-loop-id l = left_after (drop l.id-index l.ids) l.self ≡ left_after l.ids l.fn.self
