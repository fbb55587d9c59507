use Rattle.std.proofs.Common.{◌≡◌, take}
use Rattle.ra_chan_server.proofs.server.copied.Given as goal

abbrev pub invariant-loop-channel : goal.invariant-loop-channel
invariant-loop-channel l = l.copy.items ≡ take l.channel-index l.channels
