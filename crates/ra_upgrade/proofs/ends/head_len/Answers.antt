use Rattle.std.proofs.Common.{arith}
use Rattle.ra_upgrade.proofs.EndLemmas.{found_in_front, none_in_front}
use Rattle.ra_upgrade.proofs.ends.head_len.Goals as goal

pub returns-in-Some : goal.returns-in-Some
returns-in-Some c = found_in_front c.args.bytes.now c.min.result c.in-Some.at (omega (arith, c.min.ensures)) c.in-Some.ensures

pub returns-in-None : goal.returns-in-None
returns-in-None c = none_in_front c.args.bytes.now c.min.result (omega (arith, c.min.ensures)) c.in-None.ensures
