use Rattle.std.proofs.Common.{◌≡◌, drop}
use Rattle.ra_proto.specs.SayAll.{first_large}
use Rattle.ra_proto.proofs.saying_all.check_sizes.Given as goal

abbrev pub invariant-loop-body : goal.invariant-loop-body
invariant-loop-body l = first_large (drop l.body-index l.bodies) ≡ first_large l.bodies
