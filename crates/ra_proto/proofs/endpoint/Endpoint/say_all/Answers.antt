use Rattle.std.proofs.Common.{◌≡◌, length, arith}
use Rattle.ra_proto.proofs.SayingAll.{say_none}
use Rattle.ra_proto.proofs.endpoint.Endpoint.say_all.Goals as goal

pub returns-then-is_empty-clause-stands : goal.returns-then-is_empty-clause-stands
returns-then-is_empty-clause-stands c =
    let none : length c.args.bodies.items ≡ 0 = grind arith in
    say_none c.args.bodies.items c.args.now c.args.self.now none
