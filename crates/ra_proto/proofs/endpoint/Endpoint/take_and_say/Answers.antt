use Rattle.std.proofs.Common.{◌≡◌, length, arith}
use Rattle.ra_model.specs.Taking.{take_frame}
use Rattle.ra_proto.proofs.SayingAll.{say_none}
use Rattle.ra_proto.proofs.endpoint.Endpoint.take_and_say.Goals as goal

pub returns-then-is_empty-clause-stands : goal.returns-then-is_empty-clause-stands
returns-then-is_empty-clause-stands c =
    let none : length c.args.bodies.items ≡ 0 = grind arith in
    λ e h. say_none c.args.bodies.items c.args.now c.take_message.new.self none (take_frame c.args.now e) (c.take_message.ensures.stands e h)
