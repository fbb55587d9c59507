use Rattle.std.proofs.Common.{rules}
use Rattle.ra_proto.proofs.Emptied.{taken_stands}
use Rattle.ra_proto.proofs.endpoint.Endpoint.take_out.Goals as goal

pub returns-then-self-clause-stands : goal.returns-then-self-clause-stands
returns-then-self-clause-stands c = taken_stands c.args.self.now _ (search rules)

pub returns-clause-stands : goal.returns-clause-stands
returns-clause-stands c = taken_stands c.args.self.now _ (search rules)
