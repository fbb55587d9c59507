use Rattle.std.proofs.Common.{ℕ, sym, subst}
use Rattle.ra_model.specs.Calls.{moment}
use Rattle.ra_model.specs.HeardPlaces.{applied}
use Rattle.ra_model.specs.EndpointStates.{EndpointState, StandsFor}
use Rattle.ra_proto.specs.Passed.{received}
use Rattle.ra_proto.proofs.Applied.{applied_message, handed_message}
use Rattle.ra_proto.proofs.endpoint.Endpoint.apply_message.Goals as goal

pub returns-clause-stands : goal.returns-clause-stands
returns-clause-stands c =
    let s : EndpointState = c.args.self.now in
    rw (c.receive.ensures.received)
    (λ e h. subst (λ (n : ℕ). StandsFor (received n c.args.frame.ack c.args.now s) (applied (moment c.args.now e) c.args.frame e)) (sym c.requires.in_order) (applied_message c.args.frame c.args.now s c.requires.kind c.requires.in_order c.receive.ensures.consistent e h))

pub returns-clause-handed : goal.returns-clause-handed
returns-clause-handed c = handed_message c.args.frame c.args.self.now c.requires.kind c.requires.in_order
