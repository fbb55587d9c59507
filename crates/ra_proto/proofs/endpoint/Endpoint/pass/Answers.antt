use Rattle.std.proofs.Common.{false, []}
use Rattle.ra_model.specs.declared.frame.Frame.{Frame}
use Rattle.ra_model.proofs.Consistent.{passed_consistent}
use Rattle.ra_proto.proofs.endpoint.Endpoint.pass.Goals as goal

pub invariant_of-self : goal.invariant_of-self
invariant_of-self c =
    let frame : Frame = record { kind = 3; wide = false; id = 0; ack = c.args.ack; body = [] } in
    let k = passed_consistent frame c.self.inside.unread c.later-self-inside.result _ c.self.invariant.0 in
    (rw (c.acknowledge.ensures.rest, c.max-upto.ensures, c.min.ensures) (record { all = k.all; id = k.id; fits = k.fits; told = k.told }), c.later-self-inside.ensures.bound, c.self.invariant.2)
