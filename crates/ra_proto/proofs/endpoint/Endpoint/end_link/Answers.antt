use Rattle.std.proofs.Common.{sym}
use Rattle.ra_model.specs.Timing.{watched, link_up}
use Rattle.ra_model.proofs.Consistent.{acknowledging_consistent, replayed_consistent}
use Rattle.ra_model.proofs.Stands.{finish_stands}
use Rattle.ra_proto.proofs.endpoint.Endpoint.end_link.Goals as goal

pub invariant_of-self-2 : goal.invariant_of-self-2
unfolding watched link_up
invariant_of-self-2 c =
    let k = replayed_consistent c.later-now.result _ (acknowledging_consistent _ c.self.invariant.0) in
    (rw (c.mark_written.ensures) (record { all = k.all; id = k.id; fits = k.fits; told = k.told }), rw (c.watched-self-inside.ensures, c.link_up-self-inside.ensures) (c.later-now.ensures.bound), rw (c.watched-self-inside.ensures, c.link_up-self-inside.ensures) c.self.invariant.2)

pub returns-clause-stands : goal.returns-clause-stands
returns-clause-stands c =
    rw (c.watched-self-inside.ensures, c.waits.ensures, c.oldest_written.ensures, c.link_up-self-inside.ensures, c.mark_written.ensures, c.in_ok-append_rejoin.ensures.ok, c.later-now.ensures.value, ← c.self.view_is)
    (finish_stands c.args.now _ (sym c.if-not-is_joining.ensures))
