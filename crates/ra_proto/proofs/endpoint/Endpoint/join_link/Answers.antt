use Rattle.std.proofs.Common.{◌<◌, sym, ap, not, ltb, arith}
use Rattle.std.proofs.lemmas.Bool.{and_from, lt-ltb}
use Rattle.ra_model.specs.Timing.{watched, link_up, link_begun}
use Rattle.ra_model.proofs.Consistent.{replayed_consistent}
use Rattle.ra_proto.proofs.JoinSteps.{join_stands, told_within, is_first}
use Rattle.ra_proto.proofs.endpoint.Endpoint.join_link.Goals as goal

pub invariant_of-self : goal.invariant_of-self
unfolding watched link_up link_begun
invariant_of-self c =
    let k = replayed_consistent c.later-now.result _ c.self.invariant.0 in (
      rw (c.mark_written.ensures, c.told_after-self-inside.ensures) (record { all = k.all; id = k.id; fits = k.fits; told = told_within _ _ _ c.self.invariant.0.told }),
      rw (c.watched-self-inside.ensures, c.link_up-self-inside.ensures, c.link_begun.ensures) (c.later-now.ensures.bound),
      rw (c.watched-self-inside.ensures, c.link_up-self-inside.ensures, c.link_begun.ensures) c.self.invariant.2,
    )

pub returns-clause-stands : goal.returns-clause-stands
returns-clause-stands c =
    let newer : c.self.inside.epoch < c.args.epoch = omega (arith, c.if-epoch-self.false) in
    rw (c.watched-self-inside.ensures, c.waits.ensures, c.oldest_written.ensures, c.link_up-self-inside.ensures, c.link_begun.ensures, c.mark_written.ensures, c.told_after-self-inside.ensures, c.in_ok-unwritten.ensures, c.in_ok-feed.ensures.ok, c.new-unread.ensures, c.later-now.ensures.value, ← c.self.view_is)
    (join_stands (ltb 0 c.self.inside.epoch) c.args.with_resume c.args.epoch c.args.chunk.now c.args.now _ (and_from _ _ (ap not (sym c.if-is_ended.ensures)) (lt-ltb c.self.inside.epoch c.args.epoch newer)) (is_first c.self.inside.epoch))
