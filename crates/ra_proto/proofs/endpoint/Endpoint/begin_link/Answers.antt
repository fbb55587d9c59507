use Rattle.std.proofs.Common.{◌≡◌, ◌<◌, sym, ap, not, false, eqb, arith}
use Rattle.std.proofs.lemmas.Bool.{and_from, lt-ltb, eq-eqb, ne_eqb}
use Rattle.ra_model.specs.Timing.{watched, link_up, link_begun}
use Rattle.ra_model.proofs.Consistent.{replayed_consistent}
use Rattle.ra_model.proofs.Stands.{begin_first_stands, begin_later_stands}
use Rattle.ra_proto.proofs.endpoint.Endpoint.begin_link.Goals as goal

pub invariant_of-self : goal.invariant_of-self
unfolding link_begun
invariant_of-self c =
    let k = c.self.invariant.0 in
    (record { all = k.all; id = k.id; fits = k.fits; told = k.told }, rw (c.link_begun-self-inside.ensures) (c.later-now.ensures.bound), rw (c.link_begun-self-inside.ensures) c.self.invariant.2)

pub returns-then-self-gt0-clause-stands : goal.returns-then-self-gt0-clause-stands
returns-then-self-gt0-clause-stands c =
    let newer : c.self.inside.epoch < c.args.epoch = omega (arith, c.if-epoch-self.false) in
    let later : eqb c.self.inside.epoch 0 ≡ false = ne_eqb c.self.inside.epoch 0 (λ is. omega (arith, is, c.if-self-gt0.true)) in
    rw (c.link_begun-self-inside.ensures, c.clear.ensures, c.in_ok-feed.ensures.ok, c.new-unread.ensures, c.later-now.ensures.value, ← c.self.view_is)
    (begin_later_stands c.args.epoch c.args.chunk.now c.args.now _ (and_from _ _ (ap not (sym c.if-is_ended.ensures)) (lt-ltb c.self.inside.epoch c.args.epoch newer)) later)

pub invariant_of-self-2 : goal.invariant_of-self-2
unfolding watched link_up link_begun
invariant_of-self-2 c =
    let k = replayed_consistent c.later-now.result _ c.self.invariant.0 in
    (rw (c.mark_written.ensures) (record { all = k.all; id = k.id; fits = k.fits; told = k.told }), rw (c.watched-self-inside.ensures, c.link_up-self-inside.ensures, c.link_begun-self-inside-2.ensures) (c.later-now.ensures.bound), rw (c.watched-self-inside.ensures, c.link_up-self-inside.ensures, c.link_begun-self-inside-2.ensures) c.self.invariant.2)

pub returns-clause-stands : goal.returns-clause-stands
returns-clause-stands c =
    let newer : c.self.inside.epoch < c.args.epoch = omega (arith, c.if-epoch-self.false) in
    let first : c.self.inside.epoch ≡ 0 = omega (arith, c.if-self-gt0.false) in
    rw (c.watched-self-inside.ensures, c.waits.ensures, c.oldest_written.ensures, c.link_up-self-inside.ensures, c.link_begun-self-inside-2.ensures, c.mark_written.ensures, c.in_ok-append_replay.ensures.ok, c.new-unwritten.ensures, c.in_ok-feed.ensures.ok, c.new-unread.ensures, c.later-now.ensures.value, ← c.self.view_is)
    (begin_first_stands c.args.epoch c.args.chunk.now c.args.now _ (and_from _ _ (ap not (sym c.if-is_ended.ensures)) (lt-ltb c.self.inside.epoch c.args.epoch newer)) (eq-eqb c.self.inside.epoch 0 first))
