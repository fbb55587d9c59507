use Rattle.std.proofs.Common.{◌≡◌, sym, arith}
use Rattle.std.proofs.lemmas.Bool.{and_from, eq-eqb}
use Rattle.ra_model.proofs.Stands.{feed_stands}
use Rattle.ra_proto.proofs.endpoint.Endpoint.feed.Goals as goal

pub returns-clause-stands : goal.returns-clause-stands
returns-clause-stands c =
    let same : c.args.epoch ≡ c.self.inside.epoch = omega (arith, c.if-epoch-self.false) in
    rw (c.fed-self-inside.ensures, c.later.ensures.value, c.in_ok-feed.ensures.ok, ← c.self.view_is)
    (feed_stands c.args.epoch c.args.piece.now c.args.now _ (and_from _ _ (sym c.if-not-is_linked.ensures) (eq-eqb c.args.epoch c.self.inside.epoch same)))
