use Rattle.ra_opening.specs.Begins.{draws_for}
use Rattle.ra_opening.proofs.BeginLemmas.{draws_both, draws_least}
use Rattle.ra_opening.proofs.heading.begin_shake.Goals as goal

pub returns-in_default-next_challenge : goal.returns-in_default-next_challenge
returns-in_default-next_challenge g c =
    let named = c.args.upgrade.token in
    (draws_for named, draws_least named, draws_both (g.E.Entropy.draw c.args.entropy.now) (g.E.Entropy.draw c.token_of.new.entropy) (g.E.Entropy.draw c.next_challenge.new.entropy) named c.token_of.ensures.after c.next_challenge.ensures.after)

pub returns-in_default-same_settings : goal.returns-in_default-same_settings
returns-in_default-same_settings g c =
    let named = c.args.upgrade.token in
    (draws_for named, draws_least named, draws_both (g.E.Entropy.draw c.args.entropy.now) (g.E.Entropy.draw c.token_of.new.entropy) (g.E.Entropy.draw c.next_challenge.new.entropy) named c.token_of.ensures.after c.next_challenge.ensures.after)
