use Rattle.ra_link_core.proofs.TurnLemmas.{after_left, after_stays}
use Rattle.ra_link_core.proofs.turns.after_turn.Goals as goal

pub returns-in-Some-clause-made : goal.returns-in-Some-clause-made
returns-in-Some-clause-made g c = λ n jobs base out s v u going grows is.
    after_left n c.args.again c.in-Some.cause c.args.seat c.args.now _ _ jobs base out s v u c.close.ensures.told going (rw c.in-Some.is at is)

pub returns-in-None-clause-made : goal.returns-in-None-clause-made
returns-in-None-clause-made g c = λ n jobs base out s v u going grows is.
    rw c.going_on.ensures (after_stays c.args.again n c.args.seat c.args.now (g.H.Hub.stands c.args.hub.now) jobs base out s v u going grows (rw c.in-None.is at is))
