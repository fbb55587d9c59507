use Rattle.ra_link_core.proofs.TurnLemmas.{lose_stands}
use Rattle.ra_link_core.proofs.link_core.leave_in.Goals as goal

pub returns-in-Seated-clause-made : goal.returns-in-Seated-clause-made
returns-in-Seated-clause-made g c = λ h stands.
    rw c.in-Seated.is (lose_stands c.in-Seated.seat c.args.now h (g.H.Hub.stands c.lost.new.self) (c.lost.ensures.told h stands))

pub returns-in-Ended-clause-made : goal.returns-in-Ended-clause-made
returns-in-Ended-clause-made g c = λ h stands.
    rw c.in-Ended.is (lose_stands c.in-Ended.seat c.args.now h (g.H.Hub.stands c.lost-in-Ended.new.self) (c.lost-in-Ended.ensures.told h stands))
