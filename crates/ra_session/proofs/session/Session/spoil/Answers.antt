use Rattle.ra_session.proofs.TurnSteps.{spoiled_turn, spoiled_refuses}
use Rattle.ra_session.proofs.Carrying.{heard_carries}
use Rattle.ra_session.proofs.session.Session.spoil.Goals as goal

pub returns-clause-stands : goal.returns-clause-stands
returns-clause-stands c =
    let comes = rw (← c.self.view_is) at c.requires.comes in
    let bad = rw (← c.self.view_is) at c.requires.bad in
    rw (← c.self.view_is)
    (spoiled_turn _ _ c.args.next.id c.args.next.body c.args.now _ comes.going comes.handed bad
    (λ e stands. c.take_out.ensures.stands _ (c.take_message.ensures.stands e stands)))

pub returns-clause-refused : goal.returns-clause-refused
returns-clause-refused c =
    spoiled_refuses _ c.args.next.id c.args.next.body c.args.now _ c.requires.comes.fits c.requires.comes.handed c.requires.bad

pub returns-clause-carries : goal.returns-clause-carries
returns-clause-carries c = heard_carries _ _ _ _ c.args.next.id _ c.args.now _ c.requires.bad
