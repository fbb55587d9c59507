use Rattle.std.proofs.Common.{ap}
use Rattle.std.specs.Prelude.{option_map, Option}
use Rattle.ra_session.specs.View.{happening_of}
use Rattle.ra_session.specs.declared.values.Happened.{Happened}
use Rattle.ra_session.proofs.Meanings.{host_is}
use Rattle.ra_session.proofs.TurnSteps.{quiet_to, quiet_answer, quiet_admits}
use Rattle.ra_session.proofs.session.Session.take_host.Goals as goal

pub returns-clause-stands : goal.returns-clause-stands
returns-clause-stands c =
    let comes = rw (← c.self.view_is) at c.requires.comes in
    let kind = rw (← c.self.view_is) at c.requires.kind in
    rw (← c.self.view_is)
    (quiet_to _ c.finish.new.self c.args.next.id c.args.next.body c.args.now _ _ _ _ comes.going comes.handed
    (host_is _ _ _ _ c.args.next.id c.args.next.body c.args.now kind)
    (λ e stands. c.finish.ensures.stands _ (c.take_message.ensures.stands e stands)) (λ w. w) c.finish.ensures.state)

pub returns-clause-answered : goal.returns-clause-answered
returns-clause-answered c =
    let comes = rw (← c.self.view_is) at c.requires.comes in
    let kind = rw (← c.self.view_is) at c.requires.kind in
    rw (← c.self.view_is)
    (quiet_answer _ c.take_message.new.self c.args.next.id c.args.next.body c.args.now _ _ _ _ c.finish.result comes.handed
    (host_is _ _ _ _ c.args.next.id c.args.next.body c.args.now kind) c.take_message.ensures.stands
    c.finish.ensures.out c.finish.ensures.again
    (ap (λ (x : Option Happened). option_map happening_of x) c.finish.ensures.told.0) c.finish.ensures.told.1 c.finish.ensures.told.2)

pub returns-clause-refused : goal.returns-clause-refused
returns-clause-refused c =
    quiet_admits _ c.args.next.id c.args.next.body c.args.now _ _ _ _ c.requires.comes.fits c.requires.comes.handed
    (host_is _ _ _ _ c.args.next.id c.args.next.body c.args.now c.requires.kind)
