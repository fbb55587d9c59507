use Rattle.std.proofs.Common.{ap, ◌∙◌}
use Rattle.std.specs.Prelude.{option_map, Option}
use Rattle.ra_ipc.specs.View.{message}
use Rattle.ra_ipc.specs.ChannelPackets.{Notice}
use Rattle.ra_session.specs.View.{happening_of}
use Rattle.ra_session.specs.Hearing as hearing
use Rattle.ra_session.specs.declared.values.Happened.{Happened}
use Rattle.ra_session.proofs.Meanings.{notice_is}
use Rattle.ra_session.proofs.TurnSteps.{quiet_to, quiet_answer, quiet_admits, still_sayable}
use Rattle.ra_session.proofs.session.Session.take_notice.Goals as goal

pub returns-clause-leaves : goal.returns-clause-leaves
returns-clause-leaves c =
    let comes = rw (← c.self.view_is) at c.requires.comes in
    let kind = rw (← c.self.view_is) at c.requires.kind in
    let packet = rw (← c.self.view_is) at c.requires.packet in
    let silent = rw (← c.self.view_is) at c.requires.silent in
    let state = rw c.in_ok-heard.ensures.after at c.finish.ensures.state in
    rw (← c.self.view_is)
    (quiet_to _ c.finish.new.self c.args.next.id c.args.next.body c.args.now _ _ _ _ comes.going comes.handed
    (notice_is _ _ _ _ c.args.next.id c.args.next.body c.args.now _ kind packet c.requires.reading c.requires.request silent)
    (λ e stands. c.finish.ensures.stands _ (c.take_message.ensures.stands e stands)) (still_sayable c.self.inside.client (message c.args.packet)) state)

pub returns-clause-answered : goal.returns-clause-answered
returns-clause-answered c =
    let comes = rw (← c.self.view_is) at c.requires.comes in
    let kind = rw (← c.self.view_is) at c.requires.kind in
    let packet = rw (← c.self.view_is) at c.requires.packet in
    let silent = rw (← c.self.view_is) at c.requires.silent in
    rw (← c.self.view_is)
    (quiet_answer _ c.take_message.new.self c.args.next.id c.args.next.body c.args.now _ _ _ _ c.finish.result comes.handed
    (notice_is _ _ _ _ c.args.next.id c.args.next.body c.args.now _ kind packet c.requires.reading c.requires.request silent)
    c.take_message.ensures.stands c.finish.ensures.out c.finish.ensures.again
    (ap (λ (x : Option Happened). option_map happening_of x) c.finish.ensures.told.0 ∙ c.happened_in.ensures
    ∙ ap (λ (x : Option Notice). hearing.happening_of x) c.in_ok-heard.ensures.notice)
    c.finish.ensures.told.1 c.finish.ensures.told.2)

pub returns-clause-refused : goal.returns-clause-refused
returns-clause-refused c =
    let comes = rw (← c.self.view_is) at c.requires.comes in
    let kind = rw (← c.self.view_is) at c.requires.kind in
    let packet = rw (← c.self.view_is) at c.requires.packet in
    let silent = rw (← c.self.view_is) at c.requires.silent in
    rw (← c.self.view_is)
    (quiet_admits _ c.args.next.id c.args.next.body c.args.now _ _ _ _ comes.fits comes.handed
    (notice_is _ _ _ _ c.args.next.id c.args.next.body c.args.now _ kind packet c.requires.reading c.requires.request silent))
