use Rattle.std.proofs.Common.{ap, ◌∙◌}
use Rattle.std.specs.Prelude.{option_map, Option}
use Rattle.ra_session.specs.View.{happening_of}
use Rattle.ra_session.specs.declared.values.Happened.{Happened}
use Rattle.ra_session.proofs.Meanings.{request_is, active_is}
use Rattle.ra_session.proofs.TurnSteps.{quiet_to, quiet_answer, quiet_admits, works_are, active_again}
use Rattle.ra_session.proofs.session.Session.take_request.Goals as goal

pub spoil-requires-clause-bad : goal.spoil-requires-clause-bad
spoil-requires-clause-bad c =
    let kind = rw (← c.self.view_is) at c.requires.kind in
    let packet = rw (← c.self.view_is) at c.requires.packet in
    let again = active_again _ _ _ c.in-Some.ensures c.in-Err.ensures.refused in
    rw (c.in-Err.ensures.same, again.2)
    (active_is _ _ _ _ c.args.next.id c.args.next.body c.args.now _ _ kind packet c.requires.reading c.requires.request again.1)

pub returns-in-Ok-clause-leaves : goal.returns-in-Ok-clause-leaves
returns-in-Ok-clause-leaves c =
    let comes = rw (← c.self.view_is) at c.requires.comes in
    let kind = rw (← c.self.view_is) at c.requires.kind in
    let packet = rw (← c.self.view_is) at c.requires.packet in
    let state = rw (c.in-Ok.ensures.after, c.millis.ensures.value) at c.finish.ensures.state in
    rw (← c.self.view_is)
    (quiet_to _ c.finish.new.self c.args.next.id c.args.next.body c.args.now _ _ _ _ comes.going comes.handed
    (request_is _ _ _ _ c.args.next.id c.args.next.body c.args.now _ kind packet c.requires.reading c.requires.request c.in-Ok.ensures.free)
    (λ e stands. c.finish.ensures.stands _ (c.take_message.ensures.stands e stands)) (λ w. w) state)

pub returns-in-Ok-clause-answered : goal.returns-in-Ok-clause-answered
returns-in-Ok-clause-answered c =
    let comes = rw (← c.self.view_is) at c.requires.comes in
    let kind = rw (← c.self.view_is) at c.requires.kind in
    let packet = rw (← c.self.view_is) at c.requires.packet in
    rw (← c.self.view_is)
    (quiet_answer _ c.take_message.new.self c.args.next.id c.args.next.body c.args.now _ _ _ _ c.finish.result comes.handed
    (request_is _ _ _ _ c.args.next.id c.args.next.body c.args.now _ kind packet c.requires.reading c.requires.request c.in-Ok.ensures.free)
    c.take_message.ensures.stands c.finish.ensures.out c.finish.ensures.again
    (ap (λ (x : Option Happened). option_map happening_of x) c.finish.ensures.told.0 ∙ c.work_in.ensures ∙ works_are c.in-Ok.call _ c.in-Ok.ensures.call)
    c.finish.ensures.told.1 c.finish.ensures.told.2)

pub returns-in-Ok-clause-refused : goal.returns-in-Ok-clause-refused
returns-in-Ok-clause-refused c =
    let comes = rw (← c.self.view_is) at c.requires.comes in
    let kind = rw (← c.self.view_is) at c.requires.kind in
    let packet = rw (← c.self.view_is) at c.requires.packet in
    rw (← c.self.view_is)
    (quiet_admits _ c.args.next.id c.args.next.body c.args.now _ _ _ _ comes.fits comes.handed
    (request_is _ _ _ _ c.args.next.id c.args.next.body c.args.now _ kind packet c.requires.reading c.requires.request c.in-Ok.ensures.free))
