use Rattle.std.proofs.Common.{ap}
use Rattle.std.specs.Prelude.{option_map, Option}
use Rattle.std.proofs.lemmas.Result.{err_from_is_err_and}
use Rattle.ra_session.specs.View.{happening_of}
use Rattle.ra_session.specs.declared.values.Happened.{Happened}
use Rattle.ra_session.proofs.Meanings.{context_is}
use Rattle.ra_session.proofs.TurnSteps.{heard_to, heard_answer, says_refuses, says_admits, initialize_sayable}
use Rattle.ra_session.proofs.Carrying.{sayable_carries}
use Rattle.std.proofs.Common.{◌∷◌, []}
use Rattle.ra_ipc.specs.Messages.{initialize}
use Rattle.ra_session.proofs.session.Session.answer_context.Goals as goal

pub returns-in_err-take_and_say-clause-refused : goal.returns-in_err-take_and_say-clause-refused
returns-in_err-take_and_say-clause-refused c =
    let p = err_from_is_err_and c.from_residual.result c.from_residual.ensures.1 in
    let comes = rw (← c.self.view_is) at c.requires.comes in
    let kind = rw (← c.self.view_is) at c.requires.kind in
    let context = rw (← c.self.view_is) at c.requires.context in
    rw (p.1, p.2, ← c.self.view_is)
    (says_refuses _ c.args.next.id c.args.next.body c.args.now _ _ _ comes.going comes.fits comes.handed
    (context_is _ _ _ _ c.args.next.id c.args.next.body c.args.now _ kind context c.requires.reading.1)
    (λ w. initialize_sayable) c.in-Ok.ensures c.in_err-take_and_say.ensures.refused)

pub returns-clause-leaves : goal.returns-clause-leaves
returns-clause-leaves c =
    let comes = rw (← c.self.view_is) at c.requires.comes in
    let kind = rw (← c.self.view_is) at c.requires.kind in
    let context = rw (← c.self.view_is) at c.requires.context in
    let becomes = rw c.in-Ok.ensures at c.in_ok-take_and_say.ensures.stands in
    rw (← c.self.view_is)
    (heard_to _ c.finish.new.self c.args.next.id c.args.next.body c.args.now _ comes.going comes.handed
    (context_is _ _ _ _ c.args.next.id c.args.next.body c.args.now _ kind context c.requires.reading.1)
    (λ e stands. c.finish.ensures.stands _ (becomes e stands)) (λ w. w) c.finish.ensures.state)

pub returns-clause-answered : goal.returns-clause-answered
returns-clause-answered c =
    let comes = rw (← c.self.view_is) at c.requires.comes in
    let kind = rw (← c.self.view_is) at c.requires.kind in
    let context = rw (← c.self.view_is) at c.requires.context in
    let becomes = rw c.in-Ok.ensures at c.in_ok-take_and_say.ensures.stands in
    rw (← c.self.view_is)
    (heard_answer _ c.take_and_say.new.self c.args.next.id c.args.next.body c.args.now _ c.finish.result comes.handed
    (context_is _ _ _ _ c.args.next.id c.args.next.body c.args.now _ kind context c.requires.reading.1)
    becomes c.finish.ensures.out c.finish.ensures.again
    (ap (λ (x : Option Happened). option_map happening_of x) c.finish.ensures.told.0) c.finish.ensures.told.1 c.finish.ensures.told.2)

pub returns-clause-refused : goal.returns-clause-refused
returns-clause-refused c =
    let comes = rw (← c.self.view_is) at c.requires.comes in
    let kind = rw (← c.self.view_is) at c.requires.kind in
    let context = rw (← c.self.view_is) at c.requires.context in
    rw (← c.self.view_is)
    (says_admits _ c.args.next.id c.args.next.body c.args.now _ _ comes.going comes.fits comes.handed
    (context_is _ _ _ _ c.args.next.id c.args.next.body c.args.now _ kind context c.requires.reading.1)
    (λ w. initialize_sayable) c.in-Ok.ensures c.in_ok-take_and_say.ensures.refused)

pub returns-in_err-take_and_say-clause-carries : goal.returns-in_err-take_and_say-clause-carries
returns-in_err-take_and_say-clause-carries c =
    let p = err_from_is_err_and c.from_residual.result c.from_residual.ensures.1 in
    rw (p.1, p.2) (sayable_carries _ _ (initialize ∷ []) _ _ initialize_sayable c.in-Ok.ensures c.in_err-take_and_say.ensures.refused)
