use Rattle.std.proofs.lemmas.Result.{err_from_is_err_and}
use Rattle.ra_session.proofs.TurnSteps.{too_long_refuses, other_to, other_answer, other_admits}
use Rattle.ra_session.proofs.Carrying.{take_carries}
use Rattle.ra_session.proofs.session.Session.take_other.Goals as goal

pub returns-in_err-up-clause-refused : goal.returns-in_err-up-clause-refused
returns-in_err-up-clause-refused c =
    let p = err_from_is_err_and c.from_residual.result c.from_residual.ensures.1 in
    let linked = rw (← c.self.view_is) at c.requires.linked in
    rw (p.1, p.2, ← c.self.view_is) (too_long_refuses _ c.args.now _ linked c.in_err-up.ensures.refused)

pub returns-clause-leaves : goal.returns-clause-leaves
returns-clause-leaves c =
    let going = rw (← c.self.view_is) at c.requires.going in
    let coming = rw (← c.self.view_is) at c.requires.coming in
    let state = rw c.ended_by-ended.ensures at c.finish.ensures.state in
    rw (← c.self.view_is)
    (other_to _ c.finish.new.self c.in_ok-up.up c.args.now going c.in_ok-up.ensures.handed coming
    (λ e stands. c.finish.ensures.stands _ (c.in_ok-up.ensures.stands e stands)) state)

pub returns-clause-answered : goal.returns-clause-answered
returns-clause-answered c =
    let coming = rw (← c.self.view_is) at c.requires.coming in
    let ended = rw c.ended_by-ended.ensures at c.finish.ensures.told.2 in
    rw (← c.self.view_is)
    (other_answer _ c.next.new.self c.in_ok-up.up c.args.now c.finish.result c.in_ok-up.ensures.handed coming c.in_ok-up.ensures.stands
    c.finish.ensures.out c.finish.ensures.again c.finish.ensures.told.0 c.finish.ensures.told.1 ended)

pub returns-clause-refused : goal.returns-clause-refused
returns-clause-refused c =
    let linked = rw (← c.self.view_is) at c.requires.linked in
    let coming = rw (← c.self.view_is) at c.requires.coming in
    rw (← c.self.view_is) (other_admits _ c.args.now linked coming c.in_ok-up.ensures.refused)

pub returns-in_err-up-clause-carries : goal.returns-in_err-up-clause-carries
returns-in_err-up-clause-carries c =
    let p = err_from_is_err_and c.from_residual.result c.from_residual.ensures.1 in
    rw (p.1, p.2) (take_carries _ _ _ c.in_err-up.ensures.refused)
