use Rattle.std.proofs.Common.{◌≡◌, None, subst}
use Rattle.ra_model.specs.Endpoints.{Endpoint}
use Rattle.ra_model.specs.EndpointStates.{StandsFor}
use Rattle.ra_model.specs.Taking.{delivery}
use Rattle.ra_session.specs.SessionStates.{SessionState}
use Rattle.std.proofs.lemmas.Result.{err_from_is_err_and}
use Rattle.ra_session.proofs.TurnSteps.{too_long_refuses, none_to, none_answer, none_admits}
use Rattle.ra_session.proofs.Carrying.{take_carries}
use Rattle.ra_session.proofs.session.Session.take_one.Goals as goal

pub returns-in_err-peek-clause-refused : goal.returns-in_err-peek-clause-refused
returns-in_err-peek-clause-refused c =
    let p = err_from_is_err_and c.from_residual.result c.from_residual.ensures.1 in
    let linked = rw (← c.self.view_is) at c.requires.linked in
    rw (p.1, p.2, ← c.self.view_is) (too_long_refuses _ c.args.now _ linked c.in_err-peek.ensures.refused)

pub returns-in-Nothing-clause-leaves : goal.returns-in-Nothing-clause-leaves
returns-in-Nothing-clause-leaves c =
    let none = rw c.in-Nothing.is at c.in_ok-peek.ensures.agrees in
    none_to c.args.self.now c.finish.new.self c.args.now (subst (λ (v : SessionState). (e : Endpoint) → StandsFor v.endpoint e → delivery e ≡ None) c.self.view_is none) c.finish.ensures.stands c.finish.ensures.state

pub returns-in-Nothing-clause-answered : goal.returns-in-Nothing-clause-answered
returns-in-Nothing-clause-answered c =
    let none = rw c.in-Nothing.is at c.in_ok-peek.ensures.agrees in
    none_answer c.args.self.now c.args.now c.finish.result (subst (λ (v : SessionState). (e : Endpoint) → StandsFor v.endpoint e → delivery e ≡ None) c.self.view_is none)
    c.finish.ensures.out c.finish.ensures.again c.finish.ensures.told.0 c.finish.ensures.told.1 c.finish.ensures.told.2

pub returns-in-Nothing-clause-refused : goal.returns-in-Nothing-clause-refused
returns-in-Nothing-clause-refused c =
    let none = rw c.in-Nothing.is at c.in_ok-peek.ensures.agrees in
    let linked = rw (← c.self.view_is) at c.requires.linked in
    rw (← c.self.view_is) (none_admits _ c.args.now linked none c.in_ok-peek.ensures.refused)

pub returns-in_err-peek-clause-carries : goal.returns-in_err-peek-clause-carries
returns-in_err-peek-clause-carries c =
    let p = err_from_is_err_and c.from_residual.result c.from_residual.ensures.1 in
    rw (p.1, p.2) (take_carries _ _ _ c.in_err-peek.ensures.refused)
