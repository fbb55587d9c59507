use Rattle.std.proofs.lemmas.Result.{err_from_is_err_and}
use Rattle.ra_session.proofs.TickSteps.{tick_to, tick_refuses, tick_admits}
use Rattle.ra_session.proofs.session.Session.tick_calls.Goals as goal

pub returns-in_err-endpoint-clause-refused : goal.returns-in_err-endpoint-clause-refused
returns-in_err-endpoint-clause-refused c =
    let p = err_from_is_err_and c.from_residual.result c.from_residual.ensures.1 in
    let going = rw (← c.self.view_is) at c.requires.going in
    rw (p.1, p.2, ← c.self.view_is) (tick_refuses _ c.args.now _ _ going c.in-Ok.ensures.bodies c.in_err-endpoint.ensures.refused)

pub returns-clause-stands : goal.returns-clause-stands
returns-clause-stands c =
    let going = rw (← c.self.view_is) at c.requires.going in
    let is = c.in_ok-endpoint.ensures.stands in
    rw (← c.self.view_is, c.in-Ok.ensures.server) (tick_to _ is.between _ c.args.now _ going c.in-Ok.ensures.bodies is.ticks is.says)

pub returns-clause-refused : goal.returns-clause-refused
returns-clause-refused c =
    let going = rw (← c.self.view_is) at c.requires.going in
    let is = c.in_ok-endpoint.ensures.stands in
    rw (← c.self.view_is) (tick_admits _ is.between c.args.now _ going c.in-Ok.ensures.bodies is.ticks is.admitted)
