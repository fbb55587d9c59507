use Rattle.ra_session.proofs.TickSteps.{tick_alone, tick_admits_alone, timeout_is}
use Rattle.ra_session.proofs.session.Session.tick_endpoint.Goals as goal

pub returns-clause-timeout : goal.returns-clause-timeout
returns-clause-timeout c =
    let going = rw (← c.self.view_is) at c.requires.going in
    rw (← c.self.view_is) (timeout_is _ c.args.now _ going c.in_ok-ticked.ensures.timeout)

pub returns-clause-stands : goal.returns-clause-stands
returns-clause-stands c =
    let going = rw (← c.self.view_is) at c.requires.going in
    let none = rw (← c.self.view_is) at c.requires.none in
    rw (← c.self.view_is) (tick_alone _ _ c.args.now going none c.in_ok-ticked.ensures.stands)

pub returns-clause-refused : goal.returns-clause-refused
returns-clause-refused c =
    let going = rw (← c.self.view_is) at c.requires.going in
    let none = rw (← c.self.view_is) at c.requires.none in
    rw (← c.self.view_is) (tick_admits_alone _ c.args.now going none)

pub returns-in_err-ticked-clause-admitted : goal.returns-in_err-ticked-clause-admitted
returns-in_err-ticked-clause-admitted c =
    let going = rw (← c.self.view_is) at c.requires.going in
    let none = rw (← c.self.view_is) at c.requires.none in
    rw (← c.self.view_is) (tick_admits_alone _ c.args.now going none)

pub returns-clause-admitted : goal.returns-clause-admitted
returns-clause-admitted c =
    let going = rw (← c.self.view_is) at c.requires.going in
    let none = rw (← c.self.view_is) at c.requires.none in
    rw (← c.self.view_is) (tick_admits_alone _ c.args.now going none)
