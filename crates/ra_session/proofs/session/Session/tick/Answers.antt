use Rattle.ra_session.proofs.TickSteps.{tick_ended, tick_ended_refusal, timeout_ended, tick_spent, not_ended, short_admits}
use Rattle.std.proofs.Common.{sym, ◌∙◌}
use Rattle.ra_session.proofs.session.Session.tick.Goals as goal

pub returns-then-is_some-clause-timeout : goal.returns-then-is_some-clause-timeout
returns-then-is_some-clause-timeout c = rw (← c.self.view_is) (timeout_ended _ c.args.now (sym c.is_some.ensures ∙ c.if-is_some.true))

pub returns-then-is_some-clause-stands : goal.returns-then-is_some-clause-stands
returns-then-is_some-clause-stands c = rw (← c.self.view_is) (tick_ended _ c.args.now (sym c.is_some.ensures ∙ c.if-is_some.true))

pub returns-then-is_some-clause-refused : goal.returns-then-is_some-clause-refused
returns-then-is_some-clause-refused c = rw (← c.self.view_is) (tick_ended_refusal _ c.args.now (sym c.is_some.ensures ∙ c.if-is_some.true))

pub returns-then-lacks_ids-clause-refused : goal.returns-then-lacks_ids-clause-refused
returns-then-lacks_ids-clause-refused c =
    let going = not_ended c.self.inside.cause c.is_some.result c.is_some.ensures c.if-is_some.false in
    let lacks = rw (← c.self.view_is) at c.lacks_ids.ensures in
    rw (← c.self.view_is) (tick_spent _ c.args.now _ going lacks c.if-lacks_ids.true)

pub returns-clause-short : goal.returns-clause-short
returns-clause-short c =
    let going = not_ended c.self.inside.cause c.is_some.result c.is_some.ensures c.if-is_some.false in
    let lacks = rw (← c.self.view_is) at c.lacks_ids.ensures in
    rw (← c.self.view_is) (short_admits _ c.args.now _ c.tick_calls.result going lacks c.if-lacks_ids.false)
