use Rattle.std.proofs.Common.{sym, ◌∙◌}
use Rattle.ra_dial.proofs.LookLemmas.{answered, switching, looked}
use Rattle.ra_dial.proofs.handshake.Shaking.handle.Goals as goal

pub returns-in-Some-clause-handles : goal.returns-in-Some-clause-handles
returns-in-Some-clause-handles c =
    let came = rw (← c.self.view_is) at c.take_answer.ensures.came in
    rw (← c.self.view_is, ← c.client.view_is) (answered _ _ c.take_answer.new.self c.in-Some.key _ c.in-Some.is came)

pub returns-then-is_some-clause-handles : goal.returns-then-is_some-clause-handles
returns-then-is_some-clause-handles c =
    rw (← c.self.view_is, ← c.client.view_is) (switching _ _ c.in_default.is (sym c.is_some.ensures ∙ c.if-is_some.true))

pub returns-clause-handles : goal.returns-clause-handles
returns-clause-handles c =
    let came = rw (← c.self.view_is) at c.take_frame.ensures.came in
    rw (← c.self.view_is, ← c.client.view_is) (looked _ _ c.take_frame.new.self _ c.in_default.is (sym c.is_some.ensures ∙ c.if-is_some.false) came)
