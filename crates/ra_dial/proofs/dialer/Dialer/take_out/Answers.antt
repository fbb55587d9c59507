use Rattle.ra_dial.proofs.CallRows.{front_out, front_gone, is_front}
use Rattle.ra_dial.proofs.dialer.Dialer.take_out.Goals as goal

pub returns-then-not-is_empty-clause-out : goal.returns-then-not-is_empty-clause-out
returns-then-not-is_empty-clause-out c =
    rw (← c.self.view_is) (front_out _ c.take-front.result c.take-front.new.self.bytes c.take-front.ensures.front (is_front _ _ c.is_empty.ensures c.if-not-is_empty.true))

pub returns-then-not-is_empty-clause-stands : goal.returns-then-not-is_empty-clause-stands
returns-then-not-is_empty-clause-stands c =
    rw (← c.self.view_is) (front_gone _ c.take-front.result c.take-front.new.self.bytes c.take-front.ensures.front (is_front _ _ c.is_empty.ensures c.if-not-is_empty.true))
