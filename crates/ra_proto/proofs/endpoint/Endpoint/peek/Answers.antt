use Rattle.std.proofs.Common.{sym, ◌∙◌}
use Rattle.std.proofs.lemmas.Bool.{cond-true, cond-false}
use Rattle.ra_model.proofs.StandsTaking.{delivery_none}
use Rattle.ra_frame.specs.Fronts.{IsPartial}
use Rattle.ra_proto.proofs.Peeking.{other_delivery, other_admits}
use Rattle.ra_proto.proofs.endpoint.Endpoint.peek.Goals as goal

pub returns-then-not-is_linked-clause-agrees : goal.returns-then-not-is_linked-clause-agrees
returns-then-not-is_linked-clause-agrees c = rw (← c.self.view_is) (delivery_none _ (cond-false _ _ _ (sym c.if-not-is_linked.ensures)))

pub returns-in-Ok-None-clause-agrees : goal.returns-in-Ok-None-clause-agrees
returns-in-Ok-None-clause-agrees c =
    let front : IsPartial c.self.inside.unread = rw (c.in-Ok-None.field-0-is) at c.in-Ok-None.ensures.found in
    rw (← c.self.view_is) (delivery_none _ (cond-true _ _ _ (sym c.if-not-is_linked.ensures) ∙ front.no_frame))

pub returns-then-has_other-clause-agrees : goal.returns-then-has_other-clause-agrees
returns-then-has_other-clause-agrees c =
    other_delivery c.args.self.now (sym c.if-has_other.ensures) (rw (← c.self.view_is) (sym c.if-not-is_linked.ensures))

pub returns-then-has_other-clause-refused : goal.returns-then-has_other-clause-refused
returns-then-has_other-clause-refused c = other_admits c.args.self.now (sym c.if-has_other.ensures)
