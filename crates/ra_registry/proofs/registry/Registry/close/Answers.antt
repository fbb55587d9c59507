use Rattle.std.proofs.Common.{arith, sym, subst}
use Rattle.ra_registry.specs.RegistryStates.{RegistryState}
use Rattle.ra_registry.specs.Seats.{IsUnspent}
use Rattle.ra_registry.proofs.Entered.{seat_left, closed_consistent}
use Rattle.ra_registry.proofs.registry.Registry.close.Goals as goal

pub unwrap-requires : goal.unwrap-requires
unwrap-requires c =
    let left : IsUnspent c.args.seat c.self.inside.history.items =
    subst (λ (r : RegistryState). IsUnspent c.args.seat r.history) (sym c.self.view_is) c.requires in
    let some = seat_left _ _ _ _ _ _ c.self.invariant c.args.seat left in
    c.push.ensures.succeeds (omega (arith, some, c.self.invariant.has_room, c.self.inside.history.ok.0))

pub overflow_sub-self : goal.overflow_sub-self
overflow_sub-self c =
    let left : IsUnspent c.args.seat c.self.inside.history.items =
    subst (λ (r : RegistryState). IsUnspent c.args.seat r.history) (sym c.self.view_is) c.requires in
    let some = seat_left _ _ _ _ _ _ c.self.invariant c.args.seat left in
    omega (arith, some)

pub invariant_of-self : goal.invariant_of-self
invariant_of-self c =
    let left : IsUnspent c.args.seat c.self.inside.history.items =
    subst (λ (r : RegistryState). IsUnspent c.args.seat r.history) (sym c.self.view_is) c.requires in
    rw (c.push.ensures.items, c.unwrap.ensures, c.millis-at.ensures.value)
    (closed_consistent _ _ _ _ _ _ c.self.invariant c.close_row.new.rows c.forget_closed.new.open_keys _ c.args.seat c.args.cause c.args.now left c.close_row.ensures c.forget_closed.ensures.keys c.forget_closed.ensures.count c.push.ensures.capacity)

pub returns-clause-legal : goal.returns-clause-legal
returns-clause-legal c = (invariant_of-self c).legal
