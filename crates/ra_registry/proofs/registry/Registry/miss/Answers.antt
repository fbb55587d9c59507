use Rattle.std.proofs.Common.{◌≡◌, None, arith, sym, subst}
use Rattle.ra_registry.specs.RegistryStates.{RegistryState}
use Rattle.ra_registry.specs.Rows.{row_of}
use Rattle.ra_registry.proofs.Entered.{missed_consistent}
use Rattle.ra_registry.proofs.registry.Registry.miss.Goals as goal

pub invariant_of-self-2 : goal.invariant_of-self-2
invariant_of-self-2 c =
    let none = subst (λ (r : RegistryState). row_of r c.args.key.now ≡ None) (sym c.self.view_is) c.requires in
    rw (c.push.ensures.items, c.unwrap.ensures, c.in_ok-reserve.ensures.items, c.millis.ensures.value, c.same.ensures)
    (missed_consistent _ _ _ _ _ _ c.self.invariant _ c.args.key.now c.args.now none
    (omega (arith, c.self.inside.history.ok.0, c.len.ensures.len, c.reserve.ensures.len, c.in_ok-reserve.ensures.ok, c.push.ensures.capacity)))
