use Rattle.std.proofs.Common.{◌≡◌, Some, arith, refl, sym, subst}
use Rattle.ra_registry.specs.RegistryStates.{RegistryState}
use Rattle.ra_registry.specs.Admission.{admission_refusal, key_of}
use Rattle.ra_registry.proofs.Entered.{refused_consistent}
use Rattle.ra_registry.proofs.registry.Registry.refuse.Goals as goal

pub invariant_of-self-2 : goal.invariant_of-self-2
invariant_of-self-2 c =
    let refused = subst (λ (r : RegistryState). admission_refusal r c.args.ask.now c.args.at ≡ Some c.args.reason) (sym c.self.view_is) c.requires in
    rw (c.enter_request.ensures.history, c.enter_request.ensures.place, c.reserve.ensures.items, c.key_of.ensures)
    (refused_consistent _ _ _ _ _ _ c.self.invariant c.enter_request.new.rows _ (key_of c.args.ask.now) c.args.at c.args.ask.now.kind c.args.ask.now.reconnection c.args.reason
    (c.args.ask.now, refl, refl, refl, refused)
    (rw c.reserve.ensures.items at c.enter_request.ensures.rows)
    (omega (arith, c.self.inside.history.ok.0, c.len.ensures.len, c.reserve.ensures.len, c.in_ok-reserve.ensures.ok, c.enter_request.ensures.capacity)))
