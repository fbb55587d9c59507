use Rattle.std.proofs.Common.{refl, sym, subst}
use Rattle.ra_registry.specs.KeptRecords.{IsKept}
use Rattle.ra_registry.specs.RegistryStates.{RegistryState}
use Rattle.ra_locked.proofs.Steps.{entry_kept, same_kept, enters}
use Rattle.ra_locked.proofs.locked.Locked.miss.Goals as goal

pub invariant_of-self : goal.invariant_of-self
invariant_of-self g c =
    same_kept _ _ _ _ _ _ _ _ _ c.self.inside.seats.items c.self.inside.seats.items c.in_err-miss.ensures.same (λ k. subst (λ (q : RegistryState). IsKept (g.K.Keeper.told c.self.inside.keeper) q) (sym c.in_err-miss.ensures.same) k) refl (λ w. w) c.self.invariant

pub invariant_of-self-2 : goal.invariant_of-self-2
invariant_of-self-2 g c =
    rw c.add.ensures.total (entry_kept _ _ _ _ _ _ _ c.self.inside.seats.items refl refl refl refl c.in_ok-miss.ensures.missed c.self.invariant)

pub returns-clause-missed : goal.returns-clause-missed
returns-clause-missed g c =
    enters _ _ _ _ _ c.last_receipt.result _ c.self.view_is c.history-place.ensures.value c.in_ok-miss.ensures.missed c.last_receipt.ensures.place c.last_receipt.ensures.past
