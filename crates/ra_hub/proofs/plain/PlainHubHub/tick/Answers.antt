use Rattle.std.proofs.Common.{List, subst}
use Rattle.ra_base.specs.declared.key.Key.{Key}
use Rattle.ra_hub.specs.Sweeping.{TicksAll}
use Rattle.ra_hub.specs.Sweeps.{AreDistinct}
use Rattle.ra_hub.proofs.SweptHubs.{sweeps}
use Rattle.ra_registry.proofs.KeptLemmas.{kept_expired}
use Rattle.ra_hub.proofs.plain.PlainHubHub.tick.Goals as goal

pub returns-clause-told : goal.returns-clause-told
returns-clause-told g c = λ h stands.
    let hub = c.args.self.now in
    sweeps hub.registry c.expire-expired.new.registry hub.sessions c.expire-expired.new.sessions c.tick_all-short.new.sessions hub.keys.items c.forget_ended.new.keys.items h c.args.now
    c.expire-expired.result c.tick_all-short.result stands c.expire-expired.ensures.rows c.expire-expired.ensures.sessions c.forget_ended.ensures
    (subst (λ (keys : List Key). AreDistinct keys → TicksAll keys c.args.now c.tick_all-short.result c.expire-expired.new.sessions c.tick_all-short.new.sessions) c.as_slice.ensures.value c.tick_all-short.ensures)

pub invariant_of-self : goal.invariant_of-self
invariant_of-self g c = record {
  kept = kept_expired c.args.self.now.registry c.expire-expired.new.registry c.args.now _ _ c.expire-expired.ensures.rows c.args.self.now.kept;
}
