use Rattle.std.proofs.Common.{◌≡◌, ◌-◌, length, take, drop, map, arith, length-append, refl, ap, ◌∙◌}
use Rattle.std.proofs.lemmas.List.{length-map}
use Rattle.ra_registry.specs.declared.past.Past.{Past}
use Rattle.ra_registry.specs.RegistryStates.{RegistryState}
use Rattle.ra_registry.specs.Expiry.{expiry_of}
use Rattle.ra_registry.proofs.Expiries.{over_keys, over_sorted, each_over, over_there, over_apart, expired_consistent, entries_behind}
use Rattle.ra_registry.proofs.registry.Registry.expire.Goals as goal

pub close_expired-requires-clause-there : goal.close_expired-requires-clause-there
close_expired-requires-clause-there c =
    rw (c.as_slice.ensures.value, c.enter_expiries.ensures.entered, entries_behind _ _ c.len-before.result (c.len-before.ensures ∙ c.self.inside.history.ok.0))
    (over_there _ _ _ _ _ _ c.self.invariant c.millis-at.result c.enter_expiries.ensures.ordered)

pub close_expired-requires-clause-apart : goal.close_expired-requires-clause-apart
close_expired-requires-clause-apart c =
    rw (c.as_slice.ensures.value, c.enter_expiries.ensures.entered, entries_behind _ _ c.len-before.result (c.len-before.ensures ∙ c.self.inside.history.ok.0))
    (over_apart _ _ _ _ _ _ c.self.invariant c.millis-at.result c.enter_expiries.ensures.ordered)

pub invariant_of-self : goal.invariant_of-self
invariant_of-self c =
    let r : RegistryState = record {
      long_grace = c.self.inside.graces.long;
      short_grace = c.self.inside.graces.short;
      start = c.self.inside.start.items;
      history = c.self.inside.history.items;
    } in
    let keys = over_keys r c.self.inside.rows c.self.inside.open_keys _ _ _ c.self.invariant c.millis-at.result c.enter_expiries.ensures.ordered in
    let slice_is : take (length c.as_slice.result.now - c.len-before.result) (drop c.len-before.result c.as_slice.result.now) ≡ map (expiry_of c.millis-at.result) keys =
    rw (c.as_slice.ensures.value, c.enter_expiries.ensures.entered) (entries_behind _ _ c.len-before.result (c.len-before.ensures ∙ c.self.inside.history.ok.0)) in
    rw c.enter_expiries.ensures.entered
    (expired_consistent _ _ _ _ _ _ c.self.invariant c.millis-at.result c.enter_expiries.ensures.ordered c.close_expired.new.rows c.close_expired.new.open_keys _
    (rw slice_is at c.close_expired.ensures.rows) (rw slice_is at c.close_expired.ensures.keys) (rw slice_is at c.close_expired.ensures.count)
    c.enter_expiries.ensures.capacity)

pub returns-clause-expired : goal.returns-clause-expired
returns-clause-expired c =
    let r : RegistryState = record {
      long_grace = c.self.inside.graces.long;
      short_grace = c.self.inside.graces.short;
      start = c.self.inside.start.items;
      history = c.self.inside.history.items;
    } in
    let keys = over_keys r c.self.inside.rows c.self.inside.open_keys _ _ _ c.self.invariant c.millis-at.result c.enter_expiries.ensures.ordered in
    let entered = ap (length {A = Past}) c.enter_expiries.ensures.entered in
    rw (← c.self.view_is, ← c.millis-at.ensures.value) (record {
      keys = keys;
      in_order = over_sorted _ _ _ _ _ _ c.self.invariant c.millis-at.result c.enter_expiries.ensures.ordered;
      each = each_over _ _ _ _ _ _ c.self.invariant c.millis-at.result c.enter_expiries.ensures.ordered;
      counted = omega (
        arith,
        c.len.ensures,
        c.len-before.ensures,
        c.self.inside.history.ok.0,
        c.enter_expiries.new.history.ok.0,
        entered,
        length-append c.self.inside.history.items (map (expiry_of c.millis-at.result) keys),
        length-map keys (expiry_of c.millis-at.result),
      );
      entered = rw c.enter_expiries.ensures.entered refl;
    })

pub returns-clause-legal : goal.returns-clause-legal
returns-clause-legal c = (invariant_of-self c).legal
