use Rattle.std.proofs.Common.{rules, ap, sym, ◌∙◌, map, [], ◌++◌, ◌∷◌, append_assoc}
use Rattle.ra_router.specs.Hops.{replay}
use Rattle.ra_router.specs.Stepping.{told_by}
use Rattle.ra_router.proofs.Replays.{one_less, one_step, ended}
use Rattle.ra_router.proofs.runs.run.Goals as goal

pub loop-step-init : goal.loop-step-init
loop-step-init c = record {
  stands = c.new-router.ensures;
  tells = ap (map told_by) c.new-told.ensures.items;
  whole = c.into_iter-step-iterator.ensures.into_iter_gives.0;
  len = search rules;
}

pub loop-step-preserved : goal.loop-step-preserved
loop-step-preserved c =
    let was = c.loop-step.invariant in
    record {
      stands = c.in_ok-step.ensures.after c.loop-step.yielded was.stands;
      tells =
          one_step c.loop-step.yielded c.in-Some.step c.loop-step.told.items c.push.new.self.items c.in_ok-step.field-0 was.tells
          c.in_ok-push.ensures.items (c.in_ok-step.ensures.told c.loop-step.yielded was.stands);
      whole = append_assoc c.loop-step.yielded (c.in-Some.step ∷ []) c.next.new.self.rest.items ∙ (ap (λ l. c.loop-step.yielded ++ l) (sym c.in-Some.ensures.steps.0) ∙ was.whole);
      len = one_less c.loop-step.step-iterator.rest.len c.next.new.self.rest.len c.loop-step.step-iterator.rest.items c.in-Some.step c.next.new.self.rest.items c.in-Some.ensures.steps.0 c.in-Some.ensures.steps.1 was.len;
    }

pub returns : goal.returns
returns c =
    let was = c.loop-step.invariant in
    was.tells ∙ ap (replay []) (ended c.loop-step.yielded c.loop-step.step-iterator.rest.items c.args.steps.items was.whole (sym was.len ∙ c.in-None.ensures.steps.0))
