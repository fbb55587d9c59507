use Rattle.std.proofs.Common.{[], ◌∷◌, ◌++◌, sym, subst}
use Rattle.std.proofs.lemmas.Result.{on_ok_weaker}
use Rattle.ra_model.specs.Worlds.{World, new_world}
use Rattle.ra_world.specs.WorldStates.{StandsForWorld}
use Rattle.ra_world.proofs.WorldEvents.{stands_after}
use Rattle.ra_world.proofs.RunSteps.{run_one_more}
use Rattle.ra_world.proofs.Paired.{paired, takes_nothing_back}
use Rattle.ra_world.proofs.world.World.apply.Goals as goal

pub returns-clause-pair : goal.returns-clause-pair
returns-clause-pair c =
    on_ok_weaker c.step.result
    (λ stands base events fits t. paired base (events ++ c.args.event.now ∷ []) c.step.new.self fits (subst (λ (w : World). StandsForWorld c.step.new.self w) (sym (run_one_more events c.args.event.now (new_world base))) (stands _ t)))
    (stands_after c.args.event.now c.args.self.now c.step.new.self c.step.result c.step.ensures.does)

pub returns-clause-rising : goal.returns-clause-rising
returns-clause-rising c =
    on_ok_weaker c.step.result
    (λ stands base events t side. takes_nothing_back base events (c.args.event.now ∷ []) c.args.self.now c.step.new.self t (subst (λ (w : World). StandsForWorld c.step.new.self w) (sym (run_one_more events c.args.event.now (new_world base))) (stands _ t)) side)
    (stands_after c.args.event.now c.args.self.now c.step.new.self c.step.result c.step.ensures.does)
