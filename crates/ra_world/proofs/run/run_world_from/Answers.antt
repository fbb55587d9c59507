use Rattle.std.proofs.Common.{◌≡◌, ◌≤◌, List, take, refl, sym, subst, arith}
use Rattle.std.proofs.lemmas.List.{take_all}
use Rattle.ra_base.specs.declared.event.Event.{Event}
use Rattle.ra_model.specs.Frames.{last_id}
use Rattle.ra_world.proofs.Paired.{paired, keeps_front}
use Rattle.std.proofs.lemmas.Option.{slice_get_read}
use Rattle.ra_model.specs.Worlds.{World, new_world}
use Rattle.ra_model.specs.Events.{run}
use Rattle.ra_world.specs.WorldStates.{StandsForWorld}
use Rattle.ra_world.proofs.RunSteps.{run_next, accepted_next}
use Rattle.ra_world.proofs.run.run_world_from.Goals as goal

pub loop-at-preserved : goal.loop-at-preserved
loop-at-preserved c =
    let there = slice_get_read c.args.events.now _ c.loop-at.at c.index-events-at.result refl (omega arith) c.index-events-at.is in
    record {
      stands = subst (λ (w : World). StandsForWorld c.apply.new.self w) (sym (run_next c.args.events.now c.loop-at.at c.index-events-at.result (new_world c.args.base) there)) (c.in_default-apply.ensures.stands _ c.loop-at.invariant.stands);
      accepted = accepted_next c.args.events.now c.loop-at.at c.index-events-at.result (new_world c.args.base) there c.loop-at.invariant.accepted (c.in_default-apply.ensures.refused _ c.loop-at.invariant.stands);
    }

pub returns-clause-pair : goal.returns-clause-pair
returns-clause-pair c =
    let fits : c.args.base ≤ last_id = omega (arith, c.ranges.base.fits) in
    let whole : take c.loop-at.at c.args.events.now ≡ c.args.events.now = take_all c.loop-at.at c.args.events.now (omega arith) in
    paired c.args.base c.args.events.now c.loop-at.world fits
    (subst (λ (es : List Event). StandsForWorld c.loop-at.world (run es (new_world c.args.base))) whole c.loop-at.invariant.stands)

pub returns-clause-rising : goal.returns-clause-rising
returns-clause-rising c front rest is side =
    let whole : take c.loop-at.at c.args.events.now ≡ c.args.events.now = take_all c.loop-at.at c.args.events.now (omega arith) in
    keeps_front c.args.base c.args.events.now front rest c.loop-at.world is
    (subst (λ (es : List Event). StandsForWorld c.loop-at.world (run es (new_world c.args.base))) whole c.loop-at.invariant.stands) side
