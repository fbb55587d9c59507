use Rattle.std.proofs.lemmas.Result.{err_from_is_err_and}
use Rattle.ra_endpoint_commands.proofs.StepLemmas.{event_done, event_failed}
use Rattle.ra_endpoint_commands.proofs.replay.step_event.Goals as goal

pub returns-in_err-effect : goal.returns-in_err-effect
returns-in_err-effect c = λ w stands.
    let p = err_from_is_err_and c.from_residual.result c.from_residual.ensures.1 in
    rw (p.1, p.2) (event_failed c.in_err-effect.field-0.0 c.args.event.now w _ _ _ (c.in_err-effect.ensures.refused w stands) c.in_err-effect.ensures.err stands)

pub returns : goal.returns
returns c = λ w stands.
    event_done c.args.event.now w _ c.in_ok-effect.effect _ _ (c.in_ok-effect.ensures.refused w stands) (c.in_ok-effect.ensures.effect w stands) (c.in_ok-effect.ensures.stands w stands)
    (rw c.side_of.ensures at c.in_ok-push_effect.ensures)
