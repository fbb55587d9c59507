use Rattle.ra_endpoint_commands.proofs.StepLemmas.{take_done}
use Rattle.ra_endpoint_commands.proofs.replay.take_one.Goals as goal

pub returns : goal.returns
returns c = λ w stands.
    take_done c.args.side w _ c.in_ok-effect.effect _ _ _ (c.in_ok-effect.ensures.refused w stands) (c.in_ok-effect.ensures.stands w stands) (c.in_ok-effect.ensures.effect w stands)
    c.in_ok-push_effect.ensures c.is_frame.ensures
